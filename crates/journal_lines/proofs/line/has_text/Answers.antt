use Rattle.journal_lines.proofs.Common.{sym, ◌∙◌}
use Rattle.std.proofs.lemmas.Bool.{false≢true}
use Rattle.std.proofs.lemmas.List.{take_rest}
use Rattle.journal_lines.proofs.PartLemmas.{of_parts, its_front, its_behind, its_text, long_enough}
use Rattle.journal_lines.proofs.line.has_text.Goals as goal
use Rattle.journal_lines.proofs.line.has_text.Goals.{then-is_same, else-is_same}

pub returns-then-line-lt-REST : goal.returns-then-line-lt-REST
returns-then-line-lt-REST c = (
  λ e. absurd (false≢true e),
  λ is. absurd (long_enough c.args.line.now c.args.text.now c.requires.digits is c.if-line-lt-REST.true),
)

-- what stands around the digits is there
pub returns-then-is_same-2 : goal.returns-then-is_same-2
returns-then-is_same-2 c =
    let line = c.args.line.now in
    let text = c.args.text.now in
    elim c.if-is_same.branch [
      | then-is_same w ↦ (
        λ e. of_parts line text (c.is_same.ensures.0 w.if-is_same.true) (w.is_same-then-is_same.ensures.0 (sym w.value-is ∙ c.if-is_same-2.true))
            (sym (take_rest line 27) ∙ c.is_same-then-is_same-2.ensures.0 e ∙ take_rest text 1),
        λ is. c.is_same-then-is_same-2.ensures.1 (take_rest line 27 ∙ its_text line text c.requires.digits is ∙ sym (take_rest text 1)),
      )
      | else-is_same w ↦ absurd (false≢true (sym w.if-is_same.false ∙ sym w.value-is ∙ c.if-is_same-2.true))
    ]

pub returns-else-is_same-2 : goal.returns-else-is_same-2
returns-else-is_same-2 c =
    let line = c.args.line.now in
    let text = c.args.text.now in (
      λ e. absurd (false≢true (sym c.if-is_same-2.false ∙ e)),
      λ is. elim c.if-is_same.branch [
        | then-is_same w ↦ w.value-is ∙ w.is_same-then-is_same.ensures.1 (its_behind line text c.requires.digits is)
        | else-is_same w ↦ absurd (false≢true (sym w.if-is_same.false ∙ c.is_same.ensures.1 (its_front line text c.requires.digits is)))
      ],
    )
