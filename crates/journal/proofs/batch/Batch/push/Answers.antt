use Rattle.std.proofs.Common.{List, ℕ, ap, sym, ◌∙◌, subst, arith, [], ◌∷◌, ◌++◌}
use Rattle.journal.specs.Lines.{IsLinesText, recovered_lines}
use Rattle.journal.proofs.LineLemmas.{lines_kept, lines_pushed, recovered_of_text}
use Rattle.journal.proofs.batch.Batch.push.Goals as goal

pub invariant_of-self : goal.invariant_of-self
invariant_of-self c = record {
  spells = subst (λ (t : List ℕ). IsLinesText t (recovered_lines (t ++ 10 ∷ []))) (sym c.in_err-push_line.ensures.err) c.self.invariant.spells;
  room = λ some. let was = c.self.invariant.room (omega (arith, some, c.in_err-push_line.ensures.err_len)) in omega (arith, was, c.in_err-push_line.ensures.err_len, c.in_err-push_line.ensures.err_room);
}

pub invariant_of-self-2 : goal.invariant_of-self-2
invariant_of-self-2 c = record {
  spells = lines_kept _ _ (lines_pushed _ _ c.args.line.now _ c.self.invariant.spells c.requires c.in_ok-push_line.ensures.ok);
  room = λ some. c.in_ok-push_line.ensures.room;
}

pub returns-clause-ok : goal.returns-clause-ok
returns-clause-ok c =
    recovered_of_text _ _ (lines_pushed _ _ c.args.line.now _ c.self.invariant.spells c.requires c.in_ok-push_line.ensures.ok)
    ∙ ap (λ (l : List (List ℕ)). l ++ c.args.line.now ∷ []) c.self.view_is
