use Rattle.hub_replay.proofs.Common.{◌≡◌, ◌++◌, ◌∷◌, [], List, Option, ◌∙◌, arith, ap, sym, refl, length, append_assoc, append-nil, option_to_list, All-same, All-tail, ParsedLine, IsNotMemory, line_total}
use Rattle.hub_replay.proofs.RunLemmas.{Advances-none, Advances-append, StopsWithin-after, StopsWithin-more, StopsWithin-as, stops-lines}
use Rattle.hub_replay.proofs.answering.answer_batch.Goals as goal

pub loop-line-init : goal.loop-line-init
loop-line-init g c = record {
  reportable = c.requires.reportable;
  bounded = omega arith;
  kept = refl;
  answered = ([], refl, Advances-none _ c.args.hub.now c.args.output.now);
}

-- the lines so far, with the one that is answered now, and the rest
split : (all hs now rest : List ParsedLine) (line : ParsedLine) → all ≡ hs ++ now → now ≡ line ∷ rest → all ≡ (hs ++ line ∷ []) ++ rest
split all hs now rest line e steps = e ∙ ap (λ l. hs ++ l) steps ∙ sym (append_assoc hs (line ∷ []) rest)

pub returns-in_err-answer_line-clause-answers : goal.returns-in_err-answer_line-clause-answers
returns-in_err-answer_line-clause-answers g c =
    let i = c.loop-line.invariant.answered in
    let steps = c.pop_front.ensures.items ∙ ap (λ (o : Option ParsedLine). option_to_list o ++ c.pop_front.new.self.items) c.in-Some.is in
    let all = split c.args.lines.now.items i.0 _ _ c.in-Some.line i.1 steps in
    stops-lines c.from_residual.result _ _ _ c.from_residual.ensures.0 (StopsWithin-as all (StopsWithin-more _ (StopsWithin-after i.2 c.in_err-answer_line.ensures.answers)))

pub returns-in_err-write_past_threshold-clause-answers : goal.returns-in_err-write_past_threshold-clause-answers
returns-in_err-write_past_threshold-clause-answers g c =
    let i = c.loop-line.invariant.answered in
    let steps = c.pop_front.ensures.items ∙ ap (λ (o : Option ParsedLine). option_to_list o ++ c.pop_front.new.self.items) c.in-Some.is in
    let all = split c.args.lines.now.items i.0 _ _ c.in-Some.line i.1 steps in
    stops-lines c.from_residual-in_err-write_past_threshold.result _ _ _ c.from_residual-in_err-write_past_threshold.ensures.0 (StopsWithin-as all (StopsWithin-more _ (rw (append-nil (i.0 ++ c.in-Some.line ∷ [])) at (StopsWithin-after (Advances-append i.2 c.in_ok-answer_line.ensures.answers) (c.in_err-write_past_threshold.ensures.answers _)))))

pub loop-line-preserved : goal.loop-line-preserved
loop-line-preserved g c =
    let at = c.loop-line in
    let i = at.invariant.answered in
    let rest : List ParsedLine = c.pop_front.new.self.items in
    let steps : at.lines.items ≡ c.in-Some.line ∷ rest = c.pop_front.ensures.items ∙ ap (λ (o : Option ParsedLine). option_to_list o ++ rest) c.in-Some.is in
    let advances = rw (append-nil (i.0 ++ c.in-Some.line ∷ [])) at (Advances-append (Advances-append i.2 c.in_ok-answer_line.ensures.answers) (c.in_ok-write_past_threshold.ensures.answers _)) in
    record {
      reportable = All-tail IsNotMemory c.in-Some.line rest (All-same IsNotMemory _ _ (sym steps) at.invariant.reportable);
      bounded = omega (arith, at.invariant.bounded, c.in_ok-answer_line.ensures.counted, ap line_total c.in_ok-write_past_threshold.ensures.counts, ap length steps);
      kept = c.in_ok-write_past_threshold.ensures.blames ∙ c.in_ok-answer_line.ensures.blames ∙ at.invariant.kept;
      answered = (i.0 ++ c.in-Some.line ∷ [], split c.args.lines.now.items i.0 _ rest c.in-Some.line i.1 steps, advances);
    }
