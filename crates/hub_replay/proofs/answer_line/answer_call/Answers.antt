use Rattle.hub_replay.proofs.Common.{◌≡◌, ◌++◌, ◌∷◌, [], ap, sym, ◌∙◌, refl, List, ℕ, Reply, reply_text}
use Rattle.hub_replay.proofs.StreamLemmas.{Appends-none}
use Rattle.hub_replay.proofs.RunLemmas.{Advances-said, full_fault, StopsWithin-here, Advances-with_reply_line, StopsWithin-with_reply_line, answers-lines, stops-lines, on_ok, on_err}
use Rattle.hub_replay.proofs.answer_line.answer_call.Goals as goal

said : (pending pending' : List ℕ) (reply defined : Reply) → pending' ≡ pending ++ (reply_text reply ++ 10 ∷ []) → reply ≡ defined → pending' ≡ pending ++ (reply_text defined ++ 10 ∷ [])
said pending pending' reply defined p e = p ∙ ap (λ r. pending ++ (reply_text r ++ 10 ∷ [])) e

pub returns-in_err-reply-clause-answers : goal.returns-in_err-reply-clause-answers
returns-in_err-reply-clause-answers g c = stops-lines c.from_residual.result _ _ _ c.from_residual.ensures.0 (rw (c.in_err-reply.ensures.err) (StopsWithin-here _ c.args.hub.now c.args.output.now _))

pub returns-in_err-push_reply-in-Some-clause-answers : goal.returns-in_err-push_reply-in-Some-clause-answers
returns-in_err-push_reply-in-Some-clause-answers g c =
    let e = rw c.in-Some.is at c.in_ok-reply.ensures.ok in
    stops-lines c.from_residual-in_err-push_reply-in-Some.result _ _ _ c.from_residual-in_err-push_reply-in-Some.ensures.0 (StopsWithin-with_reply_line _ _ c.args.hub.now c.apply_call.new.hub c.args.output.now c.args.call [] _ e.0 e.1 refl (Appends-none _))

pub returns-in_default-clause-answers : goal.returns-in_default-clause-answers
returns-in_default-clause-answers g c =
    let e = rw c.in-Some.is at c.in_ok-reply.ensures.ok in
    let h = c.in_default.ensures.err in
    StopsWithin-with_reply_line _ _ c.args.hub.now c.apply_call.new.hub c.args.output.now c.args.call h.0 h.1 e.0 e.1
    (sym h.2 ∙ c.as_slice.ensures.value ∙ said _ _ _ _ c.in_ok-push_reply-in-Some.ensures.pending e.2) h.3

pub returns-in-Ok-clause-answers : goal.returns-in-Ok-clause-answers
returns-in-Ok-clause-answers g c =
    let e = rw c.in-Some.is at c.in_ok-reply.ensures.ok in
    let pushed = c.in_ok-push_reply-in-Some.ensures in
    Advances-with_reply_line _ _ c.args.hub.now c.apply_call.new.hub c.args.output.now _ c.args.call c.as_slice.result.now e.0 e.1
    (c.as_slice.ensures.value ∙ said _ _ _ _ pushed.pending e.2)
    pushed.counts c.clear.ensures.items c.in-Ok.ensures.ok

pub returns-in-None-clause-answers : goal.returns-in-None-clause-answers
returns-in-None-clause-answers g c =
    let e = rw c.in-None.is at c.in_ok-reply.ensures.ok in
    answers-lines c.push_fault_text.result _ _ _
    (on_ok c.push_fault_text.result c.push_fault_text.ensures.pending c.push_fault_text.ensures.counts
    (λ pending counts. rw (e.1) (Advances-said _ c.args.hub.now c.args.output.now c.push_fault_text.new.self _ _ (λ o. full_fault c.args.call o c.args.hub.now e.0) pending counts)))
    (on_err c.push_fault_text.result (rw (e.1) (StopsWithin-here _ c.args.hub.now c.args.output.now _)))
