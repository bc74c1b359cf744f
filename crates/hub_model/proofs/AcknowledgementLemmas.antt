-- What a railway acknowledged is in its outbox.
use native.Mathlib.Omega.{arith}
use Rattle.hub_model.proofs.Common.{◌≡◌, ℕ, ◌≤◌, Bool, true, false, cond, List, [], ◌∷◌, length, Some, None, refl, sym, subst, map, max, nat_lt, bytes_eq, fold, ltb-false, length-append, bytes_eq-Decides, Railway, Call, Send, Ask, AskUnit, Deviation, Fetch, Ack, refused, Acknowledged, AckAhead, HubState, new_state, after_call, step, AcknowledgedAreThere}
use Rattle.hub_model.proofs.HistoryLemmas.{known_by_the_calls}
use Rattle.hub_model.proofs.StepLemmas.{added, step-outbox, step-acknowledged}

abbrev AreThere : HubState → Type 0
AreThere s = (r : Railway) → s.acknowledged r ≤ length (s.outbox r)

acked_there : (s : HubState) (there : AreThere s) (by r : Railway) (n : ℕ) (ahead same : Bool) → ahead ≡ nat_lt (length (s.outbox by)) n → same ≡ bytes_eq by r →
    (after_call s (Ack by n) (cond ahead (refused None AckAhead None (Some (length (s.outbox by)))) (Acknowledged (max (s.acknowledged by) n)))).acknowledged r ≤
    length ((after_call s (Ack by n) (cond ahead (refused None AckAhead None (Some (length (s.outbox by)))) (Acknowledged (max (s.acknowledged by) n)))).outbox r)
acked_there s there by r n true same a e = there r
acked_there s there by r n false true a e =
    let one = (bytes_eq-Decides by r).0 (sym e) in
    let here = there by in
    let few = ltb-false (length (s.outbox by)) n (sym a) in
    let both : max (s.acknowledged by) n ≤ length (s.outbox by) = omega arith in
    rw (← e) (subst (λ q. max (s.acknowledged by) n ≤ length (s.outbox q)) one both)
acked_there s there by r n false false a e = rw (← e) (there r)

there_step : (s : HubState) → AreThere s → (call : Call) → AreThere (step s call)
there_step s there (Send m) r =
    let here = there r in
    let l = length-append (s.outbox r) (added s m r) in
    rw (step-acknowledged s m r, step-outbox s m r) (omega arith)
there_step s there (Ack by n) r = acked_there s there by r n (nat_lt (length (s.outbox by)) n) (bytes_eq by r) refl refl
there_step s there (Ask by w) r = there r
there_step s there (AskUnit by u) r = there r
there_step s there (Deviation by c) r = there r
there_step s there (Fetch by limit) r = there r

there_all : (s : HubState) → AreThere s → (calls : List Call) → AreThere (fold step s calls)
there_all s there [] = there
there_all s there (call ∷ calls) = there_all (step s call) (there_step s there call) calls

pub acknowledged_are_there : AcknowledgedAreThere
acknowledged_are_there history r legal =
    subst (λ s. s.acknowledged r ≤ length (s.outbox r)) (sym (known_by_the_calls history legal)) (there_all new_state (λ q. omega arith) (map (λ e. e.call) history) r)
