use Rattle.hub_shared.proofs.Common.{◌+◌, ◌∙◌, List, [], ◌∷◌, ◌++◌, length, length-append, ap, subst, arith, ℕ, ◌^◌, min, Reply, Entry, answer, IsFault, BookedState, SeatState}
use Rattle.hub_shared.proofs.booked.serve_one.Goals as goal

pub invariant_of-booked : goal.invariant_of-booked
invariant_of-booked g c = (
  omega (arith, c.booked.invariant.0, c.audit.ensures.total, c.add.ensures.total, simp length-append at (ap length c.in-Ok.ensures.grows)),
  c.booked.invariant.1,
  c.booked.invariant.2,
)

pub invariant_of-seat : goal.invariant_of-seat
invariant_of-seat g c = (
  omega (arith, c.seat.invariant.0, c.audit.ensures.amount, c.add.ensures.amount),
  omega (arith, c.seat.invariant.1, c.audit.ensures.parts, c.add.ensures.parts),
  c.seat.invariant.2,
)

pub returns-in-Ok-clause-reply : goal.returns-in-Ok-clause-reply
returns-in-Ok-clause-reply g c =
    let is = ap (λ (b : BookedState). b.history) c.booked.view_is in
    let told = c.in-Ok.ensures.answered in
    (told.0 ∙ ap length is, c.in-Ok.ensures.room, told.1 ∙ ap (λ (h : List Entry). answer h c.args.call) is)

pub returns-in-Ok-clause-booked : goal.returns-in-Ok-clause-booked
returns-in-Ok-clause-booked g c =
    let entry : Reply → Entry = λ reply. record { call = c.args.call; reply = reply } in
    let is = ap (λ (b : BookedState). b.history) c.booked.view_is in
    let grows = c.in-Ok.ensures.grows
    ∙ ap (λ (r : Reply). c.booked.inside.hub ++ entry r ∷ []) c.in-Ok.ensures.answered.1
    ∙ ap (λ (h : List Entry). h ++ entry (answer h c.args.call) ∷ []) is in
    let raised = c.add.ensures.total
    ∙ ap (λ (n : ℕ). n + 1) (c.audit.ensures.total ∙ ap (λ (b : BookedState). b.book) c.booked.view_is) in
    λ i. record { history = grows i; book = raised i }

pub returns-in-Ok-clause-seat : goal.returns-in-Ok-clause-seat
returns-in-Ok-clause-seat g c =
    let parts = c.add.ensures.parts ∙ (c.audit.ensures.parts ∙ ap (λ (s : SeatState). s.parts) c.seat.view_is) in
    let count = ap (λ (s : SeatState). s.count + 1) c.seat.view_is in
    let refused = ap (λ (s : SeatState). s.refused) c.seat.view_is in
    λ i. record { parts = parts i; count = count i; refused = refused i }

pub invariant_of-seat-in-Err : goal.invariant_of-seat-in-Err
invariant_of-seat-in-Err g c = (
  omega (arith, c.seat.invariant.0, c.audit.ensures.amount),
  omega (arith, c.seat.invariant.1, c.audit.ensures.parts),
  omega (arith, c.min-seat-inside.ensures),
)

pub returns-in-Err-clause-fault : goal.returns-in-Err-clause-fault
returns-in-Err-clause-fault g c =
    let is = ap (λ (b : BookedState). b.history) c.booked.view_is in
    subst (λ (h : List Entry). IsFault c.in-Err.fault c.args.call (length h)) is c.in-Err.ensures.fault

pub returns-in-Err-clause-full : goal.returns-in-Err-clause-full
returns-in-Err-clause-full g c = λ full.
    let is = ap (λ (b : BookedState). length b.history) c.booked.view_is in
    c.in-Err.ensures.full (is ∙ full)

pub returns-in-Err-clause-unchanged : goal.returns-in-Err-clause-unchanged
returns-in-Err-clause-unchanged g c =
    let history = c.in-Err.ensures.unchanged ∙ ap (λ (b : BookedState). b.history) c.booked.view_is in
    let book = c.audit.ensures.total ∙ ap (λ (b : BookedState). b.book) c.booked.view_is in
    λ i. record { history = history i; book = book i }

pub returns-in-Err-clause-refused : goal.returns-in-Err-clause-refused
returns-in-Err-clause-refused g c =
    let parts = c.audit.ensures.parts ∙ ap (λ (s : SeatState). s.parts) c.seat.view_is in
    let count = ap (λ (s : SeatState). s.count) c.seat.view_is in
    let refused = c.min-seat-inside.ensures ∙ ap (λ (s : SeatState). min (s.refused + 1) (2 ^ 60)) c.seat.view_is in
    λ i. record { parts = parts i; count = count i; refused = refused i }
