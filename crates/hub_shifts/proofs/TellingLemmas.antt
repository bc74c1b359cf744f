-- What follows where the tallies of a shift tell its history.
use Rattle.hub_shifts.proofs.Common.{ℕ, List, get_or, All, TallyState, StandsIn, IsTold, told_in_order, Streams, each_of_map, tells_own, tells_history, Shift, SessionState, IsShift, IsInOrder, ShiftInOrder}

pub in_order : (streams : List Streams) (workers : ℕ) (s : Shift) (shift : IsShift streams workers s) → IsTold s.hub s.earlier s.tallies.items → IsInOrder s shift.served
in_order streams workers s shift told = record {
  sessions = λ k d low.
      let x = get_or shift.served k d in
      let stands = each_of_map (λ (y : SessionState). y.tally) (λ (p : TallyState). All (StandsIn s.hub) p.entries) s.tallies.items shift.served shift.by_lanes.tallies_are told.stands k d low in
      tells_history s.hub k x.began x.end x.tally.entries x.put (shift.by_lanes.of_sessions k d low).ended stands;
  interleaves = told_in_order s.hub s.earlier s.tallies.items told;
}

pub shift_in_order : ShiftInOrder
shift_in_order streams workers s shift = (
  λ k d low. let x = get_or shift.served k d in tells_own k x.began x.end x.tally.entries x.put (shift.by_lanes.of_sessions k d low).ended,
  in_order streams workers s shift,
)
