-- A shift that settled, and one that did not.
use Rattle.std.proofs.Common.{◌∙◌, ◌≡◌, ◌+◌, ◌≤◌, ℕ, List, length, map, ap, subst, arith}
use Rattle.std.proofs.lemmas.List.{length-map}
use Rattle.session_lanes.specs.Ends.{Streams}
use Rattle.hub_shared.specs.declared.settling.SettleFault.{SettleFault}
use Rattle.hub_shared.specs.declared.settling.SettleFault.TheVariants as of_settling
use Rattle.hub_shared.specs.Settling.{IsTold, IsSettleFault}
use Rattle.hub_shifts.specs.declared.shift.Shift.{Shift}
use Rattle.hub_shifts.specs.declared.shift.ShiftFault.{ShiftFault}
use Rattle.hub_shifts.specs.declared.shift.ShiftFault.TheVariants as of_shift
use Rattle.hub_shifts.specs.Shifts.{IsShift}
use Rattle.hub_shifts.proofs.OrderLemmas.{lanes_in_order}
use Rattle.hub_shifts.proofs.TellingLemmas.{in_order}
use Rattle.server_faults.specs.declared.fault.ServerFault.TheVariants.{NotSettled, Memory}
use Rattle.server_faults.specs.Faults.{fault_of_settling}
use Rattle.server_faults.proofs.FaultLemmas.{why_is}
use Rattle.hub_server.specs.Faults.{fault_of_shift}
use Rattle.hub_server.specs.Settled.{IsSettledShift, IsUnsettledShift}

-- a shift of these sessions, whose tallies settled
pub settled : {A : Type 0} (streams_of : A → Streams) (ends : List A) (given sessions workers calls : ℕ) (s : Shift)
    → length ends ≡ sessions → given ≡ workers → 1 ≤ workers → IsShift (map streams_of ends) given s → IsTold s.hub s.earlier s.tallies.items → calls + s.earlier ≡ length s.hub
    → IsSettledShift sessions workers s calls
settled streams_of ends given sessions workers calls s many same some shift told count =
    let of_workers : IsShift (map streams_of ends) workers s = subst (λ k. IsShift (map streams_of ends) k s) same shift in
    record {
      streams = map streams_of ends;
      session_count = length-map ends streams_of ∙ many;
      shift = of_workers;
      told = told;
      count = count;
      in_order = in_order (map streams_of ends) workers s of_workers told;
      lanes = lanes_in_order (map streams_of ends) workers s of_workers some;
    }

-- a shift of these sessions, whose tallies did not settle
pub unsettled : {A : Type 0} (streams_of : A → Streams) (ends : List A) (given sessions workers : ℕ) (s : Shift) (f why : SettleFault)
    → length ends ≡ sessions → given ≡ workers → IsShift (map streams_of ends) given s → (IsTold s.hub s.earlier s.tallies.items → f ≡ of_settling.Memory)
    → IsSettleFault f s.hub s.earlier s.tallies.items → fault_of_settling f ≡ NotSettled why → IsUnsettledShift sessions workers why
unsettled streams_of ends given sessions workers s f why many same shift told shows is = record {
  s = s;
  streams = map streams_of ends;
  session_count = length-map ends streams_of ∙ many;
  shift = subst (λ k. IsShift (map streams_of ends) k s) same shift;
  not_told = λ yes. let memory = ap fault_of_settling (told yes) in cc (memory, is);
  shows = subst (λ (f : SettleFault). IsSettleFault f s.hub s.earlier s.tallies.items) (why_is f why is) shows;
}

pub no_shift : (why : SettleFault) → Memory ≡ NotSettled why → ⊥
no_shift why is = cc is

pub no_end : (f : ShiftFault) (why : SettleFault) → fault_of_shift f ≡ NotSettled why → ⊥
no_end of_shift.Thread why is = cc is
no_end of_shift.Memory why is = cc is

-- what was there before a shift is no more than its history
pub fits : (streams : List Streams) (workers : ℕ) (s : Shift) → IsShift streams workers s → s.earlier ≤ length s.hub
fits streams workers s shift = let sum = shift.sum_is in omega (arith, sum)
