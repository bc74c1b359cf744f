-- A service that settled, and one that did not.
use Rattle.std.proofs.Common.{◌≡◌, ℕ, ◌+◌, ◌≤◌, length, ap, subst, arith}
use Rattle.hub_shared.specs.declared.settling.SettleFault.{SettleFault}
use Rattle.hub_shared.specs.declared.settling.SettleFault.TheVariants as of_settling
use Rattle.hub_shared.specs.Settling.{IsTold, IsSettleFault}
use Rattle.hub_threads.specs.declared.fault.ThreadFault.{ThreadFault}
use Rattle.hub_threads.specs.declared.fault.ThreadFault.TheVariants as of_threads
use Rattle.hub_service.specs.declared.service.Service.{Service}
use Rattle.hub_service.specs.Services.{IsService}
use Rattle.hub_service.proofs.OrderLemmas.{sessions_in_order, handlers_in_order}
use Rattle.server_faults.specs.declared.fault.ServerFault.TheVariants.{NotSettled}
use Rattle.server_faults.specs.Faults.{fault_of_settling}
use Rattle.server_faults.proofs.FaultLemmas.{why_is}
use Rattle.open_server.specs.Faults.{fault_of_threads}
use Rattle.open_server.specs.Settled.{IsSettledService, IsUnsettledService}

-- a service whose tallies settled
pub settled : (handlers workers calls : ℕ) (s : Service) → 1 ≤ workers → IsService handlers workers s
    → IsTold s.hub s.earlier s.tallies.items → calls + s.earlier ≡ length s.hub → IsSettledService handlers workers s calls
settled handlers workers calls s some service told count = record {
  service = service;
  told = told;
  count = count;
  in_order = (sessions_in_order handlers workers s service).1 told;
  lanes = handlers_in_order handlers workers s service some;
}

-- a service whose tallies did not settle
pub unsettled : (handlers workers : ℕ) (s : Service) (f why : SettleFault) → IsService handlers workers s
    → (IsTold s.hub s.earlier s.tallies.items → f ≡ of_settling.Memory) → IsSettleFault f s.hub s.earlier s.tallies.items
    → fault_of_settling f ≡ NotSettled why → IsUnsettledService handlers workers why
unsettled handlers workers s f why service told shows is = record {
  s = s;
  service = service;
  not_told = λ yes. let memory = ap fault_of_settling (told yes) in cc (memory, is);
  shows = subst (λ (f : SettleFault). IsSettleFault f s.hub s.earlier s.tallies.items) (why_is f why is) shows;
}

pub no_threads : (f : ThreadFault) (why : SettleFault) → fault_of_threads f ≡ NotSettled why → ⊥
no_threads of_threads.Thread why is = cc is
no_threads of_threads.Memory why is = cc is

-- what was there before a service is no more than its history
pub fits : (handlers workers : ℕ) (s : Service) → IsService handlers workers s → s.earlier ≤ length s.hub
fits handlers workers s service = let sum = service.sum_is in omega (arith, sum)
