-- When a service is settled, and when it is not.
use Rattle.std.specs.Prelude.{◌≡◌, ℕ, ◌+◌, ◌%◌, List, [], ◌++◌, length, slice_index_or}
use Rattle.inbox.specs.declared.rule.Job.{Job}
use Rattle.inbox.specs.Sessions.{of_session}
use Rattle.session_lanes.specs.Lanes.{EachAt}
use Rattle.connection_handlers.specs.Handlers.{put_of}
use Rattle.hub_shared.specs.declared.settling.SettleFault.{SettleFault}
use Rattle.hub_shared.specs.Settling.{IsTold, IsSettleFault}
use Rattle.hub_workers.specs.Counts.{WorkerState}
use Rattle.hub_service.specs.declared.service.Service.{Service}
use Rattle.hub_service.specs.Services.{HandlerState, IsService}
use Rattle.hub_service.specs.Laws.{IsInOrder}

-- What the worker of a lane took of the jobs of a handler's sessions, and then what the lane still held of them, is what these put, in
-- order.
abbrev pub AreInOrder : ℕ → List WorkerState → List (List Job) → List HandlerState → Type 0
AreInOrder workers worked left served = EachAt (λ i (h : HandlerState). (w : WorkerState)
    → of_session i (slice_index_or worked (i % workers) w).taken
    ++ of_session i (slice_index_or left (i % workers) []) ≡ put_of h.sessions) served

-- A service of so many connection handlers whose history is told by its tallies, and that made so many calls. The history is in order,
-- and so are the jobs of each handler's sessions in its lane.
pub record IsSettledService (handlers workers : ℕ) (s : Service) (calls : ℕ) : Type 0 where
  pub service : IsService handlers workers s
  pub told : IsTold s.hub s.earlier s.tallies.items
  pub count : calls + s.earlier ≡ length s.hub
  pub in_order : IsInOrder s service.served
  pub lanes : AreInOrder workers service.worked s.left.items service.served

-- a service of so many connection handlers whose history is not told by its tallies, in this respect
pub record IsUnsettledService (handlers workers : ℕ) (why : SettleFault) : Type 0 where
  pub s : Service
  pub service : IsService handlers workers s
  pub not_told : IsTold s.hub s.earlier s.tallies.items → ⊥
  pub shows : IsSettleFault why s.hub s.earlier s.tallies.items
