-- What a service leaves.
use Rattle.std.specs.Prelude.{◌≡◌, ℕ, ◌+◌, List, map, length, sum_by}
use Rattle.std.specs.List.{All}
use Rattle.inbox.specs.declared.rule.Job.{Job}
use Rattle.tallies.specs.Tallies.{TallyState}
use Rattle.session_lanes.specs.Lanes.{EachAt}
use Rattle.connection_handlers.specs.Handlers.{ServedSession, IsSessionOf, told_of, put_of}
use Rattle.hub_shared.specs.Seats.{IsRun}
use Rattle.hub_workers.specs.Counts.{WorkerState, MakesCalls, taken_lists}
use Rattle.hub_threads.specs.Kept.{AreKept}
use Rattle.hub_serving.specs.declared.served.ServedHub.{ServedHub}
use Rattle.hub_service.specs.declared.service.Service.{Service}

-- the service whose handlers were the threads that served around this hub
abbrev pub service_of : ServedHub → Service
service_of s = record {
  hub = s.hub;
  earlier = s.earlier;
  sum = s.sum;
  refused = s.refused;
  tallies = s.tallies;
  left = s.left;
}

-- the sessions that a handler served, one after another, its tally, and the jobs that it put into its lane
pub record HandlerState : Type 0 where
  pub sessions : List ServedSession
  pub tally : TallyState
  pub put : List Job

-- what is said of the handler with this number: its tally is what its sessions were told, and it put what they put
pub record IsOfHandler (number : ℕ) (h : HandlerState) : Type 0 where
  pub each : All (IsSessionOf number) h.sessions
  pub told_is : h.tally.entries ≡ told_of h.sessions
  pub put_is : h.put ≡ put_of h.sessions

abbrev pub put_lists : List HandlerState → List (List Job)
put_lists handlers = map (λ (h : HandlerState). h.put) handlers

-- These handlers served on so many lanes. There is a tally for each, in their order, which is that handler's. Each lane is kept, by
-- what its worker took and by what it still held.
pub record IsServedByHandlers (handlers workers : ℕ) (served : List HandlerState)
    (taken : List (List Job)) (tallies : List TallyState) (left : List (List Job)) : Type 0 where
  pub handler_count : length served ≡ handlers
  pub tallies_are : tallies ≡ map (λ (h : HandlerState). h.tally) served
  pub of_handlers : EachAt IsOfHandler served
  pub kept : AreKept workers (put_lists served) taken left

-- The hub is one that a single thread could have made. Its history has the calls from before the service and then so many as the sum.
-- The handlers served on the lanes of the workers. Each worker's seat counted its calls, and these numbers add up.
pub record IsService (handlers workers : ℕ) (s : Service) : Type 0 where
  pub served : List HandlerState
  pub worked : List WorkerState
  pub run : IsRun s.hub
  pub sum_is : s.earlier + s.sum ≡ length s.hub
  pub by_handlers : IsServedByHandlers handlers workers served (taken_lists worked) s.tallies.items
      s.left.items
  pub makes_calls : EachAt (λ k (w : WorkerState). MakesCalls w) worked
  pub calls : sum_by (λ (w : WorkerState). w.seat.count) worked ≡ s.sum
  pub faults : sum_by (λ (w : WorkerState). w.seat.refused) worked ≡ s.refused
