-- The laws of services.
use Rattle.std.specs.Prelude.{◌≡◌, ℕ, ◌%◌, ◌≤◌, List, [], ◌++◌, map, drop, slice_index_or}
use Rattle.std.specs.List.{All, flat_map}
use Rattle.inbox.specs.Sessions.{of_session}
use Rattle.session_lanes.specs.Lanes.{EachAt}
use Rattle.session_lanes.specs.Telling.{TellsOwnJobs}
use Rattle.connection_handlers.specs.Handlers.{ServedSession, put_of}
use Rattle.hub_model.specs.declared.entry.Entry.{Entry}
use Rattle.hub_shared.specs.Orders.{Interleaves}
use Rattle.hub_shared.specs.Settling.{entry_of, IsTold}
use Rattle.hub_workers.specs.Answers.{TellsHistory}
use Rattle.hub_workers.specs.Counts.{WorkerState}
use Rattle.hub_service.specs.declared.service.Service.{Service}
use Rattle.hub_service.specs.Services.{HandlerState, IsService}

-- a session of the handler with this number was given the first of the whole lines of its reader, and what it was told are the answers
-- to its own jobs
abbrev pub TellsAsSession : ℕ → ServedSession → Type 0
TellsAsSession number s = TellsOwnJobs number s.began s.end s.told s.put

-- and the history has these answers
abbrev pub TellsHistoryAsSession : List Entry → ℕ → ServedSession → Type 0
TellsHistoryAsSession history number s = TellsHistory history number s.began s.end s.told s.put

-- the entries that a session was told
abbrev pub entries_told : ServedSession → List Entry
entries_told s = map entry_of s.told

-- those of a handler, session after session
abbrev pub entries_of_handler : HandlerState → List Entry
entries_of_handler h = flat_map entries_told h.sessions

-- those of each session, handler after handler, and of a handler in the order in which it served them
abbrev pub entries_of_sessions : List HandlerState → List (List Entry)
entries_of_sessions served = flat_map (λ (h : HandlerState). map entries_told h.sessions) served

-- The history has the answers of each session's jobs. Each of its entries behind those from before the service is of one session, and
-- those of a session stand there as it was told them, in its order, each once. Those of a handler's sessions stand there session after
-- session.
pub record IsInOrder (s : Service) (served : List HandlerState) : Type 0 where
  pub sessions : EachAt (λ number (h : HandlerState). All (TellsHistoryAsSession s.hub number) h.sessions) served
  pub by_sessions : Interleaves (entries_of_sessions served) (drop s.earlier s.hub)
  pub by_handlers : Interleaves (map entries_of_handler served) (drop s.earlier s.hub)

-- each session of a service tells its own jobs, and where the tallies tell the history, it is in order
abbrev pub SessionsInOrder : Type 0
SessionsInOrder =
    (handlers workers : ℕ) (s : Service) (service : IsService handlers workers s)
    → EachAt (λ number (h : HandlerState). All (TellsAsSession number) h.sessions) service.served
    × (IsTold s.hub s.earlier s.tallies.items → IsInOrder s service.served)

-- what the workers took of the jobs of a handler's sessions, and then what the lanes still held of them, is what these put, in order
abbrev pub HandlersInOrder : Type 0
HandlersInOrder =
    (handlers workers : ℕ) (s : Service) (service : IsService handlers workers s) → 1 ≤ workers
    → EachAt (λ i (h : HandlerState). (w : WorkerState)
    → of_session i (slice_index_or service.worked (i % workers) w).taken
    ++ of_session i (slice_index_or s.left.items (i % workers) []) ≡ put_of h.sessions) service.served
