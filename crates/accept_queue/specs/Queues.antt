-- An accept queue: the connections that wait, and the sessions that are under way.
use Rattle.std.specs.Prelude.{◌≡◌, ℕ, ◌-◌, ◌<◌, ◌≤◌, Bool, not, ◌||◌, ◌==◌, List, [], ◌∷◌, length, is_some, Some, None, slice_set}
use Rattle.std.specs.List.{list_any}
use Rattle.std.specs.VecDeque.{deque_len}
use Rattle.std.specs.Duration.{as_nanos}
use Rattle.std.specs.Time.{instant_nanos}
use Rattle.std.specs.declared.time.Duration.{Duration}
use Rattle.std.specs.declared.time.Instant.{Instant}
use Rattle.accept_queue.specs.declared.state.Phase.TheVariants.{Open}
use Rattle.accept_queue.specs.declared.state.Waiting.{Waiting}
use Rattle.accept_queue.specs.declared.state.QueueState.{QueueState}
use Rattle.accept_queue.specs.declared.counts.QueueCounts.{QueueCounts}
use Rattle.accept_queue.specs.Counts.{served_of}

-- the connections that wait, oldest first
abbrev pub waiting_of : {T : Type 0} → QueueState T → List (Waiting T)
waiting_of q = q.waiting.items

-- how many connections are served, and how many wait
abbrev pub counts_of : {T : Type 0} → QueueState T → QueueCounts
counts_of q = record { sessions = served_of q.sessions.items; waiting = length (waiting_of q) }

-- a connection waits, or is served by some handler
abbrev pub is_busy : {T : Type 0} → QueueState T → Bool
is_busy q = not (deque_len q.waiting == 0) || list_any (λ session. is_some session) q.sessions.items

-- it is open, and fewer connections wait than it has room for
abbrev pub HasRoom : {T : Type 0} → QueueState T → Type 0
HasRoom q = (q.phase ≡ Open) × (length (waiting_of q) < q.capacity)

-- it is open, has room for so many, and no connection waits
abbrev pub IsNew : {T : Type 0} → ℕ → QueueState T → Type 0
IsNew capacity q = (q.phase ≡ Open) × (q.capacity ≡ capacity) × (waiting_of q ≡ [])

-- at this moment the connection has waited for as long as the limit
abbrev pub HasWaited : {T : Type 0} → Duration → Instant → Waiting T → Type 0
HasWaited limit now w = as_nanos limit ≤ instant_nanos now - instant_nanos w.since

-- the handler takes the connection that waited longest: its reader and its writer are given out, and its third handle is kept
abbrev pub Begins : {T : Type 0} → ℕ → QueueState T → QueueState T → T × T → Type 0
Begins {T} handler old new ends =
    (first : Waiting T) × (waiting_of old ≡ first ∷ waiting_of new)
    × (ends ≡ (first.connection.reader, first.connection.writer))
    × (new.sessions.items ≡ slice_set old.sessions.items handler (Some first.connection.control))

-- nothing is kept of a connection of the handler, and what is kept for others stays
abbrev pub HasEnded : {T : Type 0} → ℕ → QueueState T → QueueState T → Type 0
HasEnded handler old new = new.sessions.items ≡ slice_set old.sessions.items handler None

-- the same connections wait
abbrev pub KeepsWaiting : {T : Type 0} → QueueState T → QueueState T → Type 0
KeepsWaiting old new = waiting_of new ≡ waiting_of old

-- each handler serves what it served before
abbrev pub KeepsSessions : {T : Type 0} → QueueState T → QueueState T → Type 0
KeepsSessions old new = new.sessions.items ≡ old.sessions.items

-- the room and the phase stay
abbrev pub KeepsPhase : {T : Type 0} → QueueState T → QueueState T → Type 0
KeepsPhase old new = (new.capacity ≡ old.capacity) × (new.phase ≡ old.phase)
