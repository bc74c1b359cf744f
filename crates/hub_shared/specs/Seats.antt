-- What contracts see of the value under the lock and of a seat, and what one call makes of both.
use Rattle.std.specs.Prelude.{◌≡◌, ℕ, ◌+◌, ◌^◌, ◌<◌, min, List, [], ◌∷◌, ◌++◌, length, map}
use Rattle.taf_messages.specs.declared.call.Call.{Call}
use Rattle.taf_messages.specs.declared.reply.Reply.{Reply}
use Rattle.hub_model.specs.declared.entry.Entry.{Entry}
use Rattle.hub_model.specs.Histories.{answer, run}
use Rattle.tallies.specs.declared.fault.HubFault.{HubFault}
use Rattle.hub_core.specs.Faults.{IsFault}

-- the hub's history, and the book's number
pub record BookedState : Type 0 where
  pub history : List Entry
  pub book : ℕ

-- the parts of the ledger that a seat holds, how many of its calls were answered, and how many met a fault
pub record SeatState : Type 0 where
  pub parts : ℕ
  pub count : ℕ
  pub refused : ℕ

-- the stored replies are those that a new hub gives to the stored calls, one after another
abbrev pub IsRun : List Entry → Type 0
IsRun history = map (λ (e : Entry). e.reply) history ≡ run (map (λ (e : Entry). e.call) history)

-- the position and the reply of a call that is made after this history
abbrev pub IsAnswer : ℕ → Reply → List Entry → Call → Type 0
IsAnswer position reply history call =
    (position ≡ length history) × (position < 1000000) × (reply ≡ answer history call)

-- those of a call that is made after some history that one thread could have made
abbrev pub IsAnswerInRun : ℕ → Reply → Call → Type 0
IsAnswerInRun position reply call =
    (history : List Entry) × IsRun history × IsAnswer position reply history call

-- a fault of a call that is made after some history that one thread could have made
abbrev pub IsFaultInRun : HubFault → Call → Type 0
IsFaultInRun fault call = (history : List Entry) × IsRun history × IsFault fault call (length history)

-- the value under the lock with the entry of one more call, and the book raised by one
abbrev pub with_call : BookedState → Call → BookedState
with_call b call = record {
  history = b.history ++ record { call = call; reply = answer b.history call } ∷ [];
  book = b.book + 1;
}

-- a seat that has made no call
abbrev pub new_seat : ℕ → SeatState
new_seat parts = record { parts = parts; count = 0; refused = 0 }

-- a seat after a call that was answered
abbrev pub after_answer : SeatState → SeatState
after_answer s = record s { count = s.count + 1 }

-- a seat after a fault: the number of faults stays at 2 ^ 60 once there
abbrev pub after_fault : SeatState → SeatState
after_fault s = record s { refused = min (s.refused + 1) (2 ^ 60) }
