-- The lines of a history.
use Rattle.std.specs.Prelude.{ℕ, List, map}
use Rattle.taf_messages.specs.declared.call.Call.{Call}
use Rattle.hub_model.specs.declared.entry.Entry.{Entry}
use Rattle.journal_lines.specs.CallLines.{lines_of_calls}

-- the calls of a history
abbrev pub calls_of : List Entry → List Call
calls_of history = map (λ (e : Entry). e.call) history

-- their lines, from the first line of a journal on
abbrev pub lines_of_history : List Entry → List (List ℕ)
lines_of_history history = lines_of_calls (calls_of history)
