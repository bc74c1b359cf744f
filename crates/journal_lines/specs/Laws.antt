-- What the lines of calls are good for.
use Rattle.std.specs.Prelude.{◌≡◌, ◌≢◌, ◌<◌, ◌^◌, ℕ, List, ◌∷◌, ◌++◌, All}
use Rattle.taf_messages.specs.declared.call.Call.{Call}
use Rattle.reply_writer.specs.Laws.{IsReadAs, IsCall}
use Rattle.journal_lines.specs.Sums.{sum_after}
use Rattle.journal_lines.specs.CallLines.{line_text, lines_of_calls}

-- a reader of records reads the line of a call as the call, whatever its sum
abbrev pub LinesAreCalls : Type 0
LinesAreCalls = (sum : ℕ) (call : Call) → IsCall call → IsReadAs (line_text sum call) call

-- so lists of calls with the same lines are the same
abbrev pub LinesTellTheCalls : Type 0
LinesTellTheCalls = (calls others : List Call) → All IsCall calls → All IsCall others → lines_of_calls calls ≡ lines_of_calls others → calls ≡ others

-- a byte
abbrev pub IsByte : ℕ → Type 0
IsByte b = b < 2 ^ 8

-- each element is one
abbrev pub AreBytes : List ℕ → Type 0
AreBytes text = All IsByte text

-- a text of which one byte turned into another has another sum
abbrev pub AnotherByteShows : Type 0
AnotherByteShows = (before b c : ℕ) (front rest : List ℕ) → before < 2 ^ 64 → AreBytes front → AreBytes rest → IsByte b → IsByte c → b ≢ c →
    sum_after before (front ++ b ∷ rest) ≢ sum_after before (front ++ c ∷ rest)

-- and so has the same text behind a line of another sum
abbrev pub AnotherLineBeforeShows : Type 0
AnotherLineBeforeShows = (before other : ℕ) (text : List ℕ) → before < 2 ^ 64 → other < 2 ^ 64 → AreBytes text → before ≢ other →
    sum_after before text ≢ sum_after other text
