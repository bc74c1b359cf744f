-- The lines of calls: the text of each, with a sum in front.
use Rattle.std.specs.Prelude.{ℕ, List, [], ◌∷◌, ◌++◌, fold, drop, codes}
use Rattle.serde_json.specs.Data.{Data}
use Rattle.serde_json.specs.Written.{compact_text}
use Rattle.json_tokens.specs.Texts.{field, fields, text}
use Rattle.taf_messages.specs.declared.call.Call.{Call}
use Rattle.reply_writer.specs.CallShapes.{call_fields, call_data}
use Rattle.journal_lines.specs.Sums.{sum_after, first_sum, digits_of}

-- the text of a call
abbrev pub call_text : Call → List ℕ
call_text call = compact_text (call_data call)

-- the record of a call, with these digits of a sum in front: their key stands before all others
abbrev pub line_data : List ℕ → Call → Data
line_data digits call = fields (field text (codes "_sum") digits ++ call_fields call)

-- its text
abbrev pub line_with : List ℕ → Call → List ℕ
line_with digits call = compact_text (line_data digits call)

-- the line of a call that has this sum
abbrev pub line_text : ℕ → Call → List ℕ
line_text sum call = line_with (digits_of sum) call

-- the sum of the line of a call, behind a line of this sum
abbrev pub call_sum : ℕ → Call → ℕ
call_sum before call = sum_after before (call_text call)

-- the lines of calls, one after another, behind a line of this sum
abbrev pub lines_after : ℕ → List Call → List (List ℕ)
lines_after before [] = []
lines_after before (call ∷ calls) = line_text (call_sum before call) call ∷ lines_after (call_sum before call) calls

-- the lines of calls, from the first line of a journal on
abbrev pub lines_of_calls : List Call → List (List ℕ)
lines_of_calls calls = lines_after first_sum calls

-- the sum of the last of these lines
abbrev pub last_sum : List Call → ℕ
last_sum calls = fold call_sum first_sum calls

-- the text of a call with these digits in front, as its bytes: what stands before them, they, what stands behind them, and the text
-- without its first brace
abbrev pub digits_in_front : List ℕ → List ℕ → List ℕ
digits_in_front digits text = 123 ∷ 34 ∷ codes "_sum" ++ 34 ∷ 58 ∷ 34 ∷ (digits ++ 34 ∷ 44 ∷ drop 1 text)
