-- What lines lead to: the history, what is written, and the counts.
use Rattle.std.specs.Prelude.{◌≡◌, ℕ, ◌+◌, ◌<◌, ◌≤◌, nat_lt, Bool, true, false, List, [], ◌∷◌, ◌++◌, length, fold, Option, Some, None, if◌then◌else◌, codes}
use Rattle.taf_messages.specs.declared.call.Call.{Call}
use Rattle.taf_messages.specs.declared.reply.Reply.{Reply}
use Rattle.hub_model.specs.declared.entry.Entry.{Entry}
use Rattle.hub_model.specs.Histories.{answer}
use Rattle.hub_replay.specs.declared.counts.Counts.{Counts}
use Rattle.call_lines.specs.declared.parsed.ParsedLine.{ParsedLine}
use Rattle.call_lines.specs.declared.parsed.ParsedLine.TheVariants.{Blank, TooLong, Fault, Called}
use Rattle.call_lines.specs.Lines.{fault_text, reply_text}
use Rattle.hub_replay.specs.Lines.{parsed_lines}

-- the entries of the history, the bytes written so far, and the counts
pub record Outcome : Type 0 where
  pub entries : List Entry
  pub output : List ℕ
  pub counts : Counts

abbrev pub one_fault_more : Counts → Counts
one_fault_more c = record { lines = c.lines + 1; calls = c.calls; faults = c.faults + 1 }

abbrev pub one_call_more : Counts → Counts
one_call_more c = record { lines = c.lines + 1; calls = c.calls + 1; faults = c.faults }

-- a line that tells a fault
unfoldable pub with_fault_line : Outcome → List ℕ → Outcome
with_fault_line o text = record {
  entries = o.entries;
  output = o.output ++ (text ++ 10 ∷ []);
  counts = one_fault_more o.counts;
}

-- the entry that a call makes: it has the hub's answer after the entries before it
unfoldable pub entry_of : List Entry → Call → Entry
entry_of entries call = record { call = call; reply = answer entries call }

-- a call's entry, and the line of its reply
unfoldable pub with_reply_line : Outcome → Call → Outcome
with_reply_line o call = record {
  entries = o.entries ++ entry_of o.entries call ∷ [];
  output = o.output ++ (reply_text (entry_of o.entries call).reply ++ 10 ∷ []);
  counts = one_call_more o.counts;
}

-- what one more line leads to: a full history takes no call
abbrev pub after : Outcome → ParsedLine → Outcome
after o Blank = o
after o TooLong = with_fault_line o (codes "{\"fault\":\"line_too_long\"}")
after o (Fault fault) = with_fault_line o (fault_text fault)
after o (Called call) = if nat_lt (length o.entries) 1000000 then with_reply_line o call else with_fault_line o (codes "{\"fault\":\"hub_full\"}")

-- a line that is answered: all but the blank ones
abbrev pub is_answered : ParsedLine → Bool
is_answered Blank = false
is_answered _ = true

-- what lines lead to
abbrev pub outcome : Outcome → List ParsedLine → Outcome
outcome o lines = fold after o lines

abbrev pub start_of : List Entry → Outcome
start_of entries = record { entries = entries; output = []; counts = record { lines = 0; calls = 0; faults = 0 } }

-- the lines of what was read lead from the old entries to the new ones, with this written and counted
abbrev pub Answers : List Entry → List ℕ → List Entry → List ℕ → Counts → Type 0
Answers old read new written counts = outcome (start_of old) (parsed_lines read) ≡ record { entries = new; output = written; counts = counts }

-- The lines were answered up to some place. What was written begins with the whole answers to the lines `complete`, and
-- is a front of those to `complete` and `last`. The entries are those that the calls among both lead to, and `last`
-- brought at most one.
pub record IsStopped (start : Outcome) (lines : List ParsedLine) (written : List ℕ) (entries : List Entry) : Type 0 where
  pub complete : List ParsedLine
  pub last : List ParsedLine
  pub rest : List ParsedLine
  pub split : lines ≡ complete ++ (last ++ rest)
  pub cut : List ℕ
  pub begins : written ≡ (outcome start complete).output ++ cut
  pub lacks : List ℕ
  pub within : written ++ lacks ≡ (outcome start (complete ++ last)).output
  pub entered : entries ≡ (outcome start (complete ++ last)).entries
  pub one : length entries ≤ length (outcome start complete).entries + 1

-- a call that was given to the hub: it is the last entry, with its reply, or the history is full
abbrev pub IsApplied : List Entry → Call → List Entry → Option Reply → Type 0
IsApplied old call new (Some reply) = (length old < 1000000) × (new ≡ old ++ entry_of old call ∷ []) × (reply ≡ (entry_of old call).reply)
IsApplied old call new None = (length old ≡ 1000000) × (new ≡ old)
