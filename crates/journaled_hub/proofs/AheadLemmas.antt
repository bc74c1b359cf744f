-- The calls of a history and those of the next lines of a journal.
use Rattle.std.proofs.Common.{◌≡◌, ℕ, suc, ◌+◌, ◌≤◌, ◌<◌, List, [], ◌∷◌, ◌++◌, length, length-append, refl, sym, ap, subst, ◌∙◌, arith, append_assoc, append-nil}
use Rattle.std.specs.Prelude.{fold, All, Option, None, Some, Ok, Vec, true, false}
use Rattle.std.specs.declared.alloc.Global.{Global}
use Rattle.std.proofs.lemmas.Bool.{false≢true}
use Rattle.std.proofs.lemmas.List.{length-map}
use Rattle.std.proofs.lemmas.List.Elements.{All-append, All-nil}
use Rattle.std.proofs.lemmas.List.Sums.{fold-append}
use Rattle.taf_messages.specs.declared.call.Call.{Call}
use Rattle.hub_model.specs.declared.entry.Entry.{Entry}
use Rattle.reply_writer.specs.Laws.{IsCall}
use Rattle.journal.specs.Lines.{recovered_lines, text_lines}
use Rattle.journal.specs.Journals.{bytes_read, torn_bytes, whole_len, given_lines, IsReading, IsAtEnd, IsDamage}
use Rattle.journal.specs.declared.reader.JournalFault.{JournalFault}
use Rattle.journal.specs.declared.reader.JournalReader.{JournalReader}
use Rattle.journal.proofs.ReaderLemmas.{recovered_is}
use Rattle.journal_lines.specs.Sums.{first_sum}
use Rattle.journal_lines.specs.CallLines.{call_sum, line_text, lines_after, lines_of_calls, last_sum}
use Rattle.journal_lines.specs.declared.fault.LineFault.{LineFault}
use Rattle.journaled_hub.specs.CallBatches.{IsNotTaken, IsLeft, IsCallBatch, Given, has_text, lines_given, HasGiven, IsFaultOfCalls, IsAhead}
use Rattle.journaled_hub.specs.HistoryLines.{calls_of, lines_of_history}
use Rattle.journaled_hub.specs.OpenFaults.{fault_of_journal, fault_of_line, IsFaultOfLines, IsOpenFault}
use Rattle.journaled_hub.specs.declared.call_batch.CallBatch.{CallBatch}
use Rattle.journaled_hub.specs.declared.fault.OpenFault.{OpenFault}
use Rattle.journaled_hub.specs.declared.fault.OpenFault.TheVariants.{Memory, Failed, Damaged, NoCall, OtherSum, Full}
use Rattle.journaled_hub.proofs.FaultLemmas.{fault_of_lines, fault_of_file, line_not_taken, journal_not_opened}

lines-append : (before : ℕ) (calls more : List Call) → lines_after before (calls ++ more) ≡ lines_after before calls ++ lines_after (fold call_sum before calls) more
lines-append before [] more = refl
lines-append before (call ∷ calls) more = ap (λ l. line_text (call_sum before call) call ∷ l) (lines-append (call_sum before call) calls more)

length-lines_after : (before : ℕ) (calls : List Call) → length (lines_after before calls) ≡ length calls
length-lines_after before [] = refl
length-lines_after before (call ∷ calls) = ap suc (length-lines_after (call_sum before call) calls)

-- ---- the batches of a journal

-- what is no text and no fault is the end
pub no_more : (given : Given) (batches : Option (Vec ℕ Global)) → given ≡ Ok batches → has_text given ≡ false → given ≡ Ok None
no_more given None is none = is
no_more given (Some text) is none = absurd (false≢true (sym none ∙ ap has_text is))

-- nothing was given to the hub yet
pub ahead_at_first : {F : Type 0} (reader : JournalReader F) (given : Given) (history : List Entry) (batch : CallBatch) (before : List (List ℕ)) → HasGiven before reader given → before ≡ [] → history ≡ [] → batch.calls.items ≡ [] → batch.sum ≡ first_sum → batch.fault ≡ None → IsAhead reader given history batch
ahead_at_first reader given history batch before has none no_history no_calls sum no_fault =
    let calls : calls_of history ++ batch.calls.items ≡ [] = ap (λ h. calls_of h ++ batch.calls.items) no_history ∙ no_calls in
    record {
      before = before;
      has_given = has;
      left = [];
      lines = none ∙ sym (append-nil (lines_of_calls (calls_of history ++ batch.calls.items)) ∙ ap lines_of_calls calls);
      sum = sum ∙ sym (ap last_sum calls);
      limits = subst (All IsCall) (sym calls) (All-nil IsCall);
      is_left = subst (λ f. IsLeft f [] batch.sum) (sym no_fault) refl;
    }

-- the calls of a batch are given to the hub
module _ {F : Type 0} (reader : JournalReader F) (given : Given) (history now : List Entry) (batch : CallBatch) (a : IsAhead reader given history batch) (taken : calls_of now ≡ calls_of history ++ batch.calls.items) where
  lines_left : a.before ≡ lines_of_history now ++ a.left
  lines_left = a.lines ∙ ap (λ l. lines_of_calls l ++ a.left) (sym taken)

  pub sum_of_last : batch.sum ≡ last_sum (calls_of now)
  sum_of_last = a.sum ∙ ap last_sum (sym taken)

  pub limits_kept : All IsCall (calls_of now)
  limits_kept = subst (All IsCall) (sym taken) a.limits

  -- the calls of the text that was given come next
  pub ahead_next : (after : JournalReader F) (next : Given) (ahead : CallBatch) → batch.fault ≡ None → IsCallBatch (lines_given given) batch.sum ahead → HasGiven (given_lines reader) after next → IsAhead after next now ahead
  ahead_next after next ahead no_fault b has =
      let more = ahead.calls.items in
      let none : a.left ≡ [] = rw no_fault at a.is_left in
      let own : lines_after batch.sum more ≡ lines_after (last_sum (calls_of now)) more = ap (λ s. lines_after s more) sum_of_last in
      record {
        before = given_lines reader;
        has_given = has;
        left = b.left;
        lines = a.has_given.lines ∙ ap (λ l. l ++ lines_given given) (lines_left ∙ ap (λ l. lines_of_history now ++ l) none ∙ append-nil (lines_of_history now))
            ∙ ap (λ l. lines_of_history now ++ l) (b.lines_are ∙ ap (λ l. l ++ b.left) own)
            ∙ sym (append_assoc (lines_of_history now) (lines_after (last_sum (calls_of now)) more) b.left)
            ∙ ap (λ l. l ++ b.left) (sym (lines-append first_sum (calls_of now) more));
        sum = b.sum ∙ ap (λ s. fold call_sum s more) sum_of_last ∙ sym (fold-append call_sum first_sum (calls_of now) more);
        limits = All-append IsCall (calls_of now) more limits_kept b.limits;
        is_left = b.is_left;
      }

  -- what stands behind the lines of the batch in the file, as far as it was read
  abbrev behind : List (List ℕ)
  behind = lines_given given ++ recovered_lines (torn_bytes reader)

  all_lines : recovered_lines (bytes_read reader) ≡ lines_of_history now ++ (a.left ++ behind)
  all_lines =
      recovered_is (bytes_read reader) (whole_len reader) (torn_bytes reader) a.has_given.reading
      ∙ ap (λ l. l ++ recovered_lines (torn_bytes reader)) (a.has_given.lines ∙ ap (λ l. l ++ lines_given given) lines_left)
      ∙ append_assoc (lines_of_history now ++ a.left) (lines_given given) (recovered_lines (torn_bytes reader))
      ∙ append_assoc (lines_of_history now) a.left behind

  -- no line is left
  pub all_taken : batch.fault ≡ None → given ≡ Ok None → lines_of_history now ≡ recovered_lines (bytes_read reader)
  all_taken no_fault last =
      let none : a.left ≡ [] = rw no_fault at a.is_left in
      let at_end : IsAtEnd reader = rw last at a.has_given.come_to in
      let torn : recovered_lines (torn_bytes reader) ≡ [] = ap recovered_lines a.has_given.reading.rest_is ∙ at_end.batches.nothing in
      sym (all_lines ∙ ap (λ l. lines_of_history now ++ (l ++ behind)) none
      ∙ ap (λ g. lines_of_history now ++ (lines_given g ++ recovered_lines (torn_bytes reader))) last
      ∙ ap (λ l. lines_of_history now ++ l) torn ∙ append-nil (lines_of_history now))

  -- the next line is not taken
  pub next_not_taken : (fault : LineFault) → batch.fault ≡ Some fault → IsOpenFault (fault_of_line fault (length now + 1)) (bytes_read reader)
  next_not_taken fault is =
      let n : IsNotTaken a.left batch.sum fault = rw is at a.is_left in
      fault_of_file (fault_of_line fault (length now + 1)) (bytes_read reader)
      (fault_of_lines now batch.sum n.line (n.rest ++ behind) (recovered_lines (bytes_read reader))
      (all_lines ∙ ap (λ l. lines_of_history now ++ (l ++ behind)) n.split) sum_of_last (fault_of_line fault (length now + 1))
      (line_not_taken fault now batch.sum n.line (length now + 1) n.is))

-- a hub that is full, whatever was read since
module _ {F : Type 0} (reader after : JournalReader F) (given : Given) (history : List Entry) (batch : CallBatch) (a : IsAhead reader given history batch) (reading : IsReading after) (more : List (List ℕ)) (lines : given_lines after ≡ given_lines reader ++ more) where
  many_lines : 1000000 < length history + length batch.calls.items → 1000000 < length (recovered_lines (bytes_read after))
  many_lines h =
      let calls = calls_of history ++ batch.calls.items in
      let torn = recovered_lines (torn_bytes after) in
      let count : length calls ≡ length history + length batch.calls.items = length-append (calls_of history) batch.calls.items ∙ ap (λ n. n + length batch.calls.items) (length-map history (λ (e : Entry). e.call)) in
      let first : length a.before ≡ length (lines_of_calls calls) + length a.left = ap length a.lines ∙ length-append (lines_of_calls calls) a.left in
      let later : length (given_lines reader) ≡ length a.before + length (lines_given given) = ap length a.has_given.lines ∙ length-append a.before (lines_given given) in
      let now : length (given_lines after) ≡ length (given_lines reader) + length more = ap length lines ∙ length-append (given_lines reader) more in
      let all : length (recovered_lines (bytes_read after)) ≡ length (given_lines after) + length torn =
      ap length (recovered_is (bytes_read after) (whole_len after) (torn_bytes after) reading) ∙ length-append (given_lines after) torn in
      let each : length (lines_of_calls calls) ≡ length calls = length-lines_after first_sum calls in
      omega (arith, h, count, first, later, now, all, each)

  pub calls_not_taken : (fault : OpenFault) → IsFaultOfCalls fault (length history + length batch.calls.items) → IsOpenFault fault (bytes_read after)
  calls_not_taken Memory h = tt
  calls_not_taken Failed h = absurd h
  calls_not_taken (Damaged whole) h = absurd h
  calls_not_taken (NoCall number) h = absurd h
  calls_not_taken (OtherSum number) h = absurd h
  calls_not_taken Full h = many_lines h

-- ---- the lines of a text

-- a line more, and its call
module _ (before sum own : ℕ) (line : List ℕ) (calls more : List Call) (call : Call) (last : sum ≡ fold call_sum before calls) (own_is : own ≡ call_sum sum call) (grown : more ≡ calls ++ call ∷ []) where
  pub one_sum_more : own ≡ fold call_sum before more
  one_sum_more = own_is ∙ ap (λ s. call_sum s call) last ∙ sym (ap (fold call_sum before) grown ∙ fold-append call_sum before calls (call ∷ []))

  pub one_line_more : (lines rest left : List (List ℕ)) → lines ≡ lines_after before calls ++ rest → rest ≡ line ∷ left → line ≡ line_text own call → lines ≡ lines_after before more ++ left
  one_line_more lines rest left so_far first is =
      let prior = lines_after before calls in
      let as_call : line ≡ line_text (call_sum (fold call_sum before calls) call) call = is ∙ ap (λ s. line_text s call) (own_is ∙ ap (λ s. call_sum s call) last) in
      so_far ∙ ap (λ l. prior ++ l) first ∙ sym (append_assoc prior (line ∷ []) left)
      ∙ ap (λ l. (prior ++ l ∷ []) ++ left) as_call
      ∙ ap (λ l. l ++ left) (sym (ap (lines_after before) grown ∙ lines-append before calls (call ∷ [])))
