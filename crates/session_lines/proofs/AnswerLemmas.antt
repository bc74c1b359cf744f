-- Each line that is not blank has one answer.
use Rattle.session_lines.proofs.Common.{◌≡◌, ℕ, ◌+◌, Bool, true, false, cond, not, ◌||◌, nat_lt, bytes_eq, List, [], ◌∷◌, ◌++◌, Option, Some, None, Result, Ok, Err, length, refl, ap, sym, ◌∙◌, subst, arith, false≢true, length-append, sum_by-append, sum_by-cons, Data, Railway, Call, RecordFault, is_blank, call_in, parsed_as, parsed_line, Meaning, Blank, Hello, Wrong, Calls, Ended, Done, Slot, JobOut, HeldLine, State, new_state, hello_text, line_fault_text, LineTooLong, WrongSender, NoHello, NoMemory, meaning, meaning_without_memory, meaning_by_length, text_meaning, meaning_after_hello, is_hello, hello_meaning, first_record_meaning, first_json_meaning, json_of_line, sender_of, is_answered, sound_step, after_sound, slots_with, step_with, is_own, is_job_in_front, with_answer, after_done, after_stranger, front_line, slots_after_front, Event, LineRead, LineReadWithoutMemory, DoneTaken, DoneTakenWithoutMemory, HeldLineTaken, Run, run_with_line, run_with_done, after_event, new_run, run, step_lines, optional_line, done_line, done_line_without_memory, EachLineIsAnswered}
use Rattle.std.specs.List.{count_by}
use Rattle.call_reader.specs.Values as value_of
use Rattle.call_reader.specs.Reading.{field_of}
use Rattle.call_lines.specs.declared.parsed.ParsedLine.TheVariants as lines
use Rattle.taf_messages.specs.declared.field.Field.TheVariants as fields
use Rattle.session_lines.proofs.LockStepLemmas.{append_nil, stepped}

-- ---- which meanings lead to a line

abbrev leads_to_line : Meaning → Bool
leads_to_line Blank = false
leads_to_line (Hello railway) = true
leads_to_line (Wrong fault) = true
leads_to_line (Calls call) = true

by_length : (line : List ℕ) (m : Meaning) → (nat_lt 65536 (length line) ≡ false → is_blank line ≡ false → leads_to_line m ≡ true) → leads_to_line (meaning_by_length line m) ≡ is_answered line
unfolding meaning_by_length
by_length line m h =
    elim (nat_lt 65536 (length line)) as (λ l. nat_lt 65536 (length line) ≡ l → leads_to_line (cond l (Wrong (line_fault_text LineTooLong)) (cond (is_blank line) Blank m)) ≡ l || not (is_blank line)) [
      | true ↦ λ long. refl
      | false ↦ λ short. elim (is_blank line) as (λ b. is_blank line ≡ b → leads_to_line (cond b Blank m) ≡ not b) [
        | true ↦ λ blank. refl
        | false ↦ λ some. h short some
      ] refl
    ] refl

after_hello : (own : Railway) (r : Result Call RecordFault) → leads_to_line (meaning_after_hello own (parsed_as r)) ≡ true
after_hello own (Ok call) =
    elim (bytes_eq (sender_of call) own) as (λ b. leads_to_line (cond b (Calls call) (Wrong (line_fault_text WrongSender))) ≡ true) [
      | true ↦ refl
      | false ↦ refl
    ]
after_hello own (Err fault) = refl

with_railway : (r : Result Railway RecordFault) → leads_to_line (hello_meaning r) ≡ true
with_railway (Ok railway) = refl
with_railway (Err fault) = refl

first_json : (json : Option Data) → leads_to_line (first_json_meaning json) ≡ true
first_json None = refl
first_json (Some d) =
    elim (is_hello d) as (λ b. leads_to_line (cond b (hello_meaning (field_of value_of.railway fields.From d)) (Wrong (line_fault_text NoHello))) ≡ true) [
      | true ↦ with_railway (field_of value_of.railway fields.From d)
      | false ↦ refl
    ]

any_text : (railway : Option Railway) (line : List ℕ) → nat_lt 65536 (length line) ≡ false → is_blank line ≡ false → leads_to_line (text_meaning railway line) ≡ true
unfolding parsed_line
any_text None line short some = first_json (json_of_line line)
any_text (Some own) line short some =
    (λ i. leads_to_line (meaning_after_hello own (cond (short i) lines.TooLong (cond (some i) lines.Blank (parsed_as (call_in line))))))
    ∙ after_hello own (call_in line)

any_line : (railway : Option Railway) (line : List ℕ) → leads_to_line (meaning railway line) ≡ is_answered line
any_line railway line = by_length line (text_meaning railway line) (any_text railway line)

any_line_without_memory : (line : List ℕ) → leads_to_line (meaning_without_memory line) ≡ is_answered line
any_line_without_memory line = by_length line (Wrong (line_fault_text NoMemory)) (λ short some. refl)

-- ---- lines that were said, and slots

saying : (output : List (List ℕ)) (slots : List Slot) (line : List ℕ) → length (output ++ step_lines (step_with slots line)) + length (slots_with slots line) ≡ length output + length slots + 1
saying output [] line = let long = length-append output (line ∷ []) in omega (arith, long)
saying output (slot ∷ slots) line =
    let none = ap (λ (l : List (List ℕ)). length l) (append_nil output) in
    let long = length-append slots (HeldLine line ∷ []) in
    omega (arith, none, long)

sound_line : (output : List (List ℕ)) (s : State) (m : Meaning) → length (output ++ step_lines (sound_step s m)) + length (after_sound s m).slots ≡ length output + length s.slots + cond (leads_to_line m) 1 0
sound_line output s Blank = let none = ap (λ (l : List (List ℕ)). length l) (append_nil output) in omega (arith, none)
sound_line output s (Hello railway) = saying output s.slots (hello_text railway)
sound_line output s (Wrong fault) = saying output s.slots fault
sound_line output s (Calls call) =
    let none = ap (λ (l : List (List ℕ)). length l) (append_nil output) in
    let long = length-append s.slots (JobOut call ∷ []) in
    omega (arith, none, long)

-- one line more that was read
count-line : (lines : List (List ℕ)) (line : List ℕ) → count_by is_answered (lines ++ line ∷ []) ≡ count_by is_answered lines + cond (is_answered line) 1 0
count-line lines line =
    let split = sum_by-append (λ l. cond (is_answered l) 1 0) lines (line ∷ []) in
    let last = sum_by-cons (λ l. cond (is_answered l) 1 0) line [] in
    omega (arith, split, last)

-- what holds of every run: unless a stranger came, each line has its line or its slot
abbrev HasAnswers : Run → Type 0
HasAnswers r = r.state.has_failed ≡ false → length r.output + length r.state.slots ≡ count_by is_answered r.input

HasAnswers-sound : (r : Run) (line : List ℕ) (m : Meaning) → leads_to_line m ≡ is_answered line → r.state.has_failed ≡ false → HasAnswers r → HasAnswers (stepped r line (sound_step r.state m) (after_sound r.state m))
HasAnswers-sound r line m is sound h now =
    let before = h sound in
    let said = sound_line r.output r.state m in
    let read = count-line r.input line in
    let one_if : Bool → ℕ = λ b. cond b 1 0 in
    let same = ap one_if is in
    omega (arith, before, said, read, same)

HasAnswers-line : (r : Run) (line : List ℕ) (m : Meaning) (failed : Bool) → leads_to_line m ≡ is_answered line → r.state.has_failed ≡ failed → HasAnswers r → HasAnswers (run_with_line r line m)
HasAnswers-line r line m false is e h =
    subst (λ b. HasAnswers (stepped r line (cond b Ended (sound_step r.state m)) (cond b r.state (after_sound r.state m)))) (sym e)
    (HasAnswers-sound r line m is e h)
HasAnswers-line r line m true is e h =
    subst (λ b. HasAnswers (stepped r line (cond b Ended (sound_step r.state m)) (cond b r.state (after_sound r.state m)))) (sym e)
    (λ sound. absurd (false≢true (sym sound ∙ e)))

HasAnswers-own : (r : Run) (d : Done) (line : List ℕ) (slots : List Slot) → r.state.slots ≡ slots → is_job_in_front slots ≡ true → HasAnswers r → HasAnswers (record r { state = with_answer r.state slots d.answer; output = r.output ++ line ∷ [] })
HasAnswers-own r d line [] e front h = absurd (false≢true front)
HasAnswers-own r d line (HeldLine held ∷ slots) e front h = absurd (false≢true front)
HasAnswers-own r d line (JobOut call ∷ slots) e front h = λ sound.
    let before = h sound in
    let said = length-append r.output (line ∷ []) in
    let out = ap (λ (l : List Slot). length l) e in
    omega (arith, before, said, out)

HasAnswers-done : (r : Run) (d : Done) (line : List ℕ) (front own : Bool) → is_job_in_front r.state.slots ≡ front → is_own r.state d ≡ own → HasAnswers r → HasAnswers (run_with_done r d line)
HasAnswers-done r d line false own e o h =
    subst (λ b. HasAnswers (cond b (record r { state = after_done r.state d; output = r.output ++ line ∷ [] }) r)) (sym e) h
HasAnswers-done r d line true false e o h =
    subst (λ b. HasAnswers (cond b (record r { state = after_done r.state d; output = r.output ++ line ∷ [] }) r)) (sym e)
    (subst (λ b. HasAnswers (record r { state = cond b (with_answer r.state r.state.slots d.answer) (after_stranger r.state); output = r.output ++ line ∷ [] })) (sym o)
    (λ sound. absurd (false≢true (sym sound))))
HasAnswers-done r d line true true e o h =
    subst (λ b. HasAnswers (cond b (record r { state = after_done r.state d; output = r.output ++ line ∷ [] }) r)) (sym e)
    (subst (λ b. HasAnswers (record r { state = cond b (with_answer r.state r.state.slots d.answer) (after_stranger r.state); output = r.output ++ line ∷ [] })) (sym o)
    (HasAnswers-own r d line r.state.slots refl e h))

front_said : (output : List (List ℕ)) (slots : List Slot) → length (output ++ optional_line (front_line slots)) + length (slots_after_front slots) ≡ length output + length slots
front_said output [] = let none = ap (λ (l : List (List ℕ)). length l) (append_nil output) in omega (arith, none)
front_said output (JobOut call ∷ slots) = let none = ap (λ (l : List (List ℕ)). length l) (append_nil output) in omega (arith, none)
front_said output (HeldLine line ∷ slots) = let long = length-append output (line ∷ []) in omega (arith, long)

HasAnswers-event : (r : Run) (e : Event) → HasAnswers r → HasAnswers (after_event r e)
HasAnswers-event r (LineRead line) h = HasAnswers-line r line (meaning r.state.railway line) r.state.has_failed (any_line r.state.railway line) refl h
HasAnswers-event r (LineReadWithoutMemory line) h = HasAnswers-line r line (meaning_without_memory line) r.state.has_failed (any_line_without_memory line) refl h
HasAnswers-event r (DoneTaken d) h = HasAnswers-done r d (done_line r.state d) (is_job_in_front r.state.slots) (is_own r.state d) refl refl h
HasAnswers-event r (DoneTakenWithoutMemory d) h = HasAnswers-done r d (done_line_without_memory r.state d) (is_job_in_front r.state.slots) (is_own r.state d) refl refl h
HasAnswers-event r HeldLineTaken h = λ sound.
    let before = h sound in
    let front = front_said r.output r.state.slots in
    omega (arith, before, front)

HasAnswers-run : (r : Run) (events : List Event) → HasAnswers r → HasAnswers (run r events)
HasAnswers-run r [] h = h
HasAnswers-run r (e ∷ events) h = HasAnswers-run (after_event r e) events (HasAnswers-event r e h)

pub each_line_is_answered : EachLineIsAnswered
each_line_is_answered id events sound = HasAnswers-run (new_run (new_state id)) events (λ s. refl) sound
