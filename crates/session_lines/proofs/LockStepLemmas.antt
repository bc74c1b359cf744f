-- A session over lines and its own Dones means what its lines mean in lock step.
use Rattle.session_lines.proofs.Common.{◌≡◌, ℕ, ◌+◌, ◌-◌, ◌≤◌, ◌==◌, ◌&&◌, Bool, true, false, cond, List, [], ◌∷◌, ◌++◌, Option, Some, length, refl, ap, sym, ◌∙◌, append_assoc, subst, length-append, arith, rules, tests, fold-append, Railway, Call, Told, Job, Stranger, Meaning, Blank, Hello, Wrong, Calls, Step, Nothing, Ask, Ended, Done, Slot, JobOut, HeldLine, State, new_state, jobs_out, answer_text, line_fault_text, hello_text, meaning, saying_step, after_saying, with_job, sound_step, after_sound, done_line, is_own, is_job_in_front, with_answer, after_done, after_stranger, front_line, slots_after_front, with_entry, slots_with, step_with, job, Transcript, Answers, lock_step, transcript_after, new_transcript, Event, LineRead, LineReadWithoutMemory, DoneTaken, DoneTakenWithoutMemory, HeldLineTaken, Run, run_with_line, after_event, new_run, run, oldest_index, HasOwnDones, slot_lines, tally_with_slots, completed_transcript, step_lines, step_jobs, optional_line}
use Rattle.session_lines.proofs.SlotLemmas.{jobs_out-held, jobs_out-job, jobs_out-front}
use Rattle.session_lines.proofs.EventLemmas.{sound-named}

pub append_nil : {A : Type 0} (xs : List A) → xs ≡ xs ++ []
append_nil [] = refl
append_nil (x ∷ xs) = ap (λ ys. x ∷ ys) (append_nil xs)

transcript_eq : (a b : Transcript) → a.railway ≡ b.railway → a.jobs ≡ b.jobs → a.output ≡ b.output → a.tally ≡ b.tally → a ≡ b
transcript_eq a b g j s t = λ i. record { railway = g i; jobs = j i; output = s i; tally = t i }

-- a run with one line more read, on which the session took this step
abbrev pub stepped : Run → List ℕ → Step → State → Run
stepped r line step state = record {
  state = state;
  input = r.input ++ line ∷ [];
  jobs = r.jobs ++ step_jobs step;
  output = r.output ++ step_lines step;
}

-- a line more in the last slot
slot_lines-held : (answers : Answers) (index : ℕ) (slots : List Slot) (line : List ℕ) → slot_lines answers index (slots ++ HeldLine line ∷ []) ≡ slot_lines answers index slots ++ line ∷ []
slot_lines-held answers index [] line = refl
slot_lines-held answers index (JobOut call ∷ slots) line = ap (λ ls. answer_text (answers index) ∷ ls) (slot_lines-held answers (index + 1) slots line)
slot_lines-held answers index (HeldLine held ∷ slots) line = ap (λ ls. held ∷ ls) (slot_lines-held answers index slots line)

tally_with_slots-held : (answers : Answers) (index : ℕ) (tally : List Told) (slots : List Slot) (line : List ℕ) → tally_with_slots answers index tally (slots ++ HeldLine line ∷ []) ≡ tally_with_slots answers index tally slots
tally_with_slots-held answers index tally [] line = refl
tally_with_slots-held answers index tally (JobOut call ∷ slots) line = tally_with_slots-held answers (index + 1) (with_entry tally call (answers index)) slots line
tally_with_slots-held answers index tally (HeldLine held ∷ slots) line = tally_with_slots-held answers index tally slots line

-- a job more in the last slot
slot_lines-job : (answers : Answers) (index : ℕ) (slots : List Slot) (call : Call) (n : ℕ) → index + jobs_out slots ≡ n → slot_lines answers index (slots ++ JobOut call ∷ []) ≡ slot_lines answers index slots ++ answer_text (answers n) ∷ []
slot_lines-job answers index [] call n e = ap (λ m. answer_text (answers m) ∷ []) (omega (arith, e))
slot_lines-job answers index (JobOut first ∷ slots) call n e = ap (λ ls. answer_text (answers index) ∷ ls) (slot_lines-job answers (index + 1) slots call n (omega (arith, e)))
slot_lines-job answers index (HeldLine held ∷ slots) call n e = ap (λ ls. held ∷ ls) (slot_lines-job answers index slots call n e)

tally_with_slots-job : (answers : Answers) (index : ℕ) (tally : List Told) (slots : List Slot) (call : Call) (n : ℕ) → index + jobs_out slots ≡ n → tally_with_slots answers index tally (slots ++ JobOut call ∷ []) ≡ with_entry (tally_with_slots answers index tally slots) call (answers n)
tally_with_slots-job answers index tally [] call n e = ap (λ m. with_entry tally call (answers m)) (omega (arith, e))
tally_with_slots-job answers index tally (JobOut first ∷ slots) call n e = tally_with_slots-job answers (index + 1) (with_entry tally first (answers index)) slots call n (omega (arith, e))
tally_with_slots-job answers index tally (HeldLine held ∷ slots) call n e = tally_with_slots-job answers index tally slots call n e

-- what is said at a line, or held after it
output-saying : (answers : Answers) (output : List (List ℕ)) (index : ℕ) (slots : List Slot) (line : List ℕ) → (output ++ slot_lines answers index slots) ++ line ∷ [] ≡ (output ++ step_lines (step_with slots line)) ++ slot_lines answers index (slots_with slots line)
output-saying answers output index [] line = ap (λ ls. ls ++ line ∷ []) (sym (append_nil output)) ∙ append_nil (output ++ line ∷ [])
output-saying answers output index (slot ∷ slots) line =
    append_assoc output (slot_lines answers index (slot ∷ slots)) (line ∷ [])
    ∙ ap (λ ls. output ++ ls) (sym (slot_lines-held answers index (slot ∷ slots) line))
    ∙ ap (λ ls. ls ++ slot_lines answers index (slot ∷ slots ++ HeldLine line ∷ [])) (append_nil output)

tally_with_slots-saying : (answers : Answers) (index : ℕ) (tally : List Told) (slots : List Slot) (line : List ℕ) → tally_with_slots answers index tally slots ≡ tally_with_slots answers index tally (slots_with slots line)
tally_with_slots-saying answers index tally [] line = refl
tally_with_slots-saying answers index tally (slot ∷ slots) line = sym (tally_with_slots-held answers index tally (slot ∷ slots) line)

jobs_out-saying : (slots : List Slot) (line : List ℕ) → jobs_out (slots_with slots line) ≡ jobs_out slots
jobs_out-saying [] line = refl
jobs_out-saying (slot ∷ slots) line = jobs_out-held (slot ∷ slots) line

pub step_jobs-saying : (slots : List Slot) (line : List ℕ) → step_jobs (step_with slots line) ≡ []
step_jobs-saying [] line = refl
step_jobs-saying (slot ∷ slots) line = refl

-- a line that is said, in a state that may have had its hello since
completed-saying : (answers : Answers) (r : Run) (read line : List ℕ) (now : Option Railway) → record (completed_transcript answers r) { railway = now; output = (completed_transcript answers r).output ++ line ∷ [] } ≡ completed_transcript answers (stepped r read (saying_step r.state line) (record (after_saying r.state line) { railway = now }))
completed-saying answers r read line now =
    let s = r.state in
    let index : oldest_index s ≡ oldest_index (after_saying s line) = ap (λ n. s.job_count - n) (sym (jobs_out-saying s.slots line)) in
    transcript_eq _ _ refl
    (append_nil r.jobs ∙ ap (λ js. r.jobs ++ js) (sym (step_jobs-saying s.slots line)))
    (output-saying answers r.output (oldest_index s) s.slots line ∙ ap (λ n. (r.output ++ step_lines (step_with s.slots line)) ++ slot_lines answers n (slots_with s.slots line)) index)
    (tally_with_slots-saying answers (oldest_index s) s.tally s.slots line ∙ ap (λ n. tally_with_slots answers n s.tally (slots_with s.slots line)) index)

-- a job that is given out
completed-job : (answers : Answers) (r : Run) (read : List ℕ) (call : Call) → length r.jobs ≡ r.state.job_count → jobs_out r.state.slots ≤ r.state.job_count → transcript_after r.state.id answers (completed_transcript answers r) (Calls call) ≡ completed_transcript answers (stepped r read (Ask (job r.state.id r.state.job_count call)) (with_job r.state call))
completed-job answers r read call count within =
    let s = r.state in
    let sum : oldest_index s + jobs_out s.slots ≡ length r.jobs = omega (arith, count, within) in
    let index : oldest_index s ≡ oldest_index (with_job s call) = omega (arith, jobs_out-job s.slots call, within) in
    transcript_eq _ _ refl
    (ap (λ n. r.jobs ++ job s.id n call ∷ []) count)
    (append_assoc r.output (slot_lines answers (oldest_index s) s.slots) (answer_text (answers (length r.jobs)) ∷ [])
    ∙ ap (λ ls. r.output ++ ls) (sym (slot_lines-job answers (oldest_index s) s.slots call (length r.jobs) sum))
    ∙ ap (λ ls. ls ++ slot_lines answers (oldest_index s) (s.slots ++ JobOut call ∷ [])) (append_nil r.output)
    ∙ ap (λ n. (r.output ++ []) ++ slot_lines answers n (s.slots ++ JobOut call ∷ [])) index)
    (sym (tally_with_slots-job answers (oldest_index s) s.tally s.slots call (length r.jobs) sum) ∙ ap (λ n. tally_with_slots answers n s.tally (s.slots ++ JobOut call ∷ [])) index)

completed-nothing : (answers : Answers) (r : Run) (read : List ℕ) → completed_transcript answers r ≡ completed_transcript answers (stepped r read Nothing r.state)
completed-nothing answers r read = transcript_eq _ _ refl (append_nil r.jobs) (ap (λ ls. ls ++ slot_lines answers (oldest_index r.state) r.state.slots) (append_nil r.output)) refl

-- any line, in a session that has not failed
completed-sound : (answers : Answers) (r : Run) (read : List ℕ) (m : Meaning) → length r.jobs ≡ r.state.job_count → jobs_out r.state.slots ≤ r.state.job_count → transcript_after r.state.id answers (completed_transcript answers r) m ≡ completed_transcript answers (stepped r read (sound_step r.state m) (after_sound r.state m))
completed-sound answers r read Blank count within = completed-nothing answers r read
completed-sound answers r read (Hello railway) count within = completed-saying answers r read (hello_text railway) (Some railway)
completed-sound answers r read (Wrong fault) count within = completed-saying answers r read fault r.state.railway
completed-sound answers r read (Calls call) count within = completed-job answers r read call count within

-- what a session that has not failed keeps at a line
has_failed-sound : (s : State) (m : Meaning) → (after_sound s m).has_failed ≡ s.has_failed
has_failed-sound s Blank = refl
has_failed-sound s (Hello railway) = refl
has_failed-sound s (Wrong fault) = refl
has_failed-sound s (Calls call) = refl

length-jobs-saying : (jobs : List Job) (slots : List Slot) (line : List ℕ) → length (jobs ++ step_jobs (step_with slots line)) ≡ length jobs
length-jobs-saying jobs slots line = ap (λ js. length (jobs ++ js)) (step_jobs-saying slots line) ∙ ap length (sym (append_nil jobs))

length-jobs-sound : (jobs : List Job) (s : State) (m : Meaning) → length jobs ≡ s.job_count → length (jobs ++ step_jobs (sound_step s m)) ≡ (after_sound s m).job_count
length-jobs-sound jobs s Blank count = ap length (sym (append_nil jobs)) ∙ count
length-jobs-sound jobs s (Hello railway) count = length-jobs-saying jobs s.slots (hello_text railway) ∙ count
length-jobs-sound jobs s (Wrong fault) count = length-jobs-saying jobs s.slots fault ∙ count
length-jobs-sound jobs s (Calls call) count = length-append jobs (job s.id s.job_count call ∷ []) ∙ ap (λ n. n + 1) count

jobs_out-sound : (s : State) (m : Meaning) → jobs_out s.slots ≤ s.job_count → jobs_out (after_sound s m).slots ≤ (after_sound s m).job_count
jobs_out-sound s Blank within = within
jobs_out-sound s (Hello railway) within = omega (arith, jobs_out-saying s.slots (hello_text railway), within)
jobs_out-sound s (Wrong fault) within = omega (arith, jobs_out-saying s.slots fault, within)
jobs_out-sound s (Calls call) within = omega (arith, jobs_out-job s.slots call, within)

-- what holds of a run of which each Done was the session's own
pub record IsLockStep (id : ℕ) (answers : Answers) (r : Run) : Type 0 where
  pub named : id ≡ r.state.id
  pub same : lock_step r.state.id answers r.input ≡ completed_transcript answers r
  pub sound : r.state.has_failed ≡ false
  pub count : length r.jobs ≡ r.state.job_count
  pub within : jobs_out r.state.slots ≤ r.state.job_count

-- one line more in lock step
lock_step-line : (id : ℕ) (answers : Answers) (lines : List (List ℕ)) (line : List ℕ) (t : Transcript) → lock_step id answers lines ≡ t → lock_step id answers (lines ++ line ∷ []) ≡ transcript_after id answers t (meaning t.railway line)
lock_step-line id answers lines line t e =
    fold-append (λ t line. transcript_after id answers t (meaning t.railway line)) new_transcript lines (line ∷ [])
    ∙ ap (λ u. transcript_after id answers u (meaning u.railway line)) e

pub IsLockStep-line : (id : ℕ) (answers : Answers) (r : Run) (line : List ℕ) → IsLockStep id answers r → IsLockStep id answers (after_event r (LineRead line))
IsLockStep-line id answers r line l =
    let m = meaning r.state.railway line in
    let next : Run = stepped r line (sound_step r.state m) (after_sound r.state m) in
    let is : run_with_line r line m ≡ next =
    λ i. stepped r line (cond (l.sound i) Ended (sound_step r.state m)) (cond (l.sound i) r.state (after_sound r.state m)) in
    let after : IsLockStep id answers next = record {
      named = l.named ∙ sym (sound-named r.state m);
      same = ap (λ id. lock_step id answers (r.input ++ line ∷ [])) (sound-named r.state m)
          ∙ lock_step-line r.state.id answers r.input line (completed_transcript answers r) l.same
          ∙ completed-sound answers r line m l.count l.within;
      sound = has_failed-sound r.state m ∙ l.sound;
      count = length-jobs-sound r.jobs r.state m l.count;
      within = jobs_out-sound r.state m l.within;
    } in
    subst (λ t. IsLockStep id answers t) (sym is) after

-- a line that was held is said
completed-front : (answers : Answers) (r : Run) (slots : List Slot) → r.state.slots ≡ slots → completed_transcript answers r ≡ completed_transcript answers (record r { state = record r.state { slots = slots_after_front slots }; output = r.output ++ optional_line (front_line slots) })
completed-front answers r [] e =
    transcript_eq _ _ refl refl
    ((λ i. r.output ++ slot_lines answers (r.state.job_count - jobs_out (e i)) (e i)) ∙ ap (λ ls. ls ++ []) (append_nil r.output))
    (λ i. tally_with_slots answers (r.state.job_count - jobs_out (e i)) r.state.tally (e i))
completed-front answers r (JobOut call ∷ slots) e =
    transcript_eq _ _ refl refl
    ((λ i. r.output ++ slot_lines answers (r.state.job_count - jobs_out (e i)) (e i)) ∙ ap (λ ls. ls ++ slot_lines answers (r.state.job_count - jobs_out (JobOut call ∷ slots)) (JobOut call ∷ slots)) (append_nil r.output))
    (λ i. tally_with_slots answers (r.state.job_count - jobs_out (e i)) r.state.tally (e i))
completed-front answers r (HeldLine line ∷ slots) e =
    transcript_eq _ _ refl refl
    ((λ i. r.output ++ slot_lines answers (r.state.job_count - jobs_out (e i)) (e i)) ∙ sym (append_assoc r.output (line ∷ []) (slot_lines answers (r.state.job_count - jobs_out slots) slots)))
    (λ i. tally_with_slots answers (r.state.job_count - jobs_out (e i)) r.state.tally (e i))

pub IsLockStep-front : (id : ℕ) (answers : Answers) (r : Run) → IsLockStep id answers r → IsLockStep id answers (after_event r HeldLineTaken)
IsLockStep-front id answers r l = record {
  named = l.named;
  same = l.same ∙ completed-front answers r r.state.slots refl;
  sound = l.sound;
  count = l.count;
  within = omega (arith, jobs_out-front r.state.slots, l.within);
}

-- the session's own Done
pub and-left : (a b : Bool) → a && b ≡ true → a ≡ true
and-left true b e = refl
and-left false b e = absurd (search (tests, rules, e))

pub and-right : (a b : Bool) → a && b ≡ true → b ≡ true
and-right true b e = e
and-right false b e = absurd (search (tests, rules, e))

completed-done : (answers : Answers) (r : Run) (d : Done) (slots : List Slot) → r.state.slots ≡ slots → is_job_in_front slots ≡ true → d.index + jobs_out slots ≡ r.state.job_count → d.answer ≡ answers d.index → completed_transcript answers r ≡ completed_transcript answers (record r { state = with_answer r.state slots d.answer; output = r.output ++ answer_text d.answer ∷ [] })
completed-done answers r d [] e out index answer = absurd (search (tests, rules, out))
completed-done answers r d (HeldLine line ∷ slots) e out index answer = absurd (search (tests, rules, out))
completed-done answers r d (JobOut call ∷ slots) e out index answer =
    let before : r.state.job_count - jobs_out (JobOut call ∷ slots) ≡ d.index = omega (arith, index) in
    let then : d.index + 1 ≡ r.state.job_count - jobs_out slots = omega (arith, index) in
    transcript_eq _ _ refl refl
    ((λ i. r.output ++ slot_lines answers (r.state.job_count - jobs_out (e i)) (e i))
    ∙ ap (λ n. r.output ++ slot_lines answers n (JobOut call ∷ slots)) before
    ∙ sym (append_assoc r.output (answer_text (answers d.index) ∷ []) (slot_lines answers (d.index + 1) slots))
    ∙ ap (λ a. (r.output ++ answer_text a ∷ []) ++ slot_lines answers (d.index + 1) slots) (sym answer)
    ∙ ap (λ n. (r.output ++ answer_text d.answer ∷ []) ++ slot_lines answers n slots) then)
    ((λ i. tally_with_slots answers (r.state.job_count - jobs_out (e i)) r.state.tally (e i))
    ∙ ap (λ n. tally_with_slots answers n r.state.tally (JobOut call ∷ slots)) before
    ∙ ap (λ a. tally_with_slots answers (d.index + 1) (with_entry r.state.tally call a) slots) (sym answer)
    ∙ ap (λ n. tally_with_slots answers n (with_entry r.state.tally call d.answer) slots) then)

-- what an answer leaves as it was
with_answer-id : (s : State) (slots : List Slot) (d : Done) → (with_answer s slots d.answer).id ≡ s.id
with_answer-id s [] d = refl
with_answer-id s (JobOut call ∷ slots) d = refl
with_answer-id s (HeldLine line ∷ slots) d = refl

with_answer-has_failed : (s : State) (slots : List Slot) (d : Done) → (with_answer s slots d.answer).has_failed ≡ s.has_failed
with_answer-has_failed s [] d = refl
with_answer-has_failed s (JobOut call ∷ slots) d = refl
with_answer-has_failed s (HeldLine line ∷ slots) d = refl

with_answer-job_count : (s : State) (slots : List Slot) (d : Done) → (with_answer s slots d.answer).job_count ≡ s.job_count
with_answer-job_count s [] d = refl
with_answer-job_count s (JobOut call ∷ slots) d = refl
with_answer-job_count s (HeldLine line ∷ slots) d = refl

with_answer-jobs_out : (s : State) (slots : List Slot) (d : Done) → s.slots ≡ slots → jobs_out (with_answer s slots d.answer).slots ≤ jobs_out s.slots
with_answer-jobs_out s [] d e = omega arith
with_answer-jobs_out s (JobOut call ∷ slots) d e = omega (arith, ap jobs_out e)
with_answer-jobs_out s (HeldLine line ∷ slots) d e = omega arith

pub IsLockStep-done : (id : ℕ) (answers : Answers) (r : Run) (d : Done) → IsLockStep id answers r → is_job_in_front r.state.slots ≡ true → is_own r.state d ≡ true → d.answer ≡ answers d.index → IsLockStep id answers (after_event r (DoneTaken d))
IsLockStep-done id answers r d l out own answer =
    let s = r.state in
    let index : d.index + jobs_out s.slots ≡ s.job_count = search (tests, rules, and-right (d.session == s.id) (d.index + jobs_out s.slots == s.job_count) own) in
    let state : after_done s d ≡ with_answer s s.slots d.answer = λ i. cond (own i) (with_answer s s.slots d.answer) (after_stranger s) in
    let line : done_line s d ≡ answer_text d.answer = λ i. cond (own i) (answer_text d.answer) (line_fault_text Stranger) in
    let taken : Run = record r { state = after_done s d; output = r.output ++ done_line s d ∷ [] } in
    let took : after_event r (DoneTaken d) ≡ taken = λ i. cond (out i) taken r in
    let now : record r { state = with_answer s s.slots d.answer; output = r.output ++ answer_text d.answer ∷ [] } ≡ taken = λ i. record r { state = (sym state) i; output = r.output ++ (sym line) i ∷ [] } in
    subst (λ t. IsLockStep id answers t) (sym took) (record {
      named = l.named ∙ sym (ap (λ t. t.id) state ∙ with_answer-id s s.slots d);
      same = ap (λ id. lock_step id answers r.input) (ap (λ t. t.id) state ∙ with_answer-id s s.slots d)
          ∙ l.same ∙ completed-done answers r d s.slots refl out index answer ∙ ap (completed_transcript answers) now;
      sound = ap (λ t. t.has_failed) state ∙ with_answer-has_failed s s.slots d ∙ l.sound;
      count = l.count ∙ sym (ap (λ t. t.job_count) state ∙ with_answer-job_count s s.slots d);
      within = omega (arith, ap (λ t. t.job_count) state, with_answer-job_count s s.slots d, ap (λ t. jobs_out t.slots) state, with_answer-jobs_out s s.slots d refl, l.within);
    })

-- any run of lines and own Dones
IsLockStep-run : (id : ℕ) (answers : Answers) (r : Run) (events : List Event) → IsLockStep id answers r → HasOwnDones answers r events → IsLockStep id answers (run r events)
IsLockStep-run id answers r [] l own = l
IsLockStep-run id answers r (LineRead line ∷ events) l own = IsLockStep-run id answers (after_event r (LineRead line)) events (IsLockStep-line id answers r line l) own
IsLockStep-run id answers r (LineReadWithoutMemory line ∷ events) l own = absurd own
IsLockStep-run id answers r (DoneTaken d ∷ events) l own = IsLockStep-run id answers (after_event r (DoneTaken d)) events (IsLockStep-done id answers r d l own.0 own.1 own.2) own.3
IsLockStep-run id answers r (DoneTakenWithoutMemory d ∷ events) l own = absurd own
IsLockStep-run id answers r (HeldLineTaken ∷ events) l own = IsLockStep-run id answers (after_event r HeldLineTaken) events (IsLockStep-front id answers r l) own

pub IsLockStep-events : (id : ℕ) (answers : Answers) (events : List Event) → HasOwnDones answers (new_run (new_state id)) events → IsLockStep id answers (run (new_run (new_state id)) events)
IsLockStep-events id answers events own = IsLockStep-run id answers (new_run (new_state id)) events (record { named = refl; same = refl; sound = refl; count = refl; within = omega arith }) own
