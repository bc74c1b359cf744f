-- A session that holds nothing more, and never said that memory was refused, means what its lines mean in lock step.
use Rattle.session_lines.proofs.Common.{◌≡◌, ◌≢◌, ◌⊎◌, inl, inr, ℕ, ◌+◌, Bool, true, false, cond, nat_lt, List, [], ◌∷◌, ◌++◌, Result, Ok, Err, length, slice_get, refl, ap, sym, ◌∙◌, subst, arith, append_assoc, false≢true, All, All-head, All-tail, Reply, HubFault, is_blank, Job, Meaning, Blank, Hello, Wrong, Calls, Ended, Done, Slot, JobOut, HeldLine, State, new_state, hello_text, answer_text, answer_text_without_memory, line_fault_text, LineTooLong, NoMemory, Stranger, meaning, meaning_without_memory, meaning_by_length, text_meaning, sound_step, after_sound, slots_with, step_with, is_own, is_job_in_front, with_answer, after_done, after_stranger, front_line, slots_after_front, done_line, done_line_without_memory, Answers, lock_step, completed_transcript, slot_lines, oldest_index, Event, LineRead, LineReadWithoutMemory, DoneTaken, DoneTakenWithoutMemory, HeldLineTaken, Run, run_with_line, run_with_done, after_event, new_run, run, step_lines, optional_line, own_done, own_done_in, own_dones, AreDonesFrom, answer_of, answers_of}
use Rattle.session_lines.proofs.LockStepLemmas.{append_nil, stepped, IsLockStep, IsLockStep-line, IsLockStep-front, IsLockStep-done}
use Rattle.session_lines.proofs.TallyLemmas.{IsOwnTally-run}

-- ---- lines none of which says that memory is refused

abbrev pub IsNoRefusal : List ℕ → Type 0
IsNoRefusal line = line ≢ line_fault_text NoMemory

abbrev NoRefusals : List (List ℕ) → Type 0
NoRefusals [] = Unit {0}
NoRefusals (line ∷ lines) = IsNoRefusal line × NoRefusals lines

from_all : (lines : List (List ℕ)) → All IsNoRefusal lines → NoRefusals lines
from_all [] all = tt
from_all (line ∷ lines) all = (All-head IsNoRefusal line lines all, from_all lines (All-tail IsNoRefusal line lines all))

first_part : (lines more : List (List ℕ)) → NoRefusals (lines ++ more) → NoRefusals lines
first_part [] more none = tt
first_part (line ∷ lines) more none = (none.0, first_part lines more none.1)

last_part : (lines more : List (List ℕ)) → NoRefusals (lines ++ more) → NoRefusals more
last_part [] more none = none
last_part (line ∷ lines) more none = last_part lines more none.1

-- ---- the lines that are held

abbrev held_lines : List Slot → List (List ℕ)
held_lines [] = []
held_lines (JobOut call ∷ slots) = held_lines slots
held_lines (HeldLine line ∷ slots) = line ∷ held_lines slots

held_lines-held : (slots : List Slot) (line : List ℕ) → held_lines (slots ++ HeldLine line ∷ []) ≡ held_lines slots ++ line ∷ []
held_lines-held [] line = refl
held_lines-held (JobOut call ∷ slots) line = held_lines-held slots line
held_lines-held (HeldLine held ∷ slots) line = ap (λ ls. held ∷ ls) (held_lines-held slots line)

held_lines-job : (slots : List Slot) (job : Slot) → held_lines (job ∷ []) ≡ [] → held_lines (slots ++ job ∷ []) ≡ held_lines slots
held_lines-job [] job none = none
held_lines-job (JobOut call ∷ slots) job none = held_lines-job slots job none
held_lines-job (HeldLine held ∷ slots) job none = ap (λ ls. held ∷ ls) (held_lines-job slots job none)

-- ---- runs in which no stranger came, and no line that was said or is held says that memory is refused

pub record IsWell (r : Run) : Type 0 where
  pub sound : r.state.has_failed ≡ false
  pub said : NoRefusals r.output
  pub held : NoRefusals (held_lines r.state.slots)

-- what a line means is not that memory is refused
abbrev MeansNoRefusal : Meaning → Type 0
MeansNoRefusal Blank = Unit {0}
MeansNoRefusal (Hello railway) = Unit {0}
MeansNoRefusal (Wrong fault) = IsNoRefusal fault
MeansNoRefusal (Calls call) = Unit {0}

before_saying : (output : List (List ℕ)) (slots : List Slot) (line : List ℕ) → NoRefusals (output ++ step_lines (step_with slots line)) → NoRefusals (held_lines (slots_with slots line)) → NoRefusals output × NoRefusals (held_lines slots) × IsNoRefusal line
before_saying output [] line said held = (first_part output (line ∷ []) said, tt, (last_part output (line ∷ []) said).0)
before_saying output (slot ∷ slots) line said held =
    let all = subst NoRefusals (held_lines-held (slot ∷ slots) line) held in
    let before = held_lines (slot ∷ slots) in
    (first_part output [] said, first_part before (line ∷ []) all, (last_part before (line ∷ []) all).0)

before_sound : (r : Run) (line : List ℕ) (m : Meaning) → r.state.has_failed ≡ false → IsWell (stepped r line (sound_step r.state m) (after_sound r.state m)) → IsWell r × MeansNoRefusal m
before_sound r line Blank sound w = (record { sound = sound; said = first_part r.output [] w.said; held = w.held }, tt)
before_sound r line (Hello railway) sound w =
    let b = before_saying r.output r.state.slots (hello_text railway) w.said w.held in
    (record { sound = sound; said = b.0; held = b.1 }, tt)
before_sound r line (Wrong fault) sound w =
    let b = before_saying r.output r.state.slots fault w.said w.held in
    (record { sound = sound; said = b.0; held = b.1 }, b.2)
before_sound r line (Calls call) sound w =
    (record { sound = sound; said = first_part r.output [] w.said; held = subst NoRefusals (held_lines-job r.state.slots (JobOut call) refl) w.held }, tt)

before_line : (r : Run) (line : List ℕ) (m : Meaning) (failed : Bool) → r.state.has_failed ≡ failed → IsWell (run_with_line r line m) → IsWell r × MeansNoRefusal m
before_line r line m false e w =
    before_sound r line m e (subst (λ b. IsWell (stepped r line (cond b Ended (sound_step r.state m)) (cond b r.state (after_sound r.state m)))) e w)
before_line r line m true e w =
    let failed = subst (λ b. IsWell (stepped r line (cond b Ended (sound_step r.state m)) (cond b r.state (after_sound r.state m)))) e w in
    absurd (false≢true (sym failed.sound ∙ e))

before_own : (r : Run) (d : Done) (line : List ℕ) (slots : List Slot) → r.state.slots ≡ slots → is_job_in_front slots ≡ true → IsWell (record r { state = with_answer r.state slots d.answer; output = r.output ++ line ∷ [] }) → IsWell r × IsNoRefusal line
before_own r d line [] e front w = absurd (false≢true front)
before_own r d line (HeldLine held ∷ slots) e front w = absurd (false≢true front)
before_own r d line (JobOut call ∷ slots) e front w =
    (record { sound = w.sound; said = first_part r.output (line ∷ []) w.said; held = subst (λ s. NoRefusals (held_lines s)) (sym e) w.held }, (last_part r.output (line ∷ []) w.said).0)

-- a Done where a job is in front is the session's own
before_taken : (r : Run) (d : Done) (line : List ℕ) (own : Bool) → is_job_in_front r.state.slots ≡ true → is_own r.state d ≡ own → IsWell (record r { state = after_done r.state d; output = r.output ++ line ∷ [] }) → IsWell r × IsNoRefusal line × (is_own r.state d ≡ true)
before_taken r d line false front e w =
    let failed = subst (λ b. IsWell (record r { state = cond b (with_answer r.state r.state.slots d.answer) (after_stranger r.state); output = r.output ++ line ∷ [] })) e w in
    absurd (false≢true (sym failed.sound))
before_taken r d line true front e w =
    let b = before_own r d line r.state.slots refl front (subst (λ b. IsWell (record r { state = cond b (with_answer r.state r.state.slots d.answer) (after_stranger r.state); output = r.output ++ line ∷ [] })) e w) in
    (b.0, b.1, e)

before_done : (r : Run) (d : Done) (line : List ℕ) (front : Bool) → is_job_in_front r.state.slots ≡ front → IsWell (run_with_done r d line) → IsWell r
before_done r d line false e w = subst (λ b. IsWell (cond b (record r { state = after_done r.state d; output = r.output ++ line ∷ [] }) r)) e w
before_done r d line true e w =
    (before_taken r d line (is_own r.state d) e refl (subst (λ b. IsWell (cond b (record r { state = after_done r.state d; output = r.output ++ line ∷ [] }) r)) e w)).0

before_front : (output : List (List ℕ)) (slots : List Slot) → NoRefusals (output ++ optional_line (front_line slots)) → NoRefusals (held_lines (slots_after_front slots)) → NoRefusals output × NoRefusals (held_lines slots)
before_front output [] said held = (first_part output [] said, tt)
before_front output (JobOut call ∷ slots) said held = (first_part output [] said, held)
before_front output (HeldLine line ∷ slots) said held = (first_part output (line ∷ []) said, ((last_part output (line ∷ []) said).0, held))

before_event : (r : Run) (e : Event) → IsWell (after_event r e) → IsWell r
before_event r (LineRead line) w = (before_line r line (meaning r.state.railway line) r.state.has_failed refl w).0
before_event r (LineReadWithoutMemory line) w = (before_line r line (meaning_without_memory line) r.state.has_failed refl w).0
before_event r (DoneTaken d) w = before_done r d (done_line r.state d) (is_job_in_front r.state.slots) refl w
before_event r (DoneTakenWithoutMemory d) w = before_done r d (done_line_without_memory r.state d) (is_job_in_front r.state.slots) refl w
before_event r HeldLineTaken w =
    let b = before_front r.output r.state.slots w.said w.held in
    record { sound = w.sound; said = b.0; held = b.1 }

before_run : (r : Run) (events : List Event) → IsWell (run r events) → IsWell r
before_run r [] w = w
before_run r (e ∷ events) w = before_event r e (before_run (after_event r e) events w)

-- ---- what happens where memory is refused is then what happens where it is not

same_or_refused : (line : List ℕ) (m : Meaning) → (meaning_by_length line (Wrong (line_fault_text NoMemory)) ≡ meaning_by_length line m) ⊎ (meaning_by_length line (Wrong (line_fault_text NoMemory)) ≡ Wrong (line_fault_text NoMemory))
unfolding meaning_by_length
same_or_refused line m =
    let refused : Meaning = Wrong (line_fault_text NoMemory) in
    let long : Meaning = Wrong (line_fault_text LineTooLong) in
    elim (nat_lt 65536 (length line)) as (λ l. (cond l long (cond (is_blank line) Blank refused) ≡ cond l long (cond (is_blank line) Blank m)) ⊎ (cond l long (cond (is_blank line) Blank refused) ≡ refused)) [
      | true ↦ inl refl
      | false ↦ elim (is_blank line) as (λ b. (cond b Blank refused ≡ cond b Blank m) ⊎ (cond b Blank refused ≡ refused)) [
        | true ↦ inl refl
        | false ↦ inr refl
      ]
    ]

same_line : (r : Run) (line : List ℕ) → IsWell (run_with_line r line (meaning_without_memory line)) → run_with_line r line (meaning r.state.railway line) ≡ run_with_line r line (meaning_without_memory line)
same_line r line w =
    let none = (before_line r line (meaning_without_memory line) r.state.has_failed refl w).1 in
    elim (same_or_refused line (text_meaning r.state.railway line)) [
      | inl same ↦ ap (λ m. run_with_line r line m) (sym same)
      | inr refused ↦ absurd (subst MeansNoRefusal refused none refl)
    ]

same_answer : (answer : Result (ℕ × Reply) HubFault) → IsNoRefusal (answer_text_without_memory answer) → answer_text answer ≡ answer_text_without_memory answer
same_answer (Ok answer) none = absurd (none refl)
same_answer (Err fault) none = refl

-- ---- the answers of the jobs

-- the Dones of a session are at the places that their indices name
at_index : (id index : ℕ) (dones : List Done) (d : Done) (more : List Done) → AreDonesFrom id index (dones ++ d ∷ more) → d.index ≡ index + length dones
at_index id index [] d more order = let is = order.1 in omega (arith, is)
at_index id index (first ∷ dones) d more order = let rest = at_index id (index + 1) dones d more order.2 in omega (arith, rest)

answer_there : (dones : List Done) (d : Done) (more : List Done) → answers_of (dones ++ d ∷ more) (length dones) ≡ d.answer
answer_there [] d more = refl
answer_there (first ∷ dones) d more = answer_there dones d more

own_answer : (id : ℕ) (total before : List Done) (d : Done) (more : List Done) → AreDonesFrom id 0 total → total ≡ before ++ d ∷ more → d.answer ≡ answers_of total d.index
own_answer id total before d more order is =
    let at : d.index ≡ 0 + length before = at_index id 0 before d more (subst (λ l. AreDonesFrom id 0 l) is order) in
    let place : length before ≡ d.index = omega (arith, at) in
    sym (answer_there before d more) ∙ (ap (λ n. answers_of (before ++ d ∷ more) n) place ∙ ap (λ l. answers_of l d.index) (sym is))

-- ---- all events

done_in_step : (id : ℕ) (total before more : List Done) (r : Run) (d : Done) (front own : Bool) → AreDonesFrom id 0 total → total ≡ before ++ (own_done r.state d ++ more) → is_job_in_front r.state.slots ≡ front → is_own r.state d ≡ own → IsLockStep id (answers_of total) r → IsWell (after_event r (DoneTaken d)) → IsLockStep id (answers_of total) (after_event r (DoneTaken d))
done_in_step id total before more r d false own order is e o l w =
    subst (λ b. IsLockStep id (answers_of total) (cond b (record r { state = after_done r.state d; output = r.output ++ done_line r.state d ∷ [] }) r)) (sym e) l
done_in_step id total before more r d true false order is e o l w =
    let taken = subst (λ b. IsWell (cond b (record r { state = after_done r.state d; output = r.output ++ done_line r.state d ∷ [] }) r)) e w in
    absurd (false≢true (sym o ∙ (before_taken r d (done_line r.state d) false e o taken).2))
done_in_step id total before more r d true true order is e o l w =
    let mine : own_done r.state d ≡ d ∷ [] = λ i. cond (e i) (cond (o i) (d ∷ []) []) [] in
    let there : total ≡ before ++ d ∷ more = is ∙ ap (λ l. before ++ (l ++ more)) mine in
    IsLockStep-done id (answers_of total) r d l e o (own_answer id total before d more order there)

same_done : (r : Run) (d : Done) (front own : Bool) → is_job_in_front r.state.slots ≡ front → is_own r.state d ≡ own → IsWell (after_event r (DoneTakenWithoutMemory d)) → after_event r (DoneTaken d) ≡ after_event r (DoneTakenWithoutMemory d)
same_done r d false own e o w =
    (λ i. cond (e i) (record r { state = after_done r.state d; output = r.output ++ done_line r.state d ∷ [] }) r)
    ∙ sym (λ i. cond (e i) (record r { state = after_done r.state d; output = r.output ++ done_line_without_memory r.state d ∷ [] }) r)
same_done r d true false e o w =
    let taken = subst (λ b. IsWell (cond b (record r { state = after_done r.state d; output = r.output ++ done_line_without_memory r.state d ∷ [] }) r)) e w in
    absurd (false≢true (sym o ∙ (before_taken r d (done_line_without_memory r.state d) false e o taken).2))
same_done r d true true e o w =
    let taken = subst (λ b. IsWell (cond b (record r { state = after_done r.state d; output = r.output ++ done_line_without_memory r.state d ∷ [] }) r)) e w in
    let none = (before_taken r d (done_line_without_memory r.state d) true e o taken).1 in
    let full : done_line r.state d ≡ answer_text d.answer = λ i. cond (o i) (answer_text d.answer) (line_fault_text Stranger) in
    let refused : done_line_without_memory r.state d ≡ answer_text_without_memory d.answer = λ i. cond (o i) (answer_text_without_memory d.answer) (line_fault_text Stranger) in
    ap (λ l. run_with_done r d l) (full ∙ (same_answer d.answer (subst IsNoRefusal refused none) ∙ sym refused))

event_in_step : (id : ℕ) (total before more : List Done) (r : Run) (e : Event) → AreDonesFrom id 0 total → total ≡ before ++ (own_done_in r.state e ++ more) → IsLockStep id (answers_of total) r → IsWell (after_event r e) → IsLockStep id (answers_of total) (after_event r e)
event_in_step id total before more r (LineRead line) order is l w = IsLockStep-line id (answers_of total) r line l
event_in_step id total before more r (LineReadWithoutMemory line) order is l w =
    subst (λ t. IsLockStep id (answers_of total) t) (same_line r line w) (IsLockStep-line id (answers_of total) r line l)
event_in_step id total before more r (DoneTaken d) order is l w = done_in_step id total before more r d (is_job_in_front r.state.slots) (is_own r.state d) order is refl refl l w
event_in_step id total before more r (DoneTakenWithoutMemory d) order is l w =
    let same = same_done r d (is_job_in_front r.state.slots) (is_own r.state d) refl refl w in
    subst (λ t. IsLockStep id (answers_of total) t) same
    (done_in_step id total before more r d (is_job_in_front r.state.slots) (is_own r.state d) order is refl refl l (subst IsWell (sym same) w))
event_in_step id total before more r HeldLineTaken order is l w = IsLockStep-front id (answers_of total) r l

run_in_step : (id : ℕ) (total before : List Done) (r : Run) (events : List Event) → AreDonesFrom id 0 total → total ≡ before ++ own_dones r events → IsLockStep id (answers_of total) r → IsWell (run r events) → IsLockStep id (answers_of total) (run r events)
run_in_step id total before r [] order is l w = l
run_in_step id total before r (e ∷ events) order is l w =
    let more = own_dones (after_event r e) events in
    let now = event_in_step id total before more r e order is l (before_run (after_event r e) events w) in
    run_in_step id total (before ++ own_done_in r.state e) (after_event r e) events order (is ∙ sym (append_assoc before (own_done_in r.state e) more)) now w

-- a session without a stranger that holds nothing more, and never said that memory was refused
pub ended_in_step : (id : ℕ) (events : List Event) → (run (new_run (new_state id)) events).state.has_failed ≡ false → (run (new_run (new_state id)) events).state.slots ≡ [] → All IsNoRefusal (run (new_run (new_state id)) events).output
    → ((run (new_run (new_state id)) events).output ≡ (lock_step id (answers_of (own_dones (new_run (new_state id)) events)) (run (new_run (new_state id)) events).input).output)
    × ((run (new_run (new_state id)) events).jobs ≡ (lock_step id (answers_of (own_dones (new_run (new_state id)) events)) (run (new_run (new_state id)) events).input).jobs)
ended_in_step id events sound none all =
    let start : Run = new_run (new_state id) in
    let r : Run = run start events in
    let dones : List Done = own_dones start events in
    let answers : Answers = answers_of dones in
    let first : IsLockStep id answers start = record { named = refl; same = refl; sound = refl; count = refl; within = omega arith } in
    let w : IsWell r = record { sound = sound; said = from_all r.output all; held = subst (λ s. NoRefusals (held_lines s)) (sym none) tt } in
    let l = run_in_step id dones [] start events (IsOwnTally-run id events).dones_in_order refl first w in
    let same : lock_step id answers r.input ≡ completed_transcript answers r = ap (λ n. lock_step n answers r.input) l.named ∙ l.same in (
      append_nil r.output ∙ (sym (λ i. r.output ++ slot_lines answers (oldest_index r.state) (none i)) ∙ sym (ap (λ t. t.output) same)),
      sym (ap (λ t. t.jobs) same),
    )
