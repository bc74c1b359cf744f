-- The tally of a session is its own.
use Rattle.session_lines.proofs.Common.{◌≡◌, ℕ, ◌+◌, ◌==◌, Bool, true, false, cond, List, [], ◌∷◌, ◌++◌, length, refl, ap, sym, ◌∙◌, append_assoc, subst, length-append, arith, rules, tests, false≢true, Call, Told, Job, Meaning, Blank, Hello, Wrong, Calls, Ended, Done, Slot, JobOut, HeldLine, State, new_state, jobs_out, hello_text, meaning, meaning_without_memory, sound_step, after_sound, done_line, done_line_without_memory, is_own, is_job_in_front, with_answer, after_done, after_stranger, slots_after_front, with_entry, slots_with, step_with, job, Event, LineRead, LineReadWithoutMemory, DoneTaken, DoneTakenWithoutMemory, HeldLineTaken, Run, run_with_line, run_with_done, after_event, new_run, run, own_done, own_done_in, own_dones, tally_with, AreJobsFrom, AreDonesFrom, IsOwnTally}
use Rattle.session_lines.proofs.LockStepLemmas.{append_nil, stepped, step_jobs-saying, and-left, and-right}

-- ---- the calls of the jobs that are out

abbrev calls_out : List Slot → List Call
calls_out [] = []
calls_out (JobOut call ∷ slots) = call ∷ calls_out slots
calls_out (HeldLine line ∷ slots) = calls_out slots

abbrev calls_of : List Job → List Call
calls_of [] = []
calls_of (asked ∷ jobs) = asked.call ∷ calls_of jobs

length-calls_out : (slots : List Slot) → length (calls_out slots) ≡ jobs_out slots
length-calls_out [] = refl
length-calls_out (JobOut call ∷ slots) = omega (arith, length-calls_out slots)
length-calls_out (HeldLine line ∷ slots) = length-calls_out slots

length-calls_of : (jobs : List Job) → length (calls_of jobs) ≡ length jobs
length-calls_of [] = refl
length-calls_of (asked ∷ jobs) = omega (arith, length-calls_of jobs)

calls_out-held : (slots : List Slot) (line : List ℕ) → calls_out (slots ++ HeldLine line ∷ []) ≡ calls_out slots
calls_out-held [] line = refl
calls_out-held (JobOut call ∷ slots) line = ap (λ cs. call ∷ cs) (calls_out-held slots line)
calls_out-held (HeldLine held ∷ slots) line = calls_out-held slots line

calls_out-job : (slots : List Slot) (call : Call) → calls_out (slots ++ JobOut call ∷ []) ≡ calls_out slots ++ call ∷ []
calls_out-job [] call = refl
calls_out-job (JobOut first ∷ slots) call = ap (λ cs. first ∷ cs) (calls_out-job slots call)
calls_out-job (HeldLine held ∷ slots) call = calls_out-job slots call

calls_out-saying : (slots : List Slot) (line : List ℕ) → calls_out (slots_with slots line) ≡ calls_out slots
calls_out-saying [] line = refl
calls_out-saying (slot ∷ slots) line = calls_out-held (slot ∷ slots) line

calls_out-front : (slots : List Slot) → calls_out (slots_after_front slots) ≡ calls_out slots
calls_out-front [] = refl
calls_out-front (JobOut call ∷ slots) = refl
calls_out-front (HeldLine line ∷ slots) = refl

calls_of-append : (jobs : List Job) (more : List Job) → calls_of (jobs ++ more) ≡ calls_of jobs ++ calls_of more
calls_of-append [] more = refl
calls_of-append (asked ∷ jobs) more = ap (λ cs. asked.call ∷ cs) (calls_of-append jobs more)

slots_after_front-none : (slots : List Slot) → slots ≡ [] → slots_after_front slots ≡ []
slots_after_front-none slots e = ap slots_after_front e

-- ---- entries, one after another

tally_with-none : (tally : List Told) (jobs : List Job) → tally_with tally jobs [] ≡ tally
tally_with-none tally [] = refl
tally_with-none tally (asked ∷ jobs) = refl

-- jobs without an answer have no entry
tally_with-waiting : (tally : List Told) (jobs more : List Job) (dones : List Done) → length jobs ≡ length dones → tally_with tally (jobs ++ more) dones ≡ tally_with tally jobs dones
tally_with-waiting tally [] more [] e = tally_with-none tally more
tally_with-waiting tally [] more (d ∷ dones) e = absurd (omega (arith, e))
tally_with-waiting tally (asked ∷ jobs) more [] e = absurd (omega (arith, e))
tally_with-waiting tally (asked ∷ jobs) more (d ∷ dones) e = tally_with-waiting (with_entry tally asked.call d.answer) jobs more dones (omega (arith, e))

tally_with-done : (tally : List Told) (jobs : List Job) (dones : List Done) (asked : Job) (d : Done) → length jobs ≡ length dones → tally_with tally (jobs ++ asked ∷ []) (dones ++ d ∷ []) ≡ with_entry (tally_with tally jobs dones) asked.call d.answer
tally_with-done tally [] [] asked d e = refl
tally_with-done tally [] (first ∷ dones) asked d e = absurd (omega (arith, e))
tally_with-done tally (first ∷ jobs) [] asked d e = absurd (omega (arith, e))
tally_with-done tally (first ∷ jobs) (done ∷ dones) asked d e = tally_with-done (with_entry tally first.call done.answer) jobs dones asked d (omega (arith, e))

AreJobsFrom-append : (id index n : ℕ) (jobs : List Job) (call : Call) → AreJobsFrom id index jobs → index + length jobs ≡ n → AreJobsFrom id index (jobs ++ job id n call ∷ [])
AreJobsFrom-append id index n [] call h e = (refl, omega (arith, e), tt)
AreJobsFrom-append id index n (asked ∷ jobs) call h e = (h.0, h.1, AreJobsFrom-append id (index + 1) n jobs call h.2 (omega (arith, e)))

AreDonesFrom-append : (id index : ℕ) (dones : List Done) (d : Done) → AreDonesFrom id index dones → d.session ≡ id → index + length dones ≡ d.index → AreDonesFrom id index (dones ++ d ∷ [])
AreDonesFrom-append id index [] d h named e = (named, omega (arith, e), tt)
AreDonesFrom-append id index (first ∷ dones) d h named e = (h.0, h.1, AreDonesFrom-append id (index + 1) dones d h.2 named (omega (arith, e)))

-- ---- what holds of every run

-- Some jobs have their answers, which are these Dones, and the others wait. Those that wait are the jobs that are out, unless
-- the session has failed.
pub record HasOwnTally (id : ℕ) (r : Run) (dones : List Done) : Type 0 where
  pub answered : List Job
  pub waiting : List Job
  pub named : r.state.id ≡ id
  pub parts : r.jobs ≡ answered ++ waiting
  pub jobs_in_order : AreJobsFrom id 0 r.jobs
  pub count : length r.jobs ≡ r.state.job_count
  pub matched : length answered ≡ length dones
  pub dones_in_order : AreDonesFrom id 0 dones
  pub entries : r.state.tally ≡ tally_with [] answered dones
  pub calls : r.state.has_failed ≡ false → calls_of waiting ≡ calls_out r.state.slots
  pub idle : r.state.has_failed ≡ true → r.state.slots ≡ []

-- nothing of it changes
HasOwnTally-same : (id : ℕ) (r n : Run) (dones : List Done) → n.jobs ≡ r.jobs → n.state.id ≡ r.state.id → n.state.job_count ≡ r.state.job_count → n.state.tally ≡ r.state.tally → (n.state.has_failed ≡ false → r.state.has_failed ≡ false) → (n.state.has_failed ≡ false → calls_out n.state.slots ≡ calls_out r.state.slots) → (n.state.has_failed ≡ true → n.state.slots ≡ []) → HasOwnTally id r dones → HasOwnTally id n dones
HasOwnTally-same id r n dones jobs named count tally sound calls idle h = record {
  answered = h.answered;
  waiting = h.waiting;
  named = named ∙ h.named;
  parts = jobs ∙ h.parts;
  jobs_in_order = subst (λ js. AreJobsFrom id 0 js) (sym jobs) h.jobs_in_order;
  count = ap length jobs ∙ h.count ∙ sym count;
  matched = h.matched;
  dones_in_order = h.dones_in_order;
  entries = tally ∙ h.entries;
  calls = λ f. h.calls (sound f) ∙ sym (calls f);
  idle = idle;
}

-- ---- lines

HasOwnTally-saying : (id : ℕ) (r : Run) (dones : List Done) (read line : List ℕ) (s : State) → r.state.has_failed ≡ false → s.id ≡ r.state.id → s.job_count ≡ r.state.job_count → s.tally ≡ r.state.tally → s.has_failed ≡ r.state.has_failed → s.slots ≡ slots_with r.state.slots line → HasOwnTally id r dones → HasOwnTally id (stepped r read (step_with r.state.slots line) s) dones
HasOwnTally-saying id r dones read line s sound named count tally failed slots h =
    HasOwnTally-same id r (stepped r read (step_with r.state.slots line) s) dones
    (ap (λ js. r.jobs ++ js) (step_jobs-saying r.state.slots line) ∙ sym (append_nil r.jobs))
    named count tally
    (λ f. sound)
    (λ f. ap calls_out slots ∙ calls_out-saying r.state.slots line)
    (λ f. absurd (false≢true (sym sound ∙ sym failed ∙ f)))
    h

HasOwnTally-job : (id : ℕ) (r : Run) (dones : List Done) (read : List ℕ) (call : Call) → r.state.has_failed ≡ false → HasOwnTally id r dones → HasOwnTally id (stepped r read (sound_step r.state (Calls call)) (after_sound r.state (Calls call))) dones
HasOwnTally-job id r dones read call sound h =
    let asked : Job = job r.state.id r.state.job_count call in
    record {
      answered = h.answered;
      waiting = h.waiting ++ asked ∷ [];
      named = h.named;
      parts = ap (λ js. js ++ asked ∷ []) h.parts ∙ append_assoc h.answered h.waiting (asked ∷ []);
      jobs_in_order = subst (λ n. AreJobsFrom id 0 (r.jobs ++ job n r.state.job_count call ∷ [])) (sym h.named) (AreJobsFrom-append id 0 r.state.job_count r.jobs call h.jobs_in_order (omega (arith, h.count)));
      count = length-append r.jobs (asked ∷ []) ∙ ap (λ n. n + 1) h.count;
      matched = h.matched;
      dones_in_order = h.dones_in_order;
      entries = h.entries;
      calls = λ f. calls_of-append h.waiting (asked ∷ []) ∙ ap (λ cs. cs ++ call ∷ []) (h.calls sound) ∙ sym (calls_out-job r.state.slots call);
      idle = λ f. absurd (false≢true (sym sound ∙ f));
    }

HasOwnTally-sound : (id : ℕ) (r : Run) (dones : List Done) (read : List ℕ) (m : Meaning) → r.state.has_failed ≡ false → HasOwnTally id r dones → HasOwnTally id (stepped r read (sound_step r.state m) (after_sound r.state m)) dones
HasOwnTally-sound id r dones read Blank sound h =
    HasOwnTally-same id r _ dones (sym (append_nil r.jobs)) refl refl refl (λ f. sound) (λ f. refl) (λ f. absurd (false≢true (sym sound ∙ f))) h
HasOwnTally-sound id r dones read (Hello railway) sound h = HasOwnTally-saying id r dones read (hello_text railway) _ sound refl refl refl refl refl h
HasOwnTally-sound id r dones read (Wrong fault) sound h = HasOwnTally-saying id r dones read fault _ sound refl refl refl refl refl h
HasOwnTally-sound id r dones read (Calls call) sound h = HasOwnTally-job id r dones read call sound h

HasOwnTally-line : (id : ℕ) (r : Run) (dones : List Done) (read : List ℕ) (m : Meaning) (failed : Bool) → r.state.has_failed ≡ failed → HasOwnTally id r dones → HasOwnTally id (run_with_line r read m) dones
HasOwnTally-line id r dones read m false e h =
    subst (λ b. HasOwnTally id (stepped r read (cond b Ended (sound_step r.state m)) (cond b r.state (after_sound r.state m))) dones) (sym e)
    (HasOwnTally-sound id r dones read m e h)
HasOwnTally-line id r dones read m true e h =
    subst (λ b. HasOwnTally id (stepped r read (cond b Ended (sound_step r.state m)) (cond b r.state (after_sound r.state m))) dones) (sym e)
    (HasOwnTally-same id r (stepped r read Ended r.state) dones (sym (append_nil r.jobs)) refl refl refl (λ f. f) (λ f. refl) h.idle h)

-- ---- Dones

abbrev first_or : List Call → Call → Call
first_or [] call = call
first_or (first ∷ calls) call = first

abbrev rest_of : List Call → List Call
rest_of [] = []
rest_of (first ∷ calls) = calls

HasOwnTally-answer : (id : ℕ) (r : Run) (dones : List Done) (d : Done) (output : List (List ℕ)) (call : Call) (slots : List Slot) (asked : Job) (waiting : List Job) (h : HasOwnTally id r dones) → h.waiting ≡ asked ∷ waiting → r.state.has_failed ≡ false → asked.call ≡ call → calls_of waiting ≡ calls_out slots → d.session ≡ r.state.id → d.index + jobs_out (JobOut call ∷ slots) ≡ r.state.job_count → HasOwnTally id (record r { state = with_answer r.state (JobOut call ∷ slots) d.answer; output = output }) (dones ++ d ∷ [])
HasOwnTally-answer id r dones d output call slots asked waiting h front sound same calls own index =
    let parts : r.jobs ≡ h.answered ++ asked ∷ waiting = h.parts ∙ ap (λ js. h.answered ++ js) front in
    let size : length waiting ≡ jobs_out slots = sym (length-calls_of waiting) ∙ ap length calls ∙ length-calls_out slots in
    record {
      answered = h.answered ++ asked ∷ [];
      waiting = waiting;
      named = h.named;
      parts = parts ∙ sym (append_assoc h.answered (asked ∷ []) waiting);
      jobs_in_order = h.jobs_in_order;
      count = h.count;
      matched = omega (arith, length-append h.answered (asked ∷ []), length-append dones (d ∷ []), h.matched);
      dones_in_order = AreDonesFrom-append id 0 dones d h.dones_in_order (own ∙ h.named) (omega (arith, ap length parts, length-append h.answered (asked ∷ waiting), h.count, h.matched, index, size));
      entries = ap (λ t. with_entry t call d.answer) h.entries ∙ ap (λ c. with_entry (tally_with [] h.answered dones) c d.answer) (sym same) ∙ sym (tally_with-done [] h.answered dones asked d h.matched);
      calls = λ f. calls;
      idle = λ f. absurd (false≢true (sym sound ∙ f));
    }

HasOwnTally-waiting : (id : ℕ) (r : Run) (dones : List Done) (d : Done) (output : List (List ℕ)) (call : Call) (slots : List Slot) (waiting : List Job) (h : HasOwnTally id r dones) → h.waiting ≡ waiting → r.state.has_failed ≡ false → calls_of waiting ≡ call ∷ calls_out slots → d.session ≡ r.state.id → d.index + jobs_out (JobOut call ∷ slots) ≡ r.state.job_count → HasOwnTally id (record r { state = with_answer r.state (JobOut call ∷ slots) d.answer; output = output }) (dones ++ d ∷ [])
HasOwnTally-waiting id r dones d output call slots [] h front sound calls own index = absurd (omega (arith, ap length calls))
HasOwnTally-waiting id r dones d output call slots (asked ∷ waiting) h front sound calls own index =
    HasOwnTally-answer id r dones d output call slots asked waiting h front sound (ap (λ cs. first_or cs call) calls) (ap rest_of calls) own index

sound_with_slots : (s : State) (slot : Slot) (slots : List Slot) (failed : Bool) → s.has_failed ≡ failed → (s.has_failed ≡ true → s.slots ≡ []) → s.slots ≡ slot ∷ slots → s.has_failed ≡ false
sound_with_slots s slot slots false e idle some = e
sound_with_slots s slot slots true e idle some = absurd (omega (arith, ap length (sym some ∙ idle e)))

HasOwnTally-own : (id : ℕ) (r : Run) (dones : List Done) (d : Done) (output : List (List ℕ)) (slots : List Slot) → r.state.slots ≡ slots → is_job_in_front slots ≡ true → d.session ≡ r.state.id → d.index + jobs_out slots ≡ r.state.job_count → HasOwnTally id r dones → HasOwnTally id (record r { state = with_answer r.state slots d.answer; output = output }) (dones ++ d ∷ [])
HasOwnTally-own id r dones d output [] e front own index h = absurd (false≢true front)
HasOwnTally-own id r dones d output (HeldLine line ∷ slots) e front own index h = absurd (false≢true front)
HasOwnTally-own id r dones d output (JobOut call ∷ slots) e front own index h =
    let sound = sound_with_slots r.state (JobOut call) slots r.state.has_failed refl h.idle e in
    HasOwnTally-waiting id r dones d output call slots h.waiting h refl sound (h.calls sound ∙ ap calls_out e) own index

HasOwnTally-stranger : (id : ℕ) (r : Run) (dones : List Done) (output : List (List ℕ)) → HasOwnTally id r dones → HasOwnTally id (record r { state = after_stranger r.state; output = output }) dones
HasOwnTally-stranger id r dones output h =
    HasOwnTally-same id r (record r { state = after_stranger r.state; output = output }) dones refl refl refl refl
    (λ f. absurd (false≢true (sym f))) (λ f. absurd (false≢true (sym f))) (λ f. refl) h

-- a Done, where a job is in front
HasOwnTally-taken : (id : ℕ) (r : Run) (dones : List Done) (d : Done) (output : List (List ℕ)) (own : Bool) → is_job_in_front r.state.slots ≡ true → is_own r.state d ≡ own → HasOwnTally id r dones → HasOwnTally id (record r { state = after_done r.state d; output = output }) (dones ++ cond (is_own r.state d) (d ∷ []) [])
HasOwnTally-taken id r dones d output false front e h =
    subst (λ o. HasOwnTally id (record r { state = cond o (with_answer r.state r.state.slots d.answer) (after_stranger r.state); output = output }) (dones ++ cond o (d ∷ []) [])) (sym e)
    (subst (λ l. HasOwnTally id (record r { state = after_stranger r.state; output = output }) l) (append_nil dones) (HasOwnTally-stranger id r dones output h))
HasOwnTally-taken id r dones d output true front e h =
    let named : d.session ≡ r.state.id = search (tests, rules, and-left (d.session == r.state.id) (d.index + jobs_out r.state.slots == r.state.job_count) e) in
    let index : d.index + jobs_out r.state.slots ≡ r.state.job_count = search (tests, rules, and-right (d.session == r.state.id) (d.index + jobs_out r.state.slots == r.state.job_count) e) in
    subst (λ o. HasOwnTally id (record r { state = cond o (with_answer r.state r.state.slots d.answer) (after_stranger r.state); output = output }) (dones ++ cond o (d ∷ []) [])) (sym e)
    (HasOwnTally-own id r dones d output r.state.slots refl front named index h)

HasOwnTally-done : (id : ℕ) (r : Run) (dones : List Done) (d : Done) (line : List ℕ) (front : Bool) → is_job_in_front r.state.slots ≡ front → HasOwnTally id r dones → HasOwnTally id (run_with_done r d line) (dones ++ own_done r.state d)
HasOwnTally-done id r dones d line false e h =
    subst (λ b. HasOwnTally id (cond b (record r { state = after_done r.state d; output = r.output ++ line ∷ [] }) r) (dones ++ cond b (cond (is_own r.state d) (d ∷ []) []) [])) (sym e)
    (subst (λ l. HasOwnTally id r l) (append_nil dones) h)
HasOwnTally-done id r dones d line true e h =
    subst (λ b. HasOwnTally id (cond b (record r { state = after_done r.state d; output = r.output ++ line ∷ [] }) r) (dones ++ cond b (cond (is_own r.state d) (d ∷ []) []) [])) (sym e)
    (HasOwnTally-taken id r dones d (r.output ++ line ∷ []) (is_own r.state d) e refl h)

-- ---- held lines

HasOwnTally-front : (id : ℕ) (r : Run) (dones : List Done) → HasOwnTally id r dones → HasOwnTally id (after_event r HeldLineTaken) dones
HasOwnTally-front id r dones h =
    HasOwnTally-same id r (after_event r HeldLineTaken) dones refl refl refl refl (λ f. f) (λ f. calls_out-front r.state.slots) (λ f. slots_after_front-none r.state.slots (h.idle f)) h

-- ---- all events

HasOwnTally-event : (id : ℕ) (r : Run) (dones : List Done) (e : Event) → HasOwnTally id r dones → HasOwnTally id (after_event r e) (dones ++ own_done_in r.state e)
HasOwnTally-event id r dones (LineRead line) h = subst (λ l. HasOwnTally id (after_event r (LineRead line)) l) (append_nil dones) (HasOwnTally-line id r dones line (meaning r.state.railway line) r.state.has_failed refl h)
HasOwnTally-event id r dones (LineReadWithoutMemory line) h = subst (λ l. HasOwnTally id (after_event r (LineReadWithoutMemory line)) l) (append_nil dones) (HasOwnTally-line id r dones line (meaning_without_memory line) r.state.has_failed refl h)
HasOwnTally-event id r dones (DoneTaken d) h = HasOwnTally-done id r dones d (done_line r.state d) (is_job_in_front r.state.slots) refl h
HasOwnTally-event id r dones (DoneTakenWithoutMemory d) h = HasOwnTally-done id r dones d (done_line_without_memory r.state d) (is_job_in_front r.state.slots) refl h
HasOwnTally-event id r dones HeldLineTaken h = subst (λ l. HasOwnTally id (after_event r HeldLineTaken) l) (append_nil dones) (HasOwnTally-front id r dones h)

HasOwnTally-run : (id : ℕ) (r : Run) (dones : List Done) (events : List Event) → HasOwnTally id r dones → HasOwnTally id (run r events) (dones ++ own_dones r events)
HasOwnTally-run id r dones [] h = subst (λ l. HasOwnTally id r l) (append_nil dones) h
HasOwnTally-run id r dones (e ∷ events) h =
    subst (λ l. HasOwnTally id (run (after_event r e) events) l) (append_assoc dones (own_done_in r.state e) (own_dones (after_event r e) events))
    (HasOwnTally-run id (after_event r e) (dones ++ own_done_in r.state e) events (HasOwnTally-event id r dones e h))

HasOwnTally-new : (id : ℕ) → HasOwnTally id (new_run (new_state id)) []
HasOwnTally-new id = record {
  answered = [];
  waiting = [];
  named = refl;
  parts = refl;
  jobs_in_order = tt;
  count = refl;
  matched = refl;
  dones_in_order = tt;
  entries = refl;
  calls = λ f. refl;
  idle = λ f. refl;
}

pub IsOwnTally-run : (id : ℕ) (events : List Event) → IsOwnTally id (run (new_run (new_state id)) events).jobs (own_dones (new_run (new_state id)) events) (run (new_run (new_state id)) events).state.tally
IsOwnTally-run id events =
    let r : Run = run (new_run (new_state id)) events in
    let dones : List Done = own_dones (new_run (new_state id)) events in
    let h : HasOwnTally id r dones = HasOwnTally-run id (new_run (new_state id)) [] events (HasOwnTally-new id) in
    record {
      jobs_in_order = h.jobs_in_order;
      dones_in_order = h.dones_in_order;
      entries = h.entries ∙ sym (tally_with-waiting [] h.answered h.waiting dones h.matched) ∙ ap (λ js. tally_with [] js dones) (sym h.parts);
    }

-- where no stranger came, each job has its Done or is out
pub all_answered : (id : ℕ) (events : List Event) → (run (new_run (new_state id)) events).state.has_failed ≡ false → length (own_dones (new_run (new_state id)) events) + jobs_out (run (new_run (new_state id)) events).state.slots ≡ length (run (new_run (new_state id)) events).jobs
all_answered id events sound =
    let r : Run = run (new_run (new_state id)) events in
    let h : HasOwnTally id r (own_dones (new_run (new_state id)) events) = HasOwnTally-run id (new_run (new_state id)) [] events (HasOwnTally-new id) in
    let out : length (calls_of h.waiting) ≡ jobs_out r.state.slots = ap (λ (cs : List Call). length cs) (h.calls sound) ∙ length-calls_out r.state.slots in
    let waiting = length-calls_of h.waiting in
    let parts : length r.jobs ≡ length (h.answered ++ h.waiting) = ap (λ (js : List Job). length js) h.parts in
    let split = length-append h.answered h.waiting in
    let matched = h.matched in
    omega (arith, out, waiting, parts, split, matched)
