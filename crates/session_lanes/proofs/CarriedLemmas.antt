-- A session that begins with a tally does what a new one does, and notes it behind that tally.
use Rattle.session_lanes.proofs.Common.{◌≡◌, ℕ, Bool, true, false, cond, List, [], ◌∷◌, ◌++◌, Result, Ok, Err, refl, ap, ◌∙◌, subst, append_assoc, Call, Reply, HubFault, Told, Meaning, Blank, Hello, Wrong, Calls, Done, Slot, JobOut, HeldLine, Ended, State, meaning, meaning_without_memory, sound_step, after_sound, step_at, after_line, is_own, is_job_in_front, with_entry, with_answer, after_stranger, after_done, done_line, done_line_without_memory, Event, LineRead, LineReadWithoutMemory, DoneTaken, DoneTakenWithoutMemory, HeldLineTaken, Run, step_jobs, step_lines, run_with_line, run_with_done, after_event, run, ReadsWhileSound}

-- the same with these entries before its own
abbrev pub carried : List Told → State → State
carried t s = record s { tally = t ++ s.tally }

abbrev pub carried_run : List Told → Run → Run
carried_run t r = record r { state = carried t r.state }

either_state : (t : List Told) (b : Bool) (s u : State) → cond b (carried t s) (carried t u) ≡ carried t (cond b s u)
either_state t true s u = refl
either_state t false s u = refl

either_run : (t : List Told) (b : Bool) (r q : Run) → cond b (carried_run t r) (carried_run t q) ≡ carried_run t (cond b r q)
either_run t true r q = refl
either_run t false r q = refl

carried-after_sound : (t : List Told) (s : State) (m : Meaning) → after_sound (carried t s) m ≡ carried t (after_sound s m)
carried-after_sound t s Blank = refl
carried-after_sound t s (Hello railway) = refl
carried-after_sound t s (Wrong fault) = refl
carried-after_sound t s (Calls call) = refl

carried-sound_step : (t : List Told) (s : State) (m : Meaning) → sound_step (carried t s) m ≡ sound_step s m
carried-sound_step t s Blank = refl
carried-sound_step t s (Hello railway) = refl
carried-sound_step t s (Wrong fault) = refl
carried-sound_step t s (Calls call) = refl

carried-line : (t : List Told) (r : Run) (line : List ℕ) (m : Meaning) → run_with_line (carried_run t r) line m ≡ carried_run t (run_with_line r line m)
carried-line t r line m =
    let s = r.state in
    let state : after_line (carried t s) m ≡ carried t (after_line s m) = ap (λ u. cond s.has_failed (carried t s) u) (carried-after_sound t s m) ∙ either_state t s.has_failed s (after_sound s m) in
    let step : step_at (carried t s) m ≡ step_at s m = ap (λ u. cond s.has_failed Ended u) (carried-sound_step t s m) in
    λ i. record {
      state = state i;
      input = r.input ++ line ∷ [];
      jobs = r.jobs ++ step_jobs (step i);
      output = r.output ++ step_lines (step i);
    }

carried-entry : (t tally : List Told) (call : Call) (answer : Result (ℕ × Reply) HubFault) → with_entry (t ++ tally) call answer ≡ t ++ with_entry tally call answer
carried-entry t tally call (Ok answer) = append_assoc t tally (record { position = answer.0; call = call; reply = answer.1 } ∷ [])
carried-entry t tally call (Err fault) = refl

carried-with_answer : (t : List Told) (s : State) (slots : List Slot) (answer : Result (ℕ × Reply) HubFault) → with_answer (carried t s) slots answer ≡ carried t (with_answer s slots answer)
carried-with_answer t s [] answer = refl
carried-with_answer t s (JobOut call ∷ slots) answer =
    let entry = carried-entry t s.tally call answer in
    λ i. record s { slots = slots; tally = entry i }
carried-with_answer t s (HeldLine line ∷ slots) answer = refl

carried-done : (t : List Told) (r : Run) (d : Done) (line : List ℕ) → run_with_done (carried_run t r) d line ≡ carried_run t (run_with_done r d line)
carried-done t r d line =
    let s = r.state in
    let front = is_job_in_front s.slots in
    let state : after_done (carried t s) d ≡ carried t (after_done s d) = ap (λ u. cond (is_own s d) u (after_stranger (carried t s))) (carried-with_answer t s s.slots d.answer) ∙ either_state t (is_own s d) (with_answer s s.slots d.answer) (after_stranger s) in
    let taken : Run = record r { state = after_done s d; output = r.output ++ line ∷ [] } in
    ap (λ u. cond front (record r { state = u; output = r.output ++ line ∷ [] }) (carried_run t r)) state ∙ either_run t front taken r

carried-event : (t : List Told) (r : Run) (e : Event) → after_event (carried_run t r) e ≡ carried_run t (after_event r e)
carried-event t r (LineRead line) = carried-line t r line (meaning r.state.railway line)
carried-event t r (LineReadWithoutMemory line) = carried-line t r line (meaning_without_memory line)
carried-event t r (DoneTaken d) = carried-done t r d (done_line r.state d)
carried-event t r (DoneTakenWithoutMemory d) = carried-done t r d (done_line_without_memory r.state d)
carried-event t r HeldLineTaken = refl

-- so it is over all events
pub carried-events : (t : List Told) (r : Run) (events : List Event) → run (carried_run t r) events ≡ carried_run t (run r events)
carried-events t r [] = refl
carried-events t r (e ∷ events) = ap (λ q. run q events) (carried-event t r e) ∙ carried-events t (after_event r e) events

-- and it reads lines where the new one does
pub carried-sound : (t : List Told) (r : Run) (events : List Event) → ReadsWhileSound (carried_run t r) events → ReadsWhileSound r events
carried-sound t r [] h = tt
carried-sound t r (LineRead line ∷ events) h =
    let e = LineRead line in (h.0, carried-sound t (after_event r e) events (subst (λ q. ReadsWhileSound q events) (carried-event t r e) h.1))
carried-sound t r (LineReadWithoutMemory line ∷ events) h =
    let e = LineReadWithoutMemory line in (h.0, carried-sound t (after_event r e) events (subst (λ q. ReadsWhileSound q events) (carried-event t r e) h.1))
carried-sound t r (DoneTaken d ∷ events) h =
    let e = DoneTaken d in carried-sound t (after_event r e) events (subst (λ q. ReadsWhileSound q events) (carried-event t r e) h)
carried-sound t r (DoneTakenWithoutMemory d ∷ events) h =
    let e = DoneTakenWithoutMemory d in carried-sound t (after_event r e) events (subst (λ q. ReadsWhileSound q events) (carried-event t r e) h)
carried-sound t r (HeldLineTaken ∷ events) h =
    carried-sound t (after_event r HeldLineTaken) events (subst (λ q. ReadsWhileSound q events) (carried-event t r HeldLineTaken) h)
