-- How a session goes on, event by event.
use Rattle.session_serving.proofs.Common.{◌≡◌, ◌⊎◌, inl, inr, ◌≤◌, ℕ, Bool, true, false, cond, List, [], ◌∷◌, ◌++◌, Some, None, length, refl, ap, sym, ◌∙◌, append_assoc, append-nil, subst, arith, rules, tests, fold-append, Job, Meaning, Step, Done, Slot, JobOut, HeldLine, State, meaning, meaning_without_memory, step_at, TakesLine, is_job_in_front, done_line, done_line_without_memory, after_done, front_line, slots_after_front, after_front, Event, LineRead, LineReadWithoutMemory, DoneTaken, DoneTakenWithoutMemory, HeldLineTaken, Run, run_with_line, run_with_done, after_event, new_run, run, step_jobs, step_lines, optional_line, ReadsWhileSound, Advances, Discards}

runs : (a b : Run) → a.state ≡ b.state → a.input ≡ b.input → a.jobs ≡ b.jobs → a.output ≡ b.output → a ≡ b
runs a b s r j t = λ i. record { state = s i; input = r i; jobs = j i; output = t i }

-- a run with what came before it
abbrev onto : Run → Run → Run
onto r t = record { state = t.state; input = r.input ++ t.input; jobs = r.jobs ++ t.jobs; output = r.output ++ t.output }

onto-line : (r t : Run) (line : List ℕ) (m : Meaning) → run_with_line (onto r t) line m ≡ onto r (run_with_line t line m)
onto-line r t line m =
    let step = step_at t.state m in
    runs _ _ refl (append_assoc r.input t.input (line ∷ [])) (append_assoc r.jobs t.jobs (step_jobs step)) (append_assoc r.output t.output (step_lines step))

done-onto : (r t : Run) (n : State) (line : List ℕ) (out : Bool) → cond out (record (onto r t) { state = n; output = (r.output ++ t.output) ++ line ∷ [] }) (onto r t) ≡ onto r (cond out (record t { state = n; output = t.output ++ line ∷ [] }) t)
done-onto r t n line true = runs _ _ refl refl refl (append_assoc r.output t.output (line ∷ []))
done-onto r t n line false = refl

onto-done : (r t : Run) (d : Done) (line : List ℕ) → run_with_done (onto r t) d line ≡ onto r (run_with_done t d line)
onto-done r t d line = done-onto r t (after_done t.state d) line (is_job_in_front t.state.slots)

onto-event : (r t : Run) (e : Event) → after_event (onto r t) e ≡ onto r (after_event t e)
onto-event r t (LineRead line) = onto-line r t line (meaning t.state.railway line)
onto-event r t (LineReadWithoutMemory line) = onto-line r t line (meaning_without_memory line)
onto-event r t (DoneTaken d) = onto-done r t d (done_line t.state d)
onto-event r t (DoneTakenWithoutMemory d) = onto-done r t d (done_line_without_memory t.state d)
onto-event r t HeldLineTaken = runs _ _ refl refl refl (append_assoc r.output t.output (optional_line (front_line t.state.slots)))

onto-run : (r t : Run) (events : List Event) → run (onto r t) events ≡ onto r (run t events)
onto-run r t [] = refl
onto-run r t (e ∷ events) = ap (λ u. run u events) (onto-event r t e) ∙ onto-run r (after_event t e) events

begins : (r : Run) → r ≡ onto r (new_run r.state)
begins r = runs r (onto r (new_run r.state)) refl (sym (append-nil r.input)) (sym (append-nil r.jobs)) (sym (append-nil r.output))

from-new : (r : Run) (events : List Event) → run r events ≡ onto r (run (new_run r.state) events)
from-new r events =
    ap (λ u. run u events) (begins r) ∙ onto-run r (new_run r.state) events

-- what came before a run says nothing of whether its lines are read in time
sound-onto : (r t : Run) (events : List Event) → ReadsWhileSound t events → ReadsWhileSound (onto r t) events
sound-onto r t [] h = tt
sound-onto r t (LineRead line ∷ events) h = (h.0, subst (λ u. ReadsWhileSound u events) (sym (onto-event r t (LineRead line))) (sound-onto r (after_event t (LineRead line)) events h.1))
sound-onto r t (LineReadWithoutMemory line ∷ events) h = (h.0, subst (λ u. ReadsWhileSound u events) (sym (onto-event r t (LineReadWithoutMemory line))) (sound-onto r (after_event t (LineReadWithoutMemory line)) events h.1))
sound-onto r t (DoneTaken d ∷ events) h = subst (λ u. ReadsWhileSound u events) (sym (onto-event r t (DoneTaken d))) (sound-onto r (after_event t (DoneTaken d)) events h)
sound-onto r t (DoneTakenWithoutMemory d ∷ events) h = subst (λ u. ReadsWhileSound u events) (sym (onto-event r t (DoneTakenWithoutMemory d))) (sound-onto r (after_event t (DoneTakenWithoutMemory d)) events h)
sound-onto r t (HeldLineTaken ∷ events) h = subst (λ u. ReadsWhileSound u events) (sym (onto-event r t HeldLineTaken)) (sound-onto r (after_event t HeldLineTaken) events h)

sound-append : (r : Run) (first then : List Event) → ReadsWhileSound r first → ReadsWhileSound (run r first) then → ReadsWhileSound r (first ++ then)
sound-append r [] then f g = g
sound-append r (LineRead line ∷ first) then f g = (f.0, sound-append (after_event r (LineRead line)) first then f.1 g)
sound-append r (LineReadWithoutMemory line ∷ first) then f g = (f.0, sound-append (after_event r (LineReadWithoutMemory line)) first then f.1 g)
sound-append r (DoneTaken d ∷ first) then f g = sound-append (after_event r (DoneTaken d)) first then f g
sound-append r (DoneTakenWithoutMemory d ∷ first) then f g = sound-append (after_event r (DoneTakenWithoutMemory d)) first then f g
sound-append r (HeldLineTaken ∷ first) then f g = sound-append (after_event r HeldLineTaken) first then f g

pub advances-none : (s : State) → Advances s [] [] [] s
advances-none s = record { events = []; state_is = refl; read_is = refl; jobs_is = refl; said_is = refl; sound = tt }

pub advances-then : (a b c : State) (r1 r2 : List (List ℕ)) (j1 j2 : List Job) (s1 s2 : List (List ℕ)) → Advances a r1 j1 s1 b → Advances b r2 j2 s2 c → Advances a (r1 ++ r2) (j1 ++ j2) (s1 ++ s2) c
advances-then a b c r1 r2 j1 j2 s1 s2 f g =
    let first = run (new_run a) f.events in
    let start : first ≡ onto first (new_run b) = begins first ∙ ap (λ s. onto first (new_run s)) f.state_is in
    let all : run (new_run a) (f.events ++ g.events) ≡ onto first (run (new_run b) g.events) =
    fold-append after_event (new_run a) f.events g.events
    ∙ from-new first g.events
    ∙ ap (λ s. onto first (run (new_run s) g.events)) f.state_is in
    record {
      events = f.events ++ g.events;
      state_is = ap (λ r. r.state) all ∙ g.state_is;
      read_is = ap (λ r. r.input) all ∙ (λ i. f.read_is i ++ g.read_is i);
      jobs_is = ap (λ r. r.jobs) all ∙ (λ i. f.jobs_is i ++ g.jobs_is i);
      said_is = ap (λ r. r.output) all ∙ (λ i. f.said_is i ++ g.said_is i);
      sound = sound-append (new_run a) f.events g.events f.sound (subst (λ u. ReadsWhileSound u g.events) (sym start) (sound-onto first (new_run b) g.events g.sound));
    }

-- what the session's own calls do, as events
pub line-advances : (s n : State) (line : List ℕ) (step : Step) → s.has_failed ≡ false → TakesLine s line step n → Advances s (line ∷ []) (step_jobs step) (step_lines step) n
line-advances s n line step h (inl e) = record { events = LineRead line ∷ []; state_is = sym e.1; read_is = refl; jobs_is = ap step_jobs (sym e.0); said_is = ap step_lines (sym e.0); sound = (h, tt) }
line-advances s n line step h (inr e) = record { events = LineReadWithoutMemory line ∷ []; state_is = sym e.1; read_is = refl; jobs_is = ap step_jobs (sym e.0); said_is = ap step_lines (sym e.0); sound = (h, tt) }

-- a Done of the job in front
done-taken : (s n : State) (d : Done) (line : List ℕ) → is_job_in_front s.slots ≡ true → n ≡ after_done s d → run_with_done (new_run s) d line ≡ record (new_run s) { state = n; output = line ∷ [] }
done-taken s n d line out f =
    let taken : Run = record (new_run s) { state = after_done s d; output = line ∷ [] } in
    (λ i. cond (out i) taken (new_run s)) ∙ ap (λ m. record (new_run s) { state = m; output = line ∷ [] }) (sym f)

pub done-advances : (s n : State) (d : Done) (line : List ℕ) → is_job_in_front s.slots ≡ true → (line ≡ done_line s d) ⊎ (line ≡ done_line_without_memory s d) → n ≡ after_done s d → Advances s [] [] (line ∷ []) n
done-advances s n d line out (inl e) f =
    let took = done-taken s n d (done_line s d) out f in
    record {
      events = DoneTaken d ∷ [];
      state_is = ap (λ r. r.state) took;
      read_is = ap (λ r. r.input) took;
      jobs_is = ap (λ r. r.jobs) took;
      said_is = ap (λ r. r.output) took ∙ ap (λ l. l ∷ []) (sym e);
      sound = tt;
    }
done-advances s n d line out (inr e) f =
    let took = done-taken s n d (done_line_without_memory s d) out f in
    record {
      events = DoneTakenWithoutMemory d ∷ [];
      state_is = ap (λ r. r.state) took;
      read_is = ap (λ r. r.input) took;
      jobs_is = ap (λ r. r.jobs) took;
      said_is = ap (λ r. r.output) took ∙ ap (λ l. l ∷ []) (sym e);
      sound = tt;
    }

pub front-advances : (s n : State) (line : List ℕ) → Some line ≡ front_line s.slots → n ≡ after_front s → Advances s [] [] (line ∷ []) n
front-advances s n line e f = record { events = HeldLineTaken ∷ []; state_is = sym f; read_is = refl; jobs_is = refl; said_is = ap optional_line (sym e); sound = tt }

-- what a session says that is not written
pub discards_none : (s : State) → Discards s s
discards_none s = ([], advances-none s)

pub discards_then : (a b c : State) → Discards a b → Discards b c → Discards a c
discards_then a b c f g = (f.0 ++ g.0, advances-then a b c [] [] [] [] f.0 g.0 f.1 g.1)

pub discards_done : (s n : State) (d : Done) (line : List ℕ) → is_job_in_front s.slots ≡ true → (line ≡ done_line s d) ⊎ (line ≡ done_line_without_memory s d) → n ≡ after_done s d → Discards s n
discards_done s n d line out e f = (line ∷ [], done-advances s n d line out e f)

pub discards_front : (s n : State) → n ≡ after_front s → Discards s n
discards_front s n e = (optional_line (front_line s.slots), record { events = HeldLineTaken ∷ []; state_is = sym e; read_is = refl; jobs_is = refl; said_is = refl; sound = tt })

-- ---- slots

pub front_fewer : (slots : List Slot) → length (slots_after_front slots) ≤ length slots
front_fewer [] = omega arith
front_fewer (JobOut call ∷ slots) = omega arith
front_fewer (HeldLine line ∷ slots) = omega arith

-- where all slots are taken and the front is no held line, it is a job
pub full_has_job : (slots : List Slot) → front_line slots ≡ None → length slots ≡ 16 → is_job_in_front slots ≡ true
full_has_job [] front full = absurd (omega (arith, full))
full_has_job (JobOut call ∷ slots) front full = refl
full_has_job (HeldLine line ∷ slots) front full = absurd (search (rules, tests, front))

-- where the front is neither, no slot is taken
pub no_slot : (slots : List Slot) → front_line slots ≡ None → is_job_in_front slots ≡ false → slots ≡ []
no_slot [] front out = refl
no_slot (JobOut call ∷ slots) front out = absurd (search (rules, tests, out))
no_slot (HeldLine line ∷ slots) front out = absurd (search (rules, tests, front))
