-- What the tally of a session tells.
use Rattle.session_lanes.proofs.Common.{All, count_by, ◌≡◌, ◌≢◌, ℕ, true, false, Bool, List, [], ◌++◌, length, Result, Ok, Err, is_ok, refl, sym, ap, ◌∙◌, subst, rules, tests, arith, append-nil, Job, Told, lock_step, is_answered, Run, new_run, run, State, new_state, jobs_out, own_dones, answers_of, IsOwnTally, line_fault_text, NoMemory, Done, Slot, each_line_is_answered, ended_in_step, IsOwnTally-run, all_answered, sends_all, SessionFault, SessionEnd, Complete, Streams, HasEnded, end_of, TellsOwnJobs}

record WasWhole (served : Result (Unit {0}) SessionFault) (has_failed : Bool) : Type 0 where
  ok : is_ok served ≡ true
  sound : has_failed ≡ false
  sent : sends_all served ≡ true

-- which end is Complete
was_whole : (served : Result (Unit {0}) SessionFault) (has_failed : Bool) → end_of served has_failed ≡ Complete → WasWhole served has_failed
was_whole (Ok done) false e = record { ok = refl; sound = refl; sent = refl }
was_whole (Ok done) true e = absurd (search (tests, rules, e))
was_whole (Err fault) has_failed e = absurd (search (tests, rules, e))

-- what the tally of a session tells that has ended
pub tells_own : (number : ℕ) (began : Streams) (end : SessionEnd) (told : List Told) (put : List Job) → HasEnded number began end told put → TellsOwnJobs number began end told put
tells_own number began end told put h =
    let jobs_given = h.serves.jobs in
    let events = h.serves.advances.events in
    let dones : List Done = own_dones (new_run (new_state number)) events in
    let r : Run = run (new_run (new_state number)) events in
    let jobs : r.jobs ≡ jobs_given = h.serves.advances.jobs_is in
    let said : r.output ≡ h.serves.said = h.serves.advances.said_is in
    let read : r.input ≡ h.serves.reads = h.serves.advances.read_is in
    let state : r.state ≡ h.state = h.serves.advances.state_is in
    let tally : r.state.tally ≡ told = ap (λ (x : State). x.tally) state ∙ h.told_is in
    let whole : end ≡ Complete → WasWhole h.served h.state.has_failed = λ e. was_whole h.served h.state.has_failed (sym h.end_is ∙ e) in
    let sound : end ≡ Complete → r.state.has_failed ≡ false = λ e. ap (λ (x : State). x.has_failed) state ∙ (whole e).sound in
    let slots : end ≡ Complete → r.state.slots ≡ [] = λ e. ap (λ (x : State). x.slots) state ∙ h.none_taken (whole e).ok in
    record {
      served = h.served;
      state = h.state;
      left = h.left;
      dones = dones;
      serves = h.serves;
      dones_are = refl;
      own = subst (λ t. IsOwnTally number jobs_given dones t) tally (subst (λ j. IsOwnTally number j dones r.state.tally) jobs (IsOwnTally-run number events));
      complete = λ e.
          let w = whole e in
          let parts : put ++ h.serves.sends.lost ≡ jobs_given = h.serves.sends.parts in
          let none : h.serves.sends.lost ≡ [] = h.serves.sends.none w.sent in (
            sym (sym (append-nil put) ∙ (ap (λ l. put ++ l) (sym none) ∙ parts)),
            (let all = all_answered number events (sound e) in
                let out = ap jobs_out (slots e) in
                let long = ap (λ (l : List Job). length l) jobs in
                omega (arith, all, out, long)),
            (h.serves.all w.ok w.sound).0,
            (h.serves.all w.ok w.sound).1,
            h.serves.whole w.ok,
            (let all = each_line_is_answered number events (sound e) in
                let empty = ap (λ (l : List Slot). length l) (slots e) in
                let long = ap (λ (l : List (List ℕ)). length l) said in
                let same = ap (λ l. count_by is_answered l) read in
                omega (arith, all, empty, long, same)),
          );
      says = λ e none.
          let there = ended_in_step number events (sound e) (slots e) (subst (λ l. All (λ line. line ≢ line_fault_text NoMemory) l) (sym said) none) in (
            sym said ∙ (there.0 ∙ ap (λ l. (lock_step number (answers_of dones) l).output) read),
            sym jobs ∙ (there.1 ∙ ap (λ l. (lock_step number (answers_of dones) l).jobs) read),
          );
    }
