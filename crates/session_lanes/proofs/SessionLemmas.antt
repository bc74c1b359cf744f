-- What a session left that was served.
use Rattle.session_lanes.proofs.Common.{◌≡◌, ℕ, true, List, [], ◌++◌, Result, Ok, Err, Option, is_ok, refl, sym, ap, ◌∙◌, subst, rules, tests, arith, append_assoc, append-nil, Consumes-nil, Appends-nil, append_cancel_left, All, Job, PassState, Told, Slot, State, new_state, state_with_tally, Event, Run, new_run, run, SessionFault, Port, Failures, Explains, ReadsWhileSound, Fault, SessionStart, Served, Streams, streams_of, end_of, HasEnded, HasEndedBehind, IsServed, IsServedNext}
use Rattle.session_serving.specs.Serving as serving
use Rattle.session_lanes.proofs.CarriedLemmas.{carried, carried_run, carried-events, carried-sound}

none_taken : (served : Result (Unit {0}) SessionFault) (before after : Failures) (slots : List Slot) → Explains served before after slots → is_ok served ≡ true → slots ≡ []
none_taken (Ok done) before after slots e ok = e.3
none_taken (Err fault) before after slots e ok = absurd (search (tests, ok))

-- a session that began with a tally and by a pass that had put jobs was served as a new one is, behind that tally and those jobs
pub ended_behind : (id : ℕ) (t : List Told) (old new : State) (before after : serving.Traffic) (served : Result (Unit {0}) SessionFault) (failures now : Failures)
    → old ≡ state_with_tally id t
    → serving.IsServed old new before after served → Explains served failures now new.slots
    → HasEndedBehind id (streams_of before.remaining before.written) (end_of served new.has_failed) t before.sent new.tally after.sent
ended_behind id t old new before after served failures now is s e mine put =
    let events : List Event = s.advances.events in
    let begun = new_run (new_state id) in
    let r : Run = run begun events in
    let start : carried_run t begun ≡ new_run old = ap new_run ((λ i. record (new_state id) { tally = append-nil t i }) ∙ sym is) in
    let ends : run (new_run old) events ≡ carried_run t r = ap (λ q. run q events) (sym start) ∙ carried-events t begun events in
    let state : new ≡ carried t r.state = sym s.advances.state_is ∙ ap (λ (q : Run). q.state) ends in
    let failed : new.has_failed ≡ r.state.has_failed = ap (λ (u : State). u.has_failed) state in
    let slots : new.slots ≡ r.state.slots = ap (λ (u : State). u.slots) state in (
      r.state.tally,
      ap (λ (u : State). u.tally) state,
      record {
        served = served;
        state = r.state;
        left = streams_of after.remaining after.written;
        serves = record {
          bytes = s.bytes;
          reads = s.reads;
          more = s.more;
          said = s.said;
          jobs = s.jobs;
          front = s.front;
          left = s.left;
          consumed = s.consumed;
          given = s.given;
          advances = record {
            events = events;
            state_is = refl;
            read_is = sym (ap (λ (q : Run). q.input) ends) ∙ s.advances.read_is;
            jobs_is = sym (ap (λ (q : Run). q.jobs) ends) ∙ s.advances.jobs_is;
            said_is = sym (ap (λ (q : Run). q.output) ends) ∙ s.advances.said_is;
            sound = carried-sound t begun events (subst (λ q. ReadsWhileSound q events) (sym start) s.advances.sound);
          };
          written = s.written;
          parts = s.parts;
          sends = record {
            lost = s.sends.lost;
            parts = append_cancel_left before.sent (mine ++ s.sends.lost) s.jobs (sym (append_assoc before.sent mine s.sends.lost) ∙ (ap (λ l. l ++ s.sends.lost) (sym put) ∙ s.sends.parts));
            few = s.sends.few;
            none = s.sends.none;
          };
          whole = s.whole;
          all = λ ok sound. s.all ok (failed ∙ sound);
          few = s.few;
          no_end = s.no_end;
        };
        end_is = ap (λ b. end_of served b) failed;
        told_is = refl;
        none_taken = λ ok. sym slots ∙ none_taken served failures now new.slots e ok;
      },
    )

-- where nothing was told and nothing was put before, it is as a session that was served alone
pub first_served : {S K : Type 0} (remaining : S → Option (List ℕ)) (written : K → Option (List ℕ)) (start : SessionStart S K) (told : List Told) (s : Served)
    → start.pass.put ≡ [] → told ≡ [] → IsServedNext remaining written start told s → IsServed remaining written start.session start s
first_served remaining written start told s none new n =
    let put : s.pass.put ≡ n.put = ap (λ (p : PassState). p.put) n.pass_is ∙ ap (λ l. l ++ n.put) none in
    let more : s.tally.entries ≡ n.more = n.told_is ∙ ap (λ l. l ++ n.more) new in
    let began = streams_of (remaining start.reader) (written start.writer) in
    record {
      ended = subst (λ l. HasEnded start.session began s.end l s.pass.put) (sym more) (subst (λ l. HasEnded start.session began s.end n.more l) (sym put) n.ended);
      own_jobs = subst (λ l. All (λ (j : Job). j.session ≡ start.session) l) (sym put) n.own_jobs;
      put_only = n.pass_is ∙ (λ i. record start.pass { put = (ap (λ l. l ++ n.put) none ∙ sym put) i });
    }

-- a session that never began has ended
pub never_began : (id : ℕ) (began : Streams) → HasEnded id began (Fault Port) [] []
never_began id began = record {
  served = Err Port;
  state = new_state id;
  left = began;
  serves = record {
    bytes = [];
    reads = [];
    more = [];
    said = [];
    jobs = [];
    front = [];
    left = [];
    consumed = Consumes-nil began.remaining;
    given = refl;
    advances = record { events = []; state_is = refl; read_is = refl; jobs_is = refl; said_is = refl; sound = tt };
    written = Appends-nil began.written;
    parts = refl;
    sends = record { lost = []; parts = refl; few = omega arith; none = λ yes. refl };
    whole = λ yes. refl;
    all = λ yes. absurd (search (tests, yes));
    few = omega arith;
    no_end = λ yes. absurd (search (tests, rules, yes));
  };
  end_is = refl;
  told_is = refl;
  none_taken = λ yes. absurd (search (tests, yes));
}
