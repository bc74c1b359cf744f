-- A shift, by the threads that served around its hub.
use Rattle.hub_shifts.proofs.Common.{◌≡◌, ℕ, ◌<◌, List, length, map, get_or, zip, sym, ap, ◌∙◌, subst, arith, Option, length-map, get_or-zip, firsts-zip, seconds-zip, Streams, streams_of, IsServed, EachAt-map, SessionStart, Served, JournaledHub, AreKept, taken_lists, ServedHub, IsServedHub, ServedJournaledHub, IsServedJournaledHub, shift_of, SessionState, IsOfSession, put_lists, Shift, IsShift, IsJournaledShift}
use mathlib.Core.List.{map-map}

abbrev session_of : {S K : Type 0} → (S → Option (List ℕ)) → (K → Option (List ℕ)) → SessionStart S K × Served → SessionState
session_of remaining written p = record {
  began = streams_of (remaining p.0.reader) (written p.0.writer);
  end = p.1.end;
  tally = p.1.tally;
  put = p.1.pass.put;
}

-- with which streams the sessions of these readers and writers begin
abbrev pub streams_given : {S K : Type 0} → (S → Option (List ℕ)) → (K → Option (List ℕ)) → List (S × K) → List Streams
streams_given remaining written sessions = map (λ p. streams_of (remaining p.0) (written p.1)) sessions

-- what is read of all that the threads gave back
of_back : {X Z : Type 0} (f : Served → Z) (starts : List X) (served : List Served) → length served ≡ length starts → map f served ≡ map (λ (p : X × Served). f p.1) (zip starts served)
of_back {X} f starts served same = ap (λ l. map f l) (sym (seconds-zip starts served same)) ∙ map-map f (λ (p : X × Served). p.1) (zip starts served)

is_shift : {S K : Type 0} (remaining : S → Option (List ℕ)) (written : K → Option (List ℕ)) (sessions : List (S × K)) (workers : ℕ) (s : ServedHub)
    → IsServedHub (λ (start : SessionStart S K) r. IsServed remaining written start.session start r) sessions workers s
    → IsShift (streams_given remaining written sessions) workers (shift_of s)
is_shift {S} {K} remaining written sessions workers s h =
    let starts = h.given.starts in
    let served = h.served in
    let same : length served ≡ length starts = h.given.each.0 in
    let Back : Type 0 = SessionStart S K × Served in
    let both : List Back = zip starts served in
    let firsts = firsts-zip starts served same in
    let state : Back → SessionState = session_of remaining written in
    let of_ends : S × K → Streams = λ p. streams_of (remaining p.0) (written p.1) in
    let ends_of : SessionStart S K → S × K = λ t. (t.reader, t.writer) in
    let of_start : SessionStart S K → Streams = λ t. of_ends (ends_of t) in
    let puts : map (λ (r : Served). r.pass.put) served ≡ put_lists (map state both) = of_back (λ (r : Served). r.pass.put) starts served same ∙ sym (map-map (λ (x : SessionState). x.put) state both) in
    record {
      served = map state both;
      worked = h.hub.worked;
      run = h.hub.run;
      sum_is = h.hub.sum_is;
      by_lanes = record {
        streams_are = map-map (λ (x : SessionState). x.began) state both ∙ (sym (map-map of_start (λ (p : Back). p.0) both) ∙ (ap (λ l. map of_start l) firsts
            ∙ (sym (map-map of_ends ends_of starts) ∙ ap (λ l. map of_ends l) h.given.ends_are)));
        ends_are = h.hub.ends_are ∙ (of_back (λ (r : Served). r.end) starts served same ∙ sym (map-map (λ (x : SessionState). x.end) state both));
        tallies_are = h.hub.tallies_are ∙ (of_back (λ (r : Served). r.tally) starts served same ∙ sym (map-map (λ (x : SessionState). x.tally) state both));
        of_sessions = EachAt-map state IsOfSession both (λ i p low.
            let long : length both ≡ length starts = sym (length-map both (λ (q : Back). q.0)) ∙ ap (λ (l : List _). length l) firsts in
            let inside : i < length starts = omega (arith, long, low) in
            let r = (h.given.each.1 i p.0 p.1 inside).served in
            subst (λ q. IsOfSession i (state q)) (sym (get_or-zip starts served i p inside (omega (arith, inside, same))))
            (subst (λ n. IsOfSession n (state (get_or starts i p.0, get_or served i p.1))) (h.given.begin i p.0 inside).0 (record { ended = r.ended; own_jobs = r.own_jobs })));
        kept = subst (λ p. AreKept workers p (taken_lists h.hub.worked) s.left.items) puts h.hub.kept;
      };
      makes_calls = h.hub.makes_calls;
      calls = h.hub.calls;
      faults = h.hub.faults;
    }

pub is_shift_of : {S K : Type 0} (remaining : S → Option (List ℕ)) (written : K → Option (List ℕ)) (sessions : List (S × K)) (workers : ℕ) (s : ServedHub) (t : Shift)
    → t ≡ shift_of s → IsServedHub (λ (start : SessionStart S K) r. IsServed remaining written start.session start r) sessions workers s
    → IsShift (streams_given remaining written sessions) workers t
is_shift_of remaining written sessions workers s t is h = subst (IsShift (streams_given remaining written sessions) workers) (sym is) (is_shift remaining written sessions workers s h)

-- and a shift with a journal
pub is_journaled_of : {F S K : Type 0} (remaining : S → Option (List ℕ)) (written : K → Option (List ℕ)) (sessions : List (S × K)) (began : JournaledHub F) (s : ServedJournaledHub F) (t : Shift)
    → t ≡ shift_of s.served → IsServedJournaledHub (λ (start : SessionStart S K) r. IsServed remaining written start.session start r) sessions began s
    → IsJournaledShift (streams_given remaining written sessions) began (record { shift = t; journal = s.journal })
unfolding is_shift
is_journaled_of remaining written sessions began s t is h =
    subst (λ u. IsJournaledShift (streams_given remaining written sessions) began (record { shift = u; journal = s.journal })) (sym is)
    (record { shift = is_shift remaining written sessions 1 s.served h.served; earlier = h.earlier; journal = h.journal })
