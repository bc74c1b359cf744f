-- What the threads around a hub began with, and what they gave back.
use Rattle.hub_serving.proofs.Common.{◌≡◌, ℕ, ◌+◌, ◌%◌, List, [], length, map, get_or, sym, ap, subst, PassState, SessionStart, Served, LaneState, new_lane, thread_pass, no_inbox, EachAt, EachPair, IsPassOf, of_lane, HandsOut, of_lane-alike, IsServiceOf, handed, GaveBack}

-- those that serve have passes of the lanes that they fall to
pub sessions_begin : {S K : Type 0} (lanes : List LaneState) (workers : ℕ) (starts : List (SessionStart S K)) → length lanes ≡ workers
    → EachAt (λ i (s : SessionStart S K). (s.session ≡ i) × IsPassOf lanes (i % workers) s.pass) starts
    → EachAt (λ i (s : SessionStart S K). (s.session ≡ i) × IsPassOf lanes (i % length lanes) s.pass) starts
sessions_begin {S} {K} lanes workers starts size begin = subst (λ n. EachAt (λ i (s : SessionStart S K). (s.session ≡ i) × IsPassOf lanes (i % n) s.pass) starts) (sym size) begin

-- so each lane, as it came back, had handed out a pass for each that gave something back, and one more
pub handed_out : {X : Type 0} (capacity : ℕ → ℕ) (lanes opened : List LaneState) (workers : ℕ) (starts : List X) (served : List Served)
    → EachAt (λ k l. HandsOut (new_lane l.id (capacity k)) l (1 + length (of_lane k workers 0 starts))) lanes
    → opened ≡ lanes → length lanes ≡ workers → length served ≡ length starts
    → EachAt (λ k l. HandsOut (new_lane l.id l.capacity) l (1 + length (of_lane k (length opened) 0 served))) opened
handed_out capacity lanes opened workers starts served out same size back =
    subst (λ (o : List LaneState). EachAt (λ k l. HandsOut (new_lane l.id l.capacity) l (1 + length (of_lane k (length o) 0 served))) o) (sym same)
    (λ k d low.
    let at = out k d low in
    let lane = get_or lanes k d in
    subst (λ n. HandsOut (new_lane lane.id lane.capacity) lane (1 + length (of_lane k n 0 served))) (sym size)
    (subst (λ m. HandsOut (new_lane lane.id lane.capacity) lane (1 + m)) (of_lane-alike k workers 0 starts served (sym back))
    (subst (λ n. HandsOut (new_lane lane.id n) lane (1 + length (of_lane k workers 0 starts))) (sym at.capacity) at)))

-- each gave back a pass of its lane, by which it put jobs
pub hands_back : {S K : Type 0} (has_served : SessionStart S K → Served → Type 0) (lanes opened : List LaneState) (workers : ℕ) (starts : List (SessionStart S K)) (served : List Served)
    → EachAt (λ i (s : SessionStart S K). (s.session ≡ i) × IsPassOf lanes (i % workers) s.pass) starts
    → EachPair (λ i (s : SessionStart S K) (r : Served). IsServiceOf has_served s r) starts served
    → opened ≡ lanes → length lanes ≡ workers
    → EachAt (λ i (r : Served). (d : LaneState) → r.pass ≡ thread_pass (get_or opened (i % length opened) d).id r.pass.put []) served
hands_back has_served lanes opened workers starts served begin each same size =
    subst (λ (o : List LaneState). EachAt (λ i (r : Served). (d : LaneState) → r.pass ≡ thread_pass (get_or o (i % length o) d).id r.pass.put []) served) (sym same)
    (handed has_served lanes starts served (λ i s low. (sessions_begin lanes workers starts size begin i s low).1) each)

pub gave_back : {S K : Type 0} (has_served : SessionStart S K → Served → Type 0) (sessions : List (S × K)) (lanes : List LaneState) (workers : ℕ) (starts : List (SessionStart S K)) (served : List Served)
    → map (λ (s : SessionStart S K). (s.reader, s.writer)) starts ≡ sessions
    → EachAt (λ i (s : SessionStart S K). (s.session ≡ i) × IsPassOf lanes (i % workers) s.pass) starts
    → EachPair (λ i (s : SessionStart S K) (r : Served). IsServiceOf has_served s r) starts served
    → GaveBack has_served sessions served
gave_back has_served sessions lanes workers starts served ends begin each = record {
  starts = starts;
  ends_are = ends;
  begin = λ i s low. let at = begin i s low in (at.0, ap (λ (t : PassState). t.put) (at.1 (new_lane no_inbox 0)));
  each = each;
}
