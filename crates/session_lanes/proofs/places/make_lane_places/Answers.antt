use Rattle.session_lanes.proofs.Common.{arith, ap, sym, subst, ◌∙◌, ◌≡◌, ◌+◌, ◌%◌, ◌<◌, ℕ, List, length, get_or, new_pass, SessionStart, LaneState, new_lane, lane_capacity, IsPassOf, EachAt, of_lane, HandsOut, PassState}
use Rattle.session_lanes.proofs.PlaceLemmas.{lent_twice, handed_out, first_id, last_id}
use Rattle.session_lanes.proofs.places.make_lane_places.Goals as goal

pub returns : goal.returns
returns g c =
    let made = c.in_ok-lanes.lanes.items in
    let len = c.in_ok-lanes.lanes.len in
    let first = c.hand_out_each.new.lanes in
    let last = c.start_sessions.new.lanes in
    let sessions = c.in_ok-sessions.sessions.items in
    let passes = c.in_ok-passes.passes.items in
    let n = c.args.workers in
    let capacity : ℕ → ℕ = λ k. lane_capacity k n c.args.sessions.len in
    let long : len ≡ length made = c.in_ok-lanes.lanes.ok.0 in
    let made_is : length made ≡ n = sym long ∙ c.in_ok-lanes.ensures.0 in
    let is : c.as_mut_slice.result.now ≡ made = c.as_mut_slice.ensures.value in
    let new : EachAt (λ k (l : LaneState). l ≡ new_lane l.id (capacity k)) made =
    subst (λ m. EachAt (λ k (l : LaneState). l ≡ new_lane l.id (lane_capacity k n m)) made) c.len.ensures c.in_ok-lanes.ensures.1 in
    let lent = lent_twice capacity len made c.as_mut_slice.result.now first c.as_mut_slice-2.result.now last sessions long is c.as_mut_slice-2.ensures.value c.hand_out_each.auto.lanes c.start_sessions.auto.lanes new c.in_ok-passes.ensures.lanes c.in_ok-sessions.ensures.lanes in
    let handed = lent.0 in
    let end = lent.2 in
    let first_is : length first ≡ n = handed.first_fit ∙ made_is in
    let begun : EachAt (λ i (s : SessionStart g.row.S.Denot g.row.K.Denot). (s.session ≡ i) × IsPassOf first (i % length first) s.pass) sessions =
    subst (λ l. EachAt (λ i (s : SessionStart g.row.S.Denot g.row.K.Denot). (s.session ≡ i) × IsPassOf l (i % length l) s.pass) sessions) lent.1 c.in_ok-sessions.ensures.starts in
    let given : EachAt (λ k (t : PassState). IsPassOf made k t) passes =
    subst (λ l. EachAt (λ k (t : PassState). IsPassOf l k t) passes) is c.in_ok-passes.ensures.passes in
    let some = c.requires.workers.0 in
    let pass_count = c.in_ok-passes.ensures.count in
    let lane_count = ap (λ (l : List LaneState). length l) is in
    let listed = c.in_ok-passes.passes.ok.0 in
    record {
      counts = (c.in_ok-lanes.ensures.0, omega (arith, pass_count, lane_count, made_is), c.in_ok-sessions.ensures.count);
      ends = c.in_ok-sessions.ensures.ends;
      lanes = subst (λ l. EachAt (λ k (r : LaneState). HandsOut (new_lane r.id (capacity k)) r (1 + length (of_lane k n 0 sessions))) l) (sym end) (handed_out capacity n made first last sessions handed made_is);
      sessions = λ i s low.
          let known = begun i s low in (
            known.0,
            λ d.
                let within : i % n < length made = omega (arith, some, made_is) in
                known.1 d ∙ ap (λ j. new_pass j 1) (ap (λ m. (get_or first (i % m) d).id) first_is ∙ (sym (last_id capacity made first last sessions handed (i % n) d within) ∙ ap (λ l. (get_or l (i % n) d).id) (sym end))),
          );
      passes = λ k t low d.
          let within : k < length made = omega (arith, low, listed, pass_count, lane_count) in
          given k t low d ∙ ap (λ j. new_pass j 1) (sym (first_id capacity made first last sessions handed k d within) ∙ ap (λ l. (get_or l k d).id) (sym end));
    }
