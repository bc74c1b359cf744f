use Rattle.session_lanes.proofs.Common.{rules, ◌≡◌, ℕ, ◌%◌, ◌<◌, ◌≤◌, [], ◌∷◌, ◌++◌, length, map, set, sym, ap, ◌∙◌, subst, refl, arith, length-append, get_or, get_or_read, map-append, YieldsList-turn, YieldsList-from_vec, new_pass, SessionStart, LaneState, IsPassOf, EachAt, of_lane, HandsOut, EachLane}
use Rattle.session_lanes.proofs.FallLemmas.{EachAt-push, of_lane-fits, one_more, hands_more}
use Rattle.session_lanes.proofs.lane.start_sessions.Goals as goal

pub hand_out-pass-requires : goal.hand_out-pass-requires
hand_out-pass-requires g c =
    let n = length c.args.lanes.now in
    let j = c.len-session.result % n in
    let d = c.index-lanes-lane.result in
    let same : length c.loop-reader.lanes ≡ n = search rules in
    let some = c.requires.lanes.0 in
    let within : j < n = omega (arith, some) in
    let step = c.loop-reader.invariant.2 j d within in
    let parts = step.parts in
    let fits = of_lane-fits j n 0 c.loop-reader.starts.items in
    let turn = (YieldsList-turn (YieldsList-from_vec c.args.sessions.items c.into_iter-reader-iterator.ensures.into_iter_gives.0 (c.into_iter-reader-iterator.ensures.into_iter_gives.1 ∙ c.args.sessions.ok.0)) c.loop-reader.yielded c.loop-reader.reader-iterator c.loop-reader.yielded_by c.next.result c.next.new.self (c.in-Some.reader, c.in-Some.writer) c.in-Some.is c.next.ensures.steps).0 in
    let many = c.requires.lanes.1 j d within in
    let few = c.requires.sessions in
    let count = c.loop-reader.invariant.0 in
    let ok = c.loop-reader.starts.ok.0 in
    let listed = c.args.sessions.ok.0 in
    let enough : 2 ≤ (get_or c.loop-reader.lanes j d).pass.parts = omega (arith, parts, fits, turn, many, few, count, ok, listed) in
    subst (λ m. 2 ≤ (get_or c.loop-reader.lanes (c.len-session.result % m) d).pass.parts) (sym same) enough

pub loop-reader-preserved : goal.loop-reader-preserved
loop-reader-preserved g c =
    let n = length c.args.lanes.now in
    let old = c.args.lanes.now in
    let now = c.loop-reader.lanes in
    let starts = c.loop-reader.starts.items in
    let start : SessionStart g.row.S.Denot g.row.K.Denot = record { session = c.len-session.result; reader = c.in-Some.reader; writer = c.in-Some.writer; pass = c.hand_out-pass.result } in
    let grown : c.push.new.self.items ≡ starts ++ start ∷ [] = search rules in
    let longer = length-append c.loop-reader.yielded ((c.in-Some.reader, c.in-Some.writer) ∷ []) in
    let same : length now ≡ n = search rules in
    let some = c.requires.lanes.0 in
    let numbered : c.len-session.result ≡ length starts = search rules in
    let j = c.len-session.result % n in
    let within : j < n = omega (arith, some) in
    let falls : j ≡ length starts % n = ap (λ m. m % n) numbered in
    let lane = c.index-lanes-lane.result in
    let found : lane ≡ get_or now j lane = subst (λ m. lane ≡ get_or now (c.len-session.result % m) lane) same c.index-lanes-lane.is in
    let inside : j < length now = omega (arith, same, within) in
    let read : (d : LaneState) → lane ≡ get_or now j d = λ d. get_or_read now j lane inside found d in
    let given : IsPassOf old (length starts % n) c.hand_out-pass.result =
    λ d.
    let kept = (c.loop-reader.invariant.2 j d within).id in
    let id : lane.id ≡ (get_or old j d).id = ap (λ (r : LaneState). r.id) (read d) ∙ kept in
    c.hand_out-pass.ensures.pass ∙ (ap (λ (r : LaneState). new_pass r.id 1) (sym c.index-lanes-lane.is) ∙ ap (λ i. new_pass i 1) id ∙ ap (λ m. new_pass (get_or old m d).id 1) falls) in
    let ends : SessionStart g.row.S.Denot g.row.K.Denot → g.row.S.Denot × g.row.K.Denot = λ s. (s.reader, s.writer) in
    let P : ℕ → SessionStart g.row.S.Denot g.row.K.Denot → Type 0 = λ i s. (s.session ≡ i) × IsPassOf old (i % n) s.pass in
    let all = one_more (λ a b l. HandsOut a b (length l)) hands_more n old now j c.hand_out-pass.new.self starts start refl same falls within c.loop-reader.invariant.2 (λ d. subst (λ r. HandsOut r c.hand_out-pass.new.self 1) (sym c.index-lanes-lane.is ∙ read d) c.hand_out-pass.ensures.after) in (
      search (rules, longer),
      subst (EachAt P) (sym grown) (EachAt-push P starts start c.loop-reader.invariant.1 (numbered, given)),
      subst (λ m. EachLane (λ k a b. HandsOut a b (length (of_lane k n 0 c.push.new.self.items))) old (set now (c.len-session.result % m) c.hand_out-pass.new.self)) (sym same)
          (subst (λ l. EachLane (λ k a b. HandsOut a b (length (of_lane k n 0 l))) old (set now j c.hand_out-pass.new.self)) (sym grown) all),
      ap (map ends) grown ∙ map-append ends starts (start ∷ []) ∙ ap (λ l. l ++ (c.in-Some.reader, c.in-Some.writer) ∷ []) c.loop-reader.invariant.3,
    )
