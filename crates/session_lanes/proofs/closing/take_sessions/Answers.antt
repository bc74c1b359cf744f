use Rattle.session_lanes.proofs.Common.{rules, arith, ap, sym, refl, subst, ◌∙◌, ◌≡◌, ◌%◌, ◌<◌, List, [], ◌∷◌, ◌++◌, length, map, get_or, set, get_or_read, map-id, map-append, length-map, YieldsList-turn, YieldsList-end, YieldsList-from_vec, PassState, TallyState, Served, SessionEnd, LaneState, of_lane, TakesBack, EachLane}
use Rattle.session_lanes.proofs.FallLemmas.{one_more, back_more, of_lane-fits}
use Rattle.session_lanes.proofs.closing.take_sessions.Goals as goal

abbrev tally_of : Served → TallyState
tally_of s = s.tally

abbrev end_of : Served → SessionEnd
end_of s = s.end

abbrev pass_of : Served → PassState
pass_of s = s.pass

-- fewer came back to the lane than there are sessions
pub take_back-requires : goal.take_back-requires
take_back-requires c =
    let old = c.args.lanes.now in
    let n = length old in
    let now = c.loop-back.lanes in
    let yielded = c.loop-back.yielded in
    let passes = map pass_of yielded in
    let turn = (YieldsList-turn (YieldsList-from_vec c.args.served.items c.into_iter-back-iterator.ensures.into_iter_gives.0 (c.into_iter-back-iterator.ensures.into_iter_gives.1 ∙ c.args.served.ok.0)) yielded c.loop-back.back-iterator c.loop-back.yielded_by c.next.result c.next.new.self c.in-Some.back c.in-Some.is c.next.ensures.steps).0 in
    let same : length now ≡ n = c.loop-back.auto.lanes in
    let some = c.requires.some in
    let j = c.len.result % n in
    let within : j < n = omega (arith, some) in
    let lane = c.index-lanes-lane.result in
    let found : lane ≡ get_or now j lane = subst (λ m. lane ≡ get_or now (c.len.result % m) lane) same c.index-lanes-lane.is in
    let step = c.loop-back.invariant.2 j lane within in
    let back : lane.back ≡ of_lane j n 0 passes = ap (λ (l : LaneState). l.back) found ∙ (step.back ∙ ap (λ (l : List PassState). l ++ of_lane j n 0 passes) (c.requires.none j lane within)) in
    let size = ap (λ (l : List PassState). length l) back in
    let fits = of_lane-fits j n 0 passes in
    let long = length-map yielded pass_of in
    let few = c.requires.few in
    let listed = c.args.served.ok.0 in
    let small : length lane.back < 66 = omega (arith, turn, size, fits, long, few, listed) in
    record { room = subst (λ (l : LaneState). length l.back < 66) c.index-lanes-lane.is small }

pub push_reserved-requires : goal.push_reserved-requires
push_reserved-requires c =
    let turn = (YieldsList-turn (YieldsList-from_vec c.args.served.items c.into_iter-back-iterator.ensures.into_iter_gives.0 (c.into_iter-back-iterator.ensures.into_iter_gives.1 ∙ c.args.served.ok.0)) c.loop-back.yielded c.loop-back.back-iterator c.loop-back.yielded_by c.next.result c.next.new.self c.in-Some.back c.in-Some.is c.next.ensures.steps).0 in
    let ended : length c.loop-back.ends.items ≡ length c.loop-back.yielded = ap (λ (l : List SessionEnd). length l) c.loop-back.invariant.0 ∙ length-map c.loop-back.yielded end_of in
    let ok = c.loop-back.ends.ok.0 in
    let same = c.loop-back.invariant.3 in
    let room = c.requires.ends.room in
    let listed = c.args.served.ok.0 in
    omega (arith, turn, ended, ok, same, room, listed)

pub push_reserved-requires-in-loop-back : goal.push_reserved-requires-in-loop-back
push_reserved-requires-in-loop-back c =
    let turn = (YieldsList-turn (YieldsList-from_vec c.args.served.items c.into_iter-back-iterator.ensures.into_iter_gives.0 (c.into_iter-back-iterator.ensures.into_iter_gives.1 ∙ c.args.served.ok.0)) c.loop-back.yielded c.loop-back.back-iterator c.loop-back.yielded_by c.next.result c.next.new.self c.in-Some.back c.in-Some.is c.next.ensures.steps).0 in
    let told : length c.loop-back.tallies.items ≡ length c.loop-back.yielded = ap (λ (l : List TallyState). length l) c.loop-back.invariant.1 ∙ length-map c.loop-back.yielded tally_of in
    let ok = c.loop-back.tallies.ok.0 in
    let same = c.loop-back.invariant.4 in
    let room = c.requires.tallies.room in
    let listed = c.args.served.ok.0 in
    omega (arith, turn, told, ok, same, room, listed)

pub loop-back-preserved : goal.loop-back-preserved
loop-back-preserved c =
    let old = c.args.lanes.now in
    let n = length old in
    let now = c.loop-back.lanes in
    let yielded = c.loop-back.yielded in
    let back = c.in-Some.back in
    let pass = c.in-Some.back.pass in
    let ended : c.push_reserved.new.self.items ≡ c.loop-back.ends.items ++ back.end ∷ [] = search rules in
    let told : c.push_reserved-in-loop-back.new.self.items ≡ c.loop-back.tallies.items ++ back.tally ∷ [] = search rules in
    let same : length now ≡ n = c.loop-back.auto.lanes in
    let some = c.requires.some in
    let passes = map pass_of yielded in
    let numbered : c.len.result ≡ length passes = (let a : c.len.result ≡ length c.loop-back.tallies.items = search rules in a ∙ (ap (λ (l : List TallyState). length l) c.loop-back.invariant.1 ∙ (length-map yielded tally_of ∙ sym (length-map yielded pass_of)))) in
    let j = c.len.result % n in
    let within : j < n = omega (arith, some) in
    let falls : j ≡ length passes % n = ap (λ m. m % n) numbered in
    let inside : j < length now = omega (arith, same, within) in
    let lane = c.index-lanes-lane.result in
    let found : lane ≡ get_or now j lane = subst (λ m. lane ≡ get_or now (c.len.result % m) lane) same c.index-lanes-lane.is in
    let read : (d : LaneState) → lane ≡ get_or now j d = λ d. get_or_read now j lane inside found d in
    let step : TakesBack lane c.take_back.new.self (pass ∷ []) = search rules in
    let grown : map pass_of (yielded ++ back ∷ []) ≡ passes ++ pass ∷ [] = map-append pass_of yielded (back ∷ []) in
    let all = one_more (λ a b l. TakesBack a b l) back_more n old now j c.take_back.new.self passes pass refl same falls within c.loop-back.invariant.2 (λ d. subst (λ r. TakesBack r c.take_back.new.self (pass ∷ [])) (read d) step) in (
      ended ∙ (ap (λ (l : List SessionEnd). l ++ back.end ∷ []) c.loop-back.invariant.0 ∙ sym (map-append end_of yielded (back ∷ []))),
      told ∙ (ap (λ (l : List TallyState). l ++ back.tally ∷ []) c.loop-back.invariant.1 ∙ sym (map-append tally_of yielded (back ∷ []))),
      subst (λ m. EachLane (λ k a b. TakesBack a b (of_lane k n 0 (map pass_of (yielded ++ back ∷ [])))) old (set now (c.len.result % m) c.take_back.new.self)) (sym same)
          (subst (λ l. EachLane (λ k a b. TakesBack a b (of_lane k n 0 l)) old (set now j c.take_back.new.self)) (sym grown) all),
      c.push_reserved.ensures.capacity ∙ c.loop-back.invariant.3,
      c.push_reserved-in-loop-back.ensures.capacity ∙ c.loop-back.invariant.4,
    )

pub returns : goal.returns
returns c =
    let all : c.loop-back.yielded ≡ c.args.served.items = sym (map-id c.loop-back.yielded) ∙ (YieldsList-end (YieldsList-from_vec c.args.served.items c.into_iter-back-iterator.ensures.into_iter_gives.0 (c.into_iter-back-iterator.ensures.into_iter_gives.1 ∙ c.args.served.ok.0)) c.loop-back.yielded c.loop-back.back-iterator c.loop-back.yielded_by c.next.result c.next.new.self c.in-None.is c.next.ensures.steps).0 in
    record {
      ends = c.loop-back.invariant.0 ∙ ap (λ l. map end_of l) all;
      tallies = c.loop-back.invariant.1 ∙ ap (λ l. map tally_of l) all;
      lanes = subst (λ l. EachLane (λ k a b. TakesBack a b (of_lane k (length c.args.lanes.now) 0 (map pass_of l))) c.args.lanes.now c.loop-back.lanes) all c.loop-back.invariant.2;
    }
