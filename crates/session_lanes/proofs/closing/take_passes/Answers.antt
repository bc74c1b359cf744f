use Rattle.session_lanes.proofs.Common.{rules, arith, ap, sym, subst, ◌∙◌, ◌≡◌, ℕ, ◌<◌, ◌≤◌, List, [], ◌∷◌, ◌++◌, length, length-append, get_or, set, get_or_read, get_or_append_left, get_or_push, get_or-set_same, get_or-set_other, length_push, map-id, YieldsList-turn, YieldsList-end, YieldsList-from_vec, PassState, LaneState, TakesBack}
use mathlib.Core.Logic.{dite}
use native.Mathlib.Decide.{ℕ_discrete}
use Rattle.session_lanes.proofs.closing.take_passes.Goals as goal

-- one worker more gave its pass back
one_back : (old now : List LaneState) (r : LaneState) (ps : List PassState) (p : PassState)
    → length now ≡ length old → length ps < length old
    → ((k : ℕ) (d : LaneState) (e : PassState) → k < length ps → TakesBack (get_or old k d) (get_or now k d) (get_or ps k e ∷ []))
    → ((k : ℕ) (d : LaneState) → length ps ≤ k → get_or now k d ≡ get_or old k d)
    → ((d : LaneState) → TakesBack (get_or now (length ps) d) r (p ∷ []))
    → ((k : ℕ) (d : LaneState) (e : PassState) → k < length (ps ++ p ∷ []) → TakesBack (get_or old k d) (get_or (set now (length ps) r) k d) (get_or (ps ++ p ∷ []) k e ∷ []))
    × ((k : ℕ) (d : LaneState) → length (ps ++ p ∷ []) ≤ k → get_or (set now (length ps) r) k d ≡ get_or old k d)
one_back old now r ps p same room done rest step =
    let long = length_push ps p in (
      (λ k d e low. dite (ℕ_discrete k (length ps))
          (λ is.
          let here : get_or (set now (length ps) r) k d ≡ r = ap (λ n. get_or (set now (length ps) r) n d) is ∙ get_or-set_same now (length ps) r d (omega (arith, same, room)) in
          let last = get_or_push ps p e k (sym is) in
          let was : get_or now (length ps) d ≡ get_or old k d = rest (length ps) d (omega arith) ∙ ap (λ n. get_or old n d) (sym is) in
          rw (here, last) (subst (λ a. TakesBack a r (p ∷ [])) was (step d)))
          (λ ne.
          let inside : k < length ps = omega (arith, long, low, ne) in
          let here = get_or-set_other now (length ps) k r d ne in
          let early = get_or_append_left ps (p ∷ []) e k inside in
          rw (here, early) (done k d e inside))),
      (λ k d high.
          let past : length ps ≤ k = omega (arith, long, high) in
          get_or-set_other now (length ps) k r d (λ is. absurd (omega (arith, long, high, is))) ∙ rest k d past),
    )

pub bounds-lanes-lane : goal.bounds-lanes-lane
bounds-lanes-lane c =
    let turn = (YieldsList-turn (YieldsList-from_vec c.args.passes.items c.into_iter-back-iterator.ensures.into_iter_gives.0 (c.into_iter-back-iterator.ensures.into_iter_gives.1 ∙ c.args.passes.ok.0)) c.loop-back.yielded c.loop-back.back-iterator c.loop-back.yielded_by c.next.result c.next.new.self c.in-Some.back c.in-Some.is c.next.ensures.steps).0 in
    let at = c.loop-back.invariant.0 in
    let many = c.requires.count in
    let same = c.loop-back.auto.lanes in
    let listed = c.args.passes.ok.0 in
    omega (arith, turn, at, many, same, listed)

-- nothing came back to the lane since
pub take_back-requires : goal.take_back-requires
take_back-requires c =
    let n = length c.loop-back.yielded in
    let old = c.args.lanes.now in
    let now = c.loop-back.lanes in
    let turn = (YieldsList-turn (YieldsList-from_vec c.args.passes.items c.into_iter-back-iterator.ensures.into_iter_gives.0 (c.into_iter-back-iterator.ensures.into_iter_gives.1 ∙ c.args.passes.ok.0)) c.loop-back.yielded c.loop-back.back-iterator c.loop-back.yielded_by c.next.result c.next.new.self c.in-Some.back c.in-Some.is c.next.ensures.steps).0 in
    let at = c.loop-back.invariant.0 in
    let many = c.requires.count in
    let listed = c.args.passes.ok.0 in
    let within : n < length old = omega (arith, turn, many, listed) in
    let lane = c.index-lanes-lane.result in
    let found : lane ≡ get_or now n lane = subst (λ m. lane ≡ get_or now m lane) at c.index-lanes-lane.is in
    let was : lane ≡ get_or old n lane = found ∙ c.loop-back.invariant.2 n lane (omega arith) in
    let few = c.requires.few n lane within in
    let back : length lane.back ≡ length (get_or old n lane).back = ap (λ (l : LaneState). length l.back) was in
    let small : length lane.back < 66 = omega (arith, few, back) in
    record { room = subst (λ (l : LaneState). length l.back < 66) c.index-lanes-lane.is small }

pub loop-back-preserved : goal.loop-back-preserved
loop-back-preserved c =
    let yielded = c.loop-back.yielded in
    let back = c.in-Some.back in
    let old = c.args.lanes.now in
    let now = c.loop-back.lanes in
    let n = length yielded in
    let r = c.take_back.new.self in
    let longer = length-append yielded (back ∷ []) in
    let at = c.loop-back.invariant.0 in
    let turn = (YieldsList-turn (YieldsList-from_vec c.args.passes.items c.into_iter-back-iterator.ensures.into_iter_gives.0 (c.into_iter-back-iterator.ensures.into_iter_gives.1 ∙ c.args.passes.ok.0)) yielded c.loop-back.back-iterator c.loop-back.yielded_by c.next.result c.next.new.self back c.in-Some.is c.next.ensures.steps).0 in
    let many = c.requires.count in
    let same : length now ≡ length old = c.loop-back.auto.lanes in
    let listed = c.args.passes.ok.0 in
    let room : n < length old = omega (arith, turn, many, listed) in
    let lane = c.index-lanes-lane.result in
    let found : lane ≡ get_or now n lane = subst (λ m. lane ≡ get_or now m lane) at c.index-lanes-lane.is in
    let step : TakesBack lane r (back ∷ []) = search rules in
    let more = one_back old now r yielded back same room c.loop-back.invariant.1 c.loop-back.invariant.2
    (λ d. subst (λ a. TakesBack a r (back ∷ [])) (get_or_read now n lane (omega (arith, room, same)) found d) step) in (
      omega (arith, longer, at),
      (λ k d e low. subst (λ m. TakesBack (get_or old k d) (get_or (set now m r) k d) (get_or (yielded ++ back ∷ []) k e ∷ [])) (sym at) (more.0 k d e low)),
      (λ k d high. subst (λ m. get_or (set now m r) k d ≡ get_or old k d) (sym at) (more.1 k d high)),
    )

pub returns : goal.returns
returns c =
    let all : c.loop-back.yielded ≡ c.args.passes.items = sym (map-id c.loop-back.yielded) ∙ (YieldsList-end (YieldsList-from_vec c.args.passes.items c.into_iter-back-iterator.ensures.into_iter_gives.0 (c.into_iter-back-iterator.ensures.into_iter_gives.1 ∙ c.args.passes.ok.0)) c.loop-back.yielded c.loop-back.back-iterator c.loop-back.yielded_by c.next.result c.next.new.self c.in-None.is c.next.ensures.steps).0 in
    let many = c.requires.count in
    let listed = c.args.passes.ok.0 in
    λ k d e low. subst (λ l. TakesBack (get_or c.args.lanes.now k d) (get_or c.loop-back.lanes k d) (get_or l k e ∷ [])) all (c.loop-back.invariant.1 k d e (let l = ap (λ m. length m) all in omega (arith, l, low, many, listed)))
