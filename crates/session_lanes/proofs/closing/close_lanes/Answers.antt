use Rattle.session_lanes.proofs.Common.{rules, sym, subst, ◌∙◌, ◌≡◌, ℕ, ◌+◌, ◌<◌, arith, List, [], ◌∷◌, ◌++◌, length, sum_by, All, map-id, YieldsList-turn, YieldsList-end, YieldsList-from_vec, Job, ALL_PARTS, PassState, IsKeptBy, LaneState, EachPair}
use Rattle.session_lanes.proofs.FallLemmas.{EachPair-push}
use Rattle.session_lanes.proofs.closing.close_lanes.Goals as goal

abbrev Closes : ℕ → LaneState → List Job → Type 0
Closes k l left = IsKeptBy (l.back ++ l.pass ∷ []) left

pub close-requires : goal.close-requires
close-requires g c =
    let n = length c.loop-lane.yielded in
    let turn = YieldsList-turn (YieldsList-from_vec c.args.lanes.items c.into_iter-lane-iterator.ensures.into_iter_gives.0 (c.into_iter-lane-iterator.ensures.into_iter_gives.1 ∙ c.args.lanes.ok.0)) c.loop-lane.yielded c.loop-lane.lane-iterator c.loop-lane.yielded_by c.next.result c.next.new.self c.in-Some.lane c.in-Some.is c.next.ensures.steps in
    record {
      own = subst (λ (l : LaneState). All (λ (p : PassState). p.inbox ≡ l.id) l.back) (sym turn.1) (c.requires.own n c.in-Some.lane turn.0);
      room = subst (λ (l : LaneState). length l.back < 66) (sym turn.1) (c.requires.few n c.in-Some.lane turn.0);
      parts = subst (λ (l : LaneState). sum_by (λ (p : PassState). p.parts) l.back + l.pass.parts ≡ ALL_PARTS) (sym turn.1) (c.requires.parts n c.in-Some.lane turn.0);
    }

pub push_reserved-requires : goal.push_reserved-requires
push_reserved-requires g c =
    let turn = (YieldsList-turn (YieldsList-from_vec c.args.lanes.items c.into_iter-lane-iterator.ensures.into_iter_gives.0 (c.into_iter-lane-iterator.ensures.into_iter_gives.1 ∙ c.args.lanes.ok.0)) c.loop-lane.yielded c.loop-lane.lane-iterator c.loop-lane.yielded_by c.next.result c.next.new.self c.in-Some.lane c.in-Some.is c.next.ensures.steps).0 in
    let held = c.loop-lane.invariant.0.0 in
    let ok = c.loop-lane.all.ok.0 in
    let same = c.loop-lane.invariant.1 in
    let room = c.requires.left.room in
    let listed = c.args.lanes.ok.0 in
    omega (arith, turn, held, ok, same, room, listed)

pub loop-lane-preserved : goal.loop-lane-preserved
loop-lane-preserved g c =
    let lane = c.in-Some.lane in
    let left = c.close.result in
    let grown : c.push_reserved.new.self.items ≡ c.loop-lane.all.items ++ left ∷ [] = search rules in
    let closed : Closes (length c.loop-lane.yielded) lane left = search rules in (
      subst (EachPair Closes (c.loop-lane.yielded ++ lane ∷ [])) (sym grown) (EachPair-push Closes c.loop-lane.yielded c.loop-lane.all.items lane left c.loop-lane.invariant.0 closed),
      c.push_reserved.ensures.capacity ∙ c.loop-lane.invariant.1,
    )

pub returns : goal.returns
returns g c =
    let all : c.loop-lane.yielded ≡ c.args.lanes.items = sym (map-id c.loop-lane.yielded) ∙ (YieldsList-end (YieldsList-from_vec c.args.lanes.items c.into_iter-lane-iterator.ensures.into_iter_gives.0 (c.into_iter-lane-iterator.ensures.into_iter_gives.1 ∙ c.args.lanes.ok.0)) c.loop-lane.yielded c.loop-lane.lane-iterator c.loop-lane.yielded_by c.next.result c.next.new.self c.in-None.is c.next.ensures.steps).0 in
    subst (λ l. EachPair Closes l c.loop-lane.all.items) all c.loop-lane.invariant.0
