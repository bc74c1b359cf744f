use Rattle.session_lanes.proofs.Common.{rules, ◌≡◌, ℕ, [], ◌∷◌, ◌++◌, length, ap, ◌∙◌, sym, subst, LaneState, new_lane, lane_capacity, EachAt}
use Rattle.session_lanes.proofs.FallLemmas.{EachAt-push}
use Rattle.session_lanes.proofs.lane.make_lanes.Goals as goal

pub loop-lane-preserved : goal.loop-lane-preserved
loop-lane-preserved g c =
    let lanes = c.loop-lane.lanes.items in
    let lane = c.in_ok-lane.lane in
    let P : ℕ → LaneState → Type 0 = λ k r. r ≡ new_lane r.id (lane_capacity k c.args.workers c.args.sessions) in
    let grown : c.push.new.self.items ≡ lanes ++ lane ∷ [] = search rules in
    let place : c.loop-lane.lane ≡ length lanes = search rules in
    let made : lane ≡ new_lane lane.id c.capacity_of-capacity.result = search rules in
    let new : P (length lanes) lane = made ∙ ap (λ n. new_lane lane.id n) (c.capacity_of-capacity.ensures.value ∙ ap (λ k. lane_capacity k c.args.workers c.args.sessions) place) in
    (search rules, subst (EachAt P) (sym grown) (EachAt-push P lanes lane c.loop-lane.invariant.1 new))
