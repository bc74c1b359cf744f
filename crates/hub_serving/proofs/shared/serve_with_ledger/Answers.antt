use Rattle.hub_serving.proofs.Common.{rules, arith, ap, sym, subst, ◌∙◌, ◌≡◌, ◌+◌, List, length, Vec, Global, vec_len, get_or, PassState, new_pass, LaneState, EachAt, lane_capacity, Worker, IsWorked, HasRoomFor, each_given, IsWorkedHub}
use Rattle.hub_serving.proofs.PlaceLemmas.{sessions_begin, handed_out, hands_back, gave_back}
use Rattle.hub_serving.proofs.shared.serve_with_ledger.Goals as goal

pub run_lanes-requires-clause-begins : goal.run_lanes-requires-clause-begins
run_lanes-requires-clause-begins g c =
    let places = c.in_ok-lanes.field-0 in
    let known = c.in_ok-lanes.ensures in
    let lanes = places.lanes in
    let size : length lanes.items ≡ c.args.setup.workers = sym lanes.ok.0 ∙ known.counts.0 in
    let worked = places.workers.ok.0 in
    let served = places.sessions.ok.0 in
    let all_workers = known.counts.1 in
    let all_sessions = known.counts.2 in
    let some = c.requires.workers.0 in
    let few = c.requires.workers.1 in
    let few_sessions = c.requires.sessions in
    λ κs h. record {
      some_lanes = omega (arith, size, some);
      few_lanes = omega (arith, size, few);
      few_sessions = omega (arith, served, all_sessions, few_sessions);
      worker_count = omega (arith, worked, all_workers, size);
      workers_are = known.workers;
      sessions_are = sessions_begin lanes.items c.args.setup.workers places.sessions.items size known.sessions;
    }

pub run_lanes-requires-clause-few : goal.run_lanes-requires-clause-few
run_lanes-requires-clause-few g c =
    let same = c.in_ok-lanes.ensures.counts.2 in
    let few = c.requires.sessions in
    λ κs h. omega (arith, same, few)

pub end_hub-requires-clause-lanes : goal.end_hub-requires-clause-lanes
end_hub-requires-clause-lanes g c =
    let places = c.in_ok-lanes.field-0 in
    let known = c.in_ok-lanes.ensures in
    let lanes = places.lanes in
    let run = c.in_ok-to_end.field-0 in
    let sessions = vec_len c.args.setup.sessions in
    handed_out (λ k. lane_capacity k c.args.setup.workers sessions) lanes.items run.to_end.lanes.items c.args.setup.workers places.sessions.items run.back.served.items
    known.lanes (ap (λ (v : Vec LaneState Global). v.items) c.in_ok-to_end.ensures.lanes) (sym lanes.ok.0 ∙ known.counts.0) c.in_ok-to_end.ensures.served.0

pub end_hub-requires-clause-hands : goal.end_hub-requires-clause-hands
end_hub-requires-clause-hands g c =
    let places = c.in_ok-lanes.field-0 in
    let known = c.in_ok-lanes.ensures in
    let lanes = places.lanes in
    let run = c.in_ok-to_end.field-0 in
    hands_back g.H.Serve.has_served lanes.items run.to_end.lanes.items c.args.setup.workers places.sessions.items run.back.served.items
    known.sessions c.in_ok-to_end.ensures.served (ap (λ (v : Vec LaneState Global). v.items) c.in_ok-to_end.ensures.lanes) (sym lanes.ok.0 ∙ known.counts.0)

pub end_hub-requires-clause-some : goal.end_hub-requires-clause-some
end_hub-requires-clause-some g c =
    let lanes = c.in_ok-lanes.field-0.lanes in
    let same : length c.in_ok-to_end.field-0.to_end.lanes.items ≡ length lanes.items = ap (λ (v : Vec LaneState Global). length v.items) c.in_ok-to_end.ensures.lanes in
    let size : length lanes.items ≡ c.args.setup.workers = sym lanes.ok.0 ∙ c.in_ok-lanes.ensures.counts.0 in
    let some = c.requires.workers.0 in
    let few = c.requires.workers.1 in (
      omega (arith, same, size, some),
      omega (arith, same, size, few),
    )

pub end_hub-requires-clause-seat : goal.end_hub-requires-clause-seat
end_hub-requires-clause-seat g c =
    let lanes = c.in_ok-lanes.field-0.lanes in
    let same : length c.in_ok-to_end.field-0.to_end.lanes.items ≡ length lanes.items = ap (λ (v : Vec LaneState Global). length v.items) c.in_ok-to_end.ensures.lanes in
    let size : length lanes.items ≡ c.args.setup.workers = sym lanes.ok.0 ∙ c.in_ok-lanes.ensures.counts.0 in (
      c.in_ok-lanes.ensures.seat,
      sym c.requires.blank.1 ∙ (c.requires.blank.2 ∙ ap (λ n. n + 1) (sym (same ∙ size))),
    )

pub end_hub-requires-clause-few : goal.end_hub-requires-clause-few
end_hub-requires-clause-few g c =
    let back = c.in_ok-to_end.field-0.back.served.ok.0 in
    let same = c.in_ok-to_end.ensures.served.0 in
    let starts = c.in_ok-lanes.field-0.sessions.ok.0 in
    let counted = c.in_ok-lanes.ensures.counts.2 in
    let few = c.requires.sessions in
    omega (arith, back, same, starts, counted, few)

pub end_hub-requires-clause-room : goal.end_hub-requires-clause-room
end_hub-requires-clause-room g c =
    let room = c.in_ok-to_end.ensures.room in
    let back = c.in_ok-to_end.field-0.back.served.ok.0 in
    let same = c.in_ok-to_end.ensures.served.0 in
    let starts = c.in_ok-lanes.field-0.sessions.ok.0 in
    let served : vec_len c.in_ok-lanes.field-0.sessions ≡ vec_len c.in_ok-to_end.field-0.back.served = omega (arith, back, same, starts) in
    let lanes : vec_len c.in_ok-lanes.field-0.lanes ≡ vec_len c.in_ok-to_end.field-0.to_end.lanes = sym (ap (λ (v : Vec LaneState Global). vec_len v) c.in_ok-to_end.ensures.lanes) in
    subst (λ n. HasRoomFor (vec_len c.in_ok-to_end.field-0.back.served) n c.in_ok-to_end.field-0.to_end.room) lanes
    (subst (λ n. HasRoomFor n (vec_len c.in_ok-lanes.field-0.lanes) c.in_ok-to_end.field-0.to_end.room) served room)

pub end_hub-requires-clause-passes : goal.end_hub-requires-clause-passes
end_hub-requires-clause-passes g c =
    let room = c.in_ok-parts.ensures.passes in
    let back = c.in_ok-to_end.field-0.back.worked.ok.0 in
    let same = c.in_ok-to_end.ensures.worked.0 in
    let starts = c.in_ok-lanes.field-0.workers.ok.0 in
    let many : vec_len c.in_ok-lanes.field-0.workers ≡ vec_len c.in_ok-to_end.field-0.back.worked = omega (arith, back, same, starts) in
    search (rules, room, many)

pub end_hub-requires-clause-seats : goal.end_hub-requires-clause-seats
end_hub-requires-clause-seats g c =
    let room = c.in_ok-parts.ensures.seats in
    let back = c.in_ok-to_end.field-0.back.worked.ok.0 in
    let same = c.in_ok-to_end.ensures.worked.0 in
    let starts = c.in_ok-lanes.field-0.workers.ok.0 in
    let many : vec_len c.in_ok-lanes.field-0.workers ≡ vec_len c.in_ok-to_end.field-0.back.worked = omega (arith, back, same, starts) in
    search (rules, room, many)

pub end_hub-requires-clause-worked : goal.end_hub-requires-clause-worked
end_hub-requires-clause-worked g c =
    let lanes = c.in_ok-lanes.field-0.lanes in
    let workers = c.in_ok-lanes.field-0.workers in
    let opened = c.in_ok-to_end.field-0.to_end.lanes.items in
    let same : opened ≡ lanes.items = ap (λ (v : Vec LaneState Global). v.items) c.in_ok-to_end.ensures.lanes in
    let size : length lanes.items ≡ c.args.setup.workers = sym lanes.ok.0 ∙ c.in_ok-lanes.ensures.counts.0 in
    let many : length workers.items ≡ c.args.setup.workers = sym workers.ok.0 ∙ c.in_ok-lanes.ensures.counts.1 in
    let back = c.in_ok-to_end.field-0.back.worked.items in
    let pass_of : Worker g.row.L.Denot → PassState = λ w. w.pass in
    let worked = c.in_ok-to_end.ensures.worked in
    let known : (length back ≡ length lanes.items) × EachAt (λ k (r : Worker g.row.L.Denot). (d : LaneState) → IsWorked (new_pass (get_or lanes.items k d).id 1) r.pass r.seat) back = (
      worked.0 ∙ (many ∙ sym size),
      each_given (λ k t (r : Worker g.row.L.Denot). IsWorked t r.pass r.seat) pass_of (λ k (d : LaneState). new_pass (get_or lanes.items k d).id 1)
          workers.items back
          (λ k w low d. (c.in_ok-lanes.ensures.workers k w low).1 d)
          (worked.0, λ k s r low. (worked.1 k s r low).worked),
    ) in
    subst (λ (l : List LaneState). (length back ≡ length l) × EachAt (λ k (r : Worker g.row.L.Denot). (d : LaneState) → IsWorked (new_pass (get_or l k d).id 1) r.pass r.seat) back) (sym same) known

pub returns : goal.returns
returns g c =
    let places = c.in_ok-lanes.field-0 in
    let lanes = places.lanes in
    let back = c.in_ok-to_end.field-0.back.served.items in
    let opened = c.in_ok-to_end.field-0.to_end in
    let same : length opened.lanes.items ≡ length lanes.items = ap (λ (v : Vec LaneState Global). length v.items) c.in_ok-to_end.ensures.lanes in
    let size : length opened.lanes.items ≡ c.args.setup.workers = same ∙ (sym lanes.ok.0 ∙ c.in_ok-lanes.ensures.counts.0) in
    record {
      served = back;
      given = gave_back g.H.Serve.has_served c.args.setup.sessions.items lanes.items c.args.setup.workers places.sessions.items back c.in_ok-lanes.ensures.ends c.in_ok-lanes.ensures.sessions c.in_ok-to_end.ensures.served;
      hub = subst (λ n. IsWorkedHub n back c.end_hub.result) size c.end_hub.ensures;
    }
