use Rattle.hub_serving.proofs.Common.{arith, ap, sym, subst, ◌∙◌, ◌≡◌, ℕ, ◌+◌, List, length, map, get_or, length-map, Job, PassState, new_pass, Served, LaneState, new_lane, EachAt, TakesOnly, no_inbox, Worker, WorkerState, MakesCalls, taken_lists, AreKept, EachAt-map, sum_of_map}
use mathlib.Core.List.{map-map}
use Rattle.hub_serving.proofs.shared.end_hub.Goals as goal

pub close_hub-hub-requires-clause-own : goal.close_hub-hub-requires-clause-own
close_hub-hub-requires-clause-own g c = λ k w low. (c.requires.worked.1 k w low (new_lane no_inbox 0)).one

pub close_hub-hub-requires-clause-seat : goal.close_hub-hub-requires-clause-seat
close_hub-hub-requires-clause-seat g c = (c.requires.seat.0, c.requires.seat.1 ∙ ap (λ n. n + 1) (sym c.requires.worked.0))

pub close_hub-hub-requires-clause-few : goal.close_hub-hub-requires-clause-few
close_hub-hub-requires-clause-few g c =
    let many = c.requires.worked.0 in
    let few = c.requires.some.1 in
    omega (arith, many, few)

-- the workers' passes took jobs alone
pub end_lanes-outcomes-requires-clause-passes : goal.end_lanes-outcomes-requires-clause-passes
end_lanes-outcomes-requires-clause-passes g c =
    let items = c.args.to_close.to_end.lanes.items in
    let worked = c.args.back.worked.items in
    let own_of : Worker g.row.L.Denot → PassState = λ w. w.pass in
    let is = c.close_hub-hub.ensures.passes in
    let Takes : ℕ → PassState → Type 0 = λ k p. (d : LaneState) → TakesOnly (new_pass (get_or items k d).id 1) p in (
      ap (λ (l : List PassState). length l) is ∙ (length-map worked own_of ∙ c.requires.worked.0),
      subst (λ l. EachAt Takes l) (sym is) (EachAt-map own_of Takes worked (λ k w low d. (c.requires.worked.1 k w low d).took_only)),
    )

pub returns : goal.returns
returns g c =
    let items = c.args.to_close.to_end.lanes.items in
    let worked = c.args.back.worked.items in
    let own_of : Worker g.row.L.Denot → PassState = λ w. w.pass in
    let worker_of : Worker g.row.L.Denot → WorkerState = λ w. record { taken = w.pass.taken; seat = w.seat } in
    let taken_of : PassState → List Job = λ t. t.taken in
    let count : WorkerState → ℕ = λ w. w.seat.count in
    let refused : WorkerState → ℕ = λ w. w.seat.refused in
    let end = c.end_lanes-outcomes.result in
    let taken : map taken_of c.close_hub-hub.result.passes.items ≡ taken_lists (map worker_of worked) =
    ap (λ l. map taken_of l) c.close_hub-hub.ensures.passes ∙ (map-map taken_of own_of worked ∙ sym (map-map (λ (w : WorkerState). w.taken) worker_of worked)) in
    record {
      worked = map worker_of worked;
      run = c.close_hub-hub.ensures.run;
      sum_is = (let long = c.close_hub-hub.ensures.sum in omega (arith, long));
      ends_are = c.end_lanes-outcomes.ensures.ends;
      tallies_are = c.end_lanes-outcomes.ensures.tallies;
      kept = subst (λ t. AreKept (length items) (map (λ (r : Served). r.pass.put) c.args.back.served.items) t end.left.items) taken c.end_lanes-outcomes.ensures.kept;
      makes_calls = EachAt-map worker_of (λ k w. MakesCalls w) worked (λ k w low few. let made = (c.requires.worked.1 k w low (new_lane no_inbox 0)).made few in omega (arith, made));
      calls = sym (sum_of_map count worker_of worked) ∙ c.close_hub-hub.ensures.calls;
      faults = sym (sum_of_map refused worker_of worked) ∙ c.close_hub-hub.ensures.faults;
    }
