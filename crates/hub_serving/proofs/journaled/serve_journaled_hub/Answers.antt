use Rattle.hub_serving.proofs.Common.{arith, ap, sym, subst, ◌∙◌, ◌≡◌, ℕ, ◌+◌, ◌-◌, ◌≤◌, List, [], ◌∷◌, ◌++◌, length, map, Vec, Global, vec_len, get_or, length-append, sum_by-cons, Entry, Job, PassState, new_pass, Served, LaneState, EachAt, IsPassOf, new_lane, no_inbox, lane_capacity, TakesOnly, IsRun, JournaledHub, history_of, journal_of, JournalWorker, IsReady, WorkerState, MakesCalls, AreKept}
use Rattle.hub_serving.proofs.OnlyLemmas.{only_item, none_before, one_each, only_each, each_only}
use Rattle.hub_serving.proofs.PlaceLemmas.{sessions_begin, handed_out, hands_back, gave_back}
use Rattle.hub_serving.proofs.JournaledLemmas.{only_work, grown_back, keeps_back}
use Rattle.hub_serving.proofs.journaled.serve_journaled_hub.Goals as goal

pub run_lanes-requires-clause-begins : goal.run_lanes-requires-clause-begins
run_lanes-requires-clause-begins g c =
    let places = c.in_ok-lanes.field-0 in
    let known = c.in_ok-lanes.ensures in
    let lanes = places.lanes in
    let size : length lanes.items ≡ 1 = sym lanes.ok.0 ∙ known.counts.0 in
    let served = places.sessions.ok.0 in
    let all_sessions = known.counts.2 in
    let few_sessions = c.requires.sessions in
    let pass = c.take_last.result in
    let listed = places.passes.ok.0 in
    let one_pass = known.counts.1 in
    let only : places.passes.items ≡ pass ∷ [] = only_item places.passes.items c.take_last.new.self.items pass c.take_last.ensures.items (omega (arith, listed, one_pass)) in
    let own : IsPassOf lanes.items 0 pass = each_only (λ k t. IsPassOf lanes.items k t) places.passes.items pass only known.passes in
    let made = c.in_ok-workers.ensures in
    let worker = made.0 in
    λ κs h. record {
      some_lanes = omega (arith, size);
      few_lanes = omega (arith, size);
      few_sessions = omega (arith, served, all_sessions, few_sessions);
      worker_count = ap (λ (l : List (JournalWorker g.row.F.Denot)). length l) made.1 ∙ sym size;
      workers_are = only_each (λ k (w : JournalWorker g.row.F.Denot). IsReady {F = g.row.F.Denot} w × IsPassOf lanes.items k w.pass) c.in_ok-workers.workers.items worker made.1 (made.2, λ d. made.3 ∙ own d);
      sessions_are = sessions_begin lanes.items 1 places.sessions.items size known.sessions;
    }

pub run_lanes-requires-clause-few : goal.run_lanes-requires-clause-few
run_lanes-requires-clause-few g c =
    let same = c.in_ok-lanes.ensures.counts.2 in
    let few = c.requires.sessions in
    λ κs h. omega (arith, same, few)

pub end_lanes-outcomes-requires-clause-lanes : goal.end_lanes-outcomes-requires-clause-lanes
end_lanes-outcomes-requires-clause-lanes g c =
    let places = c.in_ok-lanes.field-0 in
    let known = c.in_ok-lanes.ensures in
    let lanes = places.lanes in
    let run = c.in_ok-to_end.field-0 in
    let sessions = vec_len c.args.sessions in
    handed_out (λ k. lane_capacity k 1 sessions) lanes.items run.to_end.lanes.items 1 places.sessions.items run.back.served.items
    known.lanes (ap (λ (v : Vec LaneState Global). v.items) c.in_ok-to_end.ensures.lanes) (sym lanes.ok.0 ∙ known.counts.0) c.in_ok-to_end.ensures.served.0

pub end_lanes-outcomes-requires-clause-hands : goal.end_lanes-outcomes-requires-clause-hands
end_lanes-outcomes-requires-clause-hands g c =
    let places = c.in_ok-lanes.field-0 in
    let known = c.in_ok-lanes.ensures in
    let lanes = places.lanes in
    let run = c.in_ok-to_end.field-0 in
    hands_back g.H.Serve.has_served lanes.items run.to_end.lanes.items 1 places.sessions.items run.back.served.items
    known.sessions c.in_ok-to_end.ensures.served (ap (λ (v : Vec LaneState Global). v.items) c.in_ok-to_end.ensures.lanes) (sym lanes.ok.0 ∙ known.counts.0)

pub end_lanes-outcomes-requires-clause-passes : goal.end_lanes-outcomes-requires-clause-passes
end_lanes-outcomes-requires-clause-passes g c =
    let lanes = c.in_ok-lanes.field-0.lanes in
    let opened = c.in_ok-to_end.field-0.to_end.lanes.items in
    let same : opened ≡ lanes.items = ap (λ (v : Vec LaneState Global). v.items) c.in_ok-to_end.ensures.lanes in
    let size : length lanes.items ≡ 1 = sym lanes.ok.0 ∙ c.in_ok-lanes.ensures.counts.0 in
    let passes = c.in_ok-lanes.field-0.passes in
    let pass = c.take_last.result in
    let listed = passes.ok.0 in
    let one_pass = c.in_ok-lanes.ensures.counts.1 in
    let only : passes.items ≡ pass ∷ [] = only_item passes.items c.take_last.new.self.items pass c.take_last.ensures.items (omega (arith, listed, one_pass)) in
    let own : IsPassOf lanes.items 0 pass = each_only (λ k t. IsPassOf lanes.items k t) passes.items pass only c.in_ok-lanes.ensures.passes in
    let made = c.in_ok-workers.ensures in
    let worker = made.0 in
    let w = c.take_last-worker.result in
    let back = c.in_ok-to_end.field-0.back.worked.items in
    let work = only_work c.in_ok-workers.workers.items back c.take_last-worker.new.self.items worker w made.1 c.take_last-worker.ensures.items c.in_ok-to_end.ensures.worked in
    let left = c.take_last.ensures.len in
    let rest = c.take_last.new.self.ok.0 in
    let none : c.take_last.new.self.items ≡ [] = none_before c.take_last.new.self.items (omega (arith, left, rest, one_pass)) in
    let again = c.into_parts-pass.result.0 in
    let items : c.push_reserved.new.self.items ≡ again ∷ [] = c.push_reserved.ensures.items ∙ ap (λ (l : List PassState). l ++ again ∷ []) none in
    let takes : (d : LaneState) → TakesOnly (new_pass (get_or lanes.items 0 d).id 1) again =
    λ d. subst (λ (t : PassState). TakesOnly (new_pass (get_or lanes.items 0 d).id 1) t) (sym c.into_parts-pass.ensures.pass)
    (work.takes_only ∙ ap (λ (t : PassState). record t { taken = w.pass.taken }) (made.3 ∙ own d)) in
    let known : EachAt (λ k (t : PassState). (d : LaneState) → TakesOnly (new_pass (get_or lanes.items k d).id 1) t) c.push_reserved.new.self.items =
    only_each (λ k (t : PassState). (d : LaneState) → TakesOnly (new_pass (get_or lanes.items k d).id 1) t) c.push_reserved.new.self.items again items takes in
    subst (λ l. (length c.push_reserved.new.self.items ≡ length l) × EachAt (λ k (t : PassState). (d : LaneState) → TakesOnly (new_pass (get_or l k d).id 1) t) c.push_reserved.new.self.items) (sym same) (
      ap (λ (l : List PassState). length l) items ∙ sym size,
      known,
    )

pub overflow_sub-sum : goal.overflow_sub-sum
overflow_sub-sum g c =
    let made = c.in_ok-workers.ensures in
    let worker = made.0 in
    let w = c.take_last-worker.result in
    let back = c.in_ok-to_end.field-0.back.worked.items in
    let work = only_work c.in_ok-workers.workers.items back c.take_last-worker.new.self.items worker w made.1 c.take_last-worker.ensures.items c.in_ok-to_end.ensures.worked in
    let hub = c.into_parts-pass.result.1 in
    let same = c.into_parts-pass.ensures.hub in
    let grown = grown_back {F = g.row.F.Denot} c.args.hub worker w (history_of hub) (journal_of hub) made.4 work.worked (ap (λ (h : JournaledHub g.row.F.Denot). history_of h) same) (ap (λ (h : JournaledHub g.row.F.Denot). journal_of h) same) in
    let long = ap (λ (l : List Entry). length l) grown.1 in
    let more = length-append (history_of c.args.hub) grown.0 in
    let before = c.len-earlier.ensures in
    let now = c.len.ensures in
    omega (arith, long, more, before, now)

pub returns : goal.returns
returns g c =
    let places = c.in_ok-lanes.field-0 in
    let lanes = places.lanes in
    let served = c.in_ok-to_end.field-0.back.served.items in
    let opened = c.in_ok-to_end.field-0.to_end in
    let same : length opened.lanes.items ≡ length lanes.items = ap (λ (v : Vec LaneState Global). length v.items) c.in_ok-to_end.ensures.lanes in
    let size : length opened.lanes.items ≡ 1 = same ∙ (sym lanes.ok.0 ∙ c.in_ok-lanes.ensures.counts.0) in
    let passes = places.passes in
    let pass = c.take_last.result in
    let listed = passes.ok.0 in
    let one_pass = c.in_ok-lanes.ensures.counts.1 in
    let only : passes.items ≡ pass ∷ [] = only_item passes.items c.take_last.new.self.items pass c.take_last.ensures.items (omega (arith, listed, one_pass)) in
    let own : IsPassOf lanes.items 0 pass = each_only (λ k t. IsPassOf lanes.items k t) passes.items pass only c.in_ok-lanes.ensures.passes in
    let made = c.in_ok-workers.ensures in
    let worker = made.0 in
    let w = c.take_last-worker.result in
    let back = c.in_ok-to_end.field-0.back.worked.items in
    let work = (only_work c.in_ok-workers.workers.items back c.take_last-worker.new.self.items worker w made.1 c.take_last-worker.ensures.items c.in_ok-to_end.ensures.worked).worked in
    let none_taken : worker.pass.taken ≡ [] = ap (λ (t : PassState). t.taken) (made.3 ∙ own (new_lane no_inbox 0)) in
    let jobs_taken : w.pass.taken ≡ work.jobs = ap (λ (t : PassState). t.taken) work.took_only ∙ ap (λ (l : List Job). l ++ work.jobs) none_taken in
    let left = c.take_last.ensures.len in
    let rest = c.take_last.new.self.ok.0 in
    let none : c.take_last.new.self.items ≡ [] = none_before c.take_last.new.self.items (omega (arith, left, rest, one_pass)) in
    let again = c.into_parts-pass.result.0 in
    let items : c.push_reserved.new.self.items ≡ again ∷ [] = c.push_reserved.ensures.items ∙ ap (λ (l : List PassState). l ++ again ∷ []) none in
    let mid_is = c.into_parts-pass.ensures.hub in
    let hub = c.into_parts-hub.result.0 in
    let journal = c.into_parts-hub.result.1 in
    let hub_is : hub ≡ history_of w.hub = c.into_parts-hub.ensures.hub ∙ ap (λ (h : JournaledHub g.row.F.Denot). history_of h) mid_is in
    let journal_is : journal ≡ journal_of w.hub = c.into_parts-hub.ensures.journal ∙ ap (λ (h : JournaledHub g.row.F.Denot). journal_of h) mid_is in
    let sum : ℕ = c.len.result - c.len-earlier.result in
    let state : WorkerState = record { taken = w.pass.taken; seat = record { parts = 1; count = sum; refused = w.refused } } in
    let taken : map (λ (t : PassState). t.taken) c.push_reserved.new.self.items ≡ w.pass.taken ∷ [] =
    ap (λ l. map (λ (t : PassState). t.taken) l) items ∙ ap (λ (t : PassState). t.taken ∷ []) c.into_parts-pass.ensures.pass in
    let end = c.end_lanes-outcomes.result in
    let known = c.end_lanes-outcomes.ensures in
    let grown = grown_back {F = g.row.F.Denot} c.args.hub worker w hub journal made.4 work hub_is journal_is in
    let long = ap (λ (l : List Entry). length l) hub_is in
    let now = c.len.ensures in
    let mid_long = ap (λ (h : JournaledHub g.row.F.Denot). length (history_of h)) mid_is in
    let before = c.len-earlier.ensures in
    let began_long = ap (λ (h : JournaledHub g.row.F.Denot). length (history_of h)) made.4 in
    let all = ap (λ (l : List Entry). length l) grown.1 in
    let more = length-append (history_of c.args.hub) grown.0 in
    let fits : c.len-earlier.result ≤ c.len.result = omega (arith, all, more, before, now, mid_long, long) in
    let puts : List (List Job) = map (λ (r : Served). r.pass.put) served in
    record {
      served = record {
        served = served;
        given = gave_back g.H.Serve.has_served c.args.sessions.items lanes.items 1 places.sessions.items served c.in_ok-lanes.ensures.ends c.in_ok-lanes.ensures.sessions c.in_ok-to_end.ensures.served;
        hub = record {
          worked = state ∷ [];
          run = subst IsRun (sym c.into_parts-hub.ensures.hub) c.history_is_legal.ensures.run;
          sum_is = omega (arith, fits, long, now, mid_long);
          ends_are = known.ends;
          tallies_are = known.tallies;
          kept = subst (λ t. AreKept 1 puts t end.left.items) taken
              (subst (λ n. AreKept n puts (map (λ (t : PassState). t.taken) c.push_reserved.new.self.items) end.left.items) size known.kept);
          makes_calls = one_each (λ k (x : WorkerState). MakesCalls x) state (λ few.
              let counted = work.counted few in
              let jobs = ap (λ (l : List Job). length l) jobs_taken in
              let none_refused = made.5 in
              omega (arith, counted, jobs, fits, long, now, mid_long, before, began_long, none_refused));
          calls = (let one = sum_by-cons (λ (x : WorkerState). x.seat.count) state [] in omega (arith, one));
          faults = (let one = sum_by-cons (λ (x : WorkerState). x.seat.refused) state [] in omega (arith, one));
        };
      };
      earlier = before;
      journal = keeps_back {F = g.row.F.Denot} c.args.hub worker w hub journal made.4 work hub_is journal_is (w.pass.taken ∷ []) (ap (λ (l : List Job). l ∷ []) jobs_taken);
    }
