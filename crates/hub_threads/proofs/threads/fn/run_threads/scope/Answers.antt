use Rattle.hub_threads.proofs.Common.{rules, arith, ap, sym, refl, subst, true, ◌∙◌, ◌≡◌, ℕ, ◌+◌, ◌%◌, ◌≤◌, [], ◌∷◌, ◌++◌, length, length-append, vec_len, vec_capacity, map-id, YieldsList-turn, YieldsList-end, YieldsList-from_vec, PromisedHandle, PassState, LaneState, get_or, SessionStart, Served, IsPassOf, EachPair, IsServiceOf, ServedBy, WorkedBy, IsWorkOf}
use Rattle.hub_threads.proofs.ThreadLemmas.{through, another_handle, never_both}
use Rattle.hub_threads.proofs.threads.fn.run_threads.scope.Goals as goal
use Rattle.hub_threads.proofs.threads.fn.run_threads.scope.Goals.{in-Ok, in-Err, in-Ok-spawn_with, in-Err-spawn_with}

pub loop-start-init : goal.loop-start-init
loop-start-init g c =
    let none = c.requires.3.empty in
    let long = c.captures.working.ok.0 in
    let empty : length c.captures.working.items ≡ 0 = ap length none in
    (refl, omega (arith, empty, long), refl, λ yes. (empty, λ k d e low. absurd (omega (arith, low))))

pub bounds-lanes-lane : goal.bounds-lanes-lane
bounds-lanes-lane g c =
    let turn = (YieldsList-turn (YieldsList-from_vec c.captures.workers.items c.into_iter-start-iterator.ensures.into_iter_gives.0 (c.into_iter-start-iterator.ensures.into_iter_gives.1 ∙ c.captures.workers.ok.0)) c.loop-start.yielded c.loop-start.start-iterator c.loop-start.yielded_by c.next.result c.next.new.self c.in-Some.start c.in-Some.is c.next.ensures.steps).0 in
    let at = c.loop-start.invariant.0 in
    let many = c.requires.0.worker_count in
    omega (arith, turn, at, many)

pub offset_bounds-lanes-lane : goal.offset_bounds-lanes-lane
offset_bounds-lanes-lane g c =
    let inside = bounds-lanes-lane g c in
    let few = c.requires.0.few_lanes in
    omega (arith, inside, few)

pub spawn_with-requires-clause-runs : goal.spawn_with-requires-clause-runs
spawn_with-requires-clause-runs g c =
    let lanes = c.captures.lanes.now in
    let n = length c.loop-start.yielded in
    let start = c.in-Some.start in
    let turn = YieldsList-turn (YieldsList-from_vec c.captures.workers.items c.into_iter-start-iterator.ensures.into_iter_gives.0 (c.into_iter-start-iterator.ensures.into_iter_gives.1 ∙ c.captures.workers.ok.0)) c.loop-start.yielded c.loop-start.start-iterator c.loop-start.yielded_by c.next.result c.next.new.self start c.in-Some.is c.next.ensures.steps in
    let P : g.row.W.Denot → Type 0 = λ s. g.W.Work.can_begin s × IsPassOf lanes n (g.W.Work.pass s) in
    let known = subst P (sym turn.1) (c.requires.0.workers_are n start turn.0) in
    let r = c.index-lanes-lane.result in
    let a = ap (λ (t : PassState). t.inbox) (known.1 r) in
    let b = c.loop-start.invariant.0 in
    let i = c.index-lanes-lane.is in
    let e = c.jobs-jobs.ensures in
    λ κs h. (known.0, cc (a, b, i, e))

pub push_reserved-requires : goal.push_reserved-requires
push_reserved-requires g c =
    let turn = (YieldsList-turn (YieldsList-from_vec c.captures.workers.items c.into_iter-start-iterator.ensures.into_iter_gives.0 (c.into_iter-start-iterator.ensures.into_iter_gives.1 ∙ c.captures.workers.ok.0)) c.loop-start.yielded c.loop-start.start-iterator c.loop-start.yielded_by c.next.result c.next.new.self c.in-Some.start c.in-Some.is c.next.ensures.steps).0 in
    let short = c.loop-start.invariant.1 in
    let same = c.loop-start.invariant.2 in
    let room = c.requires.3.room in
    let listed = c.captures.workers.ok.0 in
    omega (arith, turn, short, same, room, listed)

pub overflow_add-lane : goal.overflow_add-lane
overflow_add-lane g c =
    let turn = (YieldsList-turn (YieldsList-from_vec c.captures.workers.items c.into_iter-start-iterator.ensures.into_iter_gives.0 (c.into_iter-start-iterator.ensures.into_iter_gives.1 ∙ c.captures.workers.ok.0)) c.loop-start.yielded c.loop-start.start-iterator c.loop-start.yielded_by c.next.result c.next.new.self c.in-Some.start c.in-Some.is c.next.ensures.steps).0 in
    let at = c.loop-start.invariant.0 in
    let many = c.requires.0.worker_count in
    let few = c.requires.0.few_lanes in
    omega (arith, turn, at, many, few)

pub loop-start-preserved : goal.loop-start-preserved
loop-start-preserved g c =
    let start = c.in-Some.start in
    let yielded = c.loop-start.yielded in
    let longer = length-append yielded (start ∷ []) in
    let Handle : Type 0 = PromisedHandle g.row.W.Denot (WorkedBy g.row.W.Denot g.row.C.Denot) in
    let kept : (vec_len c.match-spawn_with.working ≤ vec_len c.loop-start.working + 1) × (vec_capacity c.match-spawn_with.working ≡ vec_capacity c.loop-start.working)
    × (c.match-spawn_with.all_started ≡ true → (c.loop-start.all_started ≡ true) × ((h : Handle) × (c.match-spawn_with.working.items ≡ c.loop-start.working.items ++ h ∷ []) × (h.promise.began.value ≡ start))) =
    elim c.match-spawn_with.branch [
      | in-Ok w ↦ (search rules, search rules, λ yes. (search rules, (w.in-Ok.thread, search rules, search rules)))
      | in-Err w ↦ (search rules, search rules, λ yes. never_both c.match-spawn_with.all_started yes w.all_started-is)
    ] in
    let at = c.loop-start.invariant.0 in
    let short = c.loop-start.invariant.1 in
    let same = c.loop-start.invariant.2 in
    let a = kept.0 in
    let b = kept.1 in
    let P : ℕ → g.row.W.Denot → Handle → Type 0 = λ k s h. h.promise.began.value ≡ s in (
      omega (arith, longer, at),
      omega (arith, longer, short, a),
      omega (arith, same, b),
      λ yes. another_handle P yielded start c.loop-start.working.items c.match-spawn_with.working.items (c.loop-start.invariant.3 (kept.2 yes).0) (kept.2 yes).1,
    )

pub loop-start-2-init : goal.loop-start-2-init
loop-start-2-init g c =
    let none = c.requires.2.empty in
    let long = c.captures.serving.ok.0 in
    let empty : length c.captures.serving.items ≡ 0 = ap length none in
    (refl, omega (arith, empty, long), refl, λ yes. (yes, (empty, λ k d e low. absurd (omega (arith, low)))))

pub bounds-answers-place : goal.bounds-answers-place
bounds-answers-place g c =
    let turn = (YieldsList-turn (YieldsList-from_vec c.captures.sessions.items c.into_iter-start-iterator-2.ensures.into_iter_gives.0 (c.into_iter-start-iterator-2.ensures.into_iter_gives.1 ∙ c.captures.sessions.ok.0)) c.loop-start-2.yielded c.loop-start-2.start-iterator c.loop-start-2.yielded_by c.next-in-loop-start-2.result c.next-in-loop-start-2.new.self c.in-Some-start.start c.in-Some-start.is c.next-in-loop-start-2.ensures.steps).0 in
    let at = c.loop-start-2.invariant.0 in
    let many = c.requires.1 in
    omega (arith, turn, at, many)

pub offset_bounds-answers-place : goal.offset_bounds-answers-place
offset_bounds-answers-place g c =
    let inside = bounds-answers-place g c in
    let few = c.requires.0.few_sessions in
    let many = c.requires.1 in
    omega (arith, inside, few, many)

pub spawn_with-requires-in-loop-start-2-clause-runs : goal.spawn_with-requires-in-loop-start-2-clause-runs
spawn_with-requires-in-loop-start-2-clause-runs g c =
    let lanes = c.captures.lanes.now in
    let n = length c.loop-start-2.yielded in
    let start = c.in-Some-start.start in
    let turn = YieldsList-turn (YieldsList-from_vec c.captures.sessions.items c.into_iter-start-iterator-2.ensures.into_iter_gives.0 (c.into_iter-start-iterator-2.ensures.into_iter_gives.1 ∙ c.captures.sessions.ok.0)) c.loop-start-2.yielded c.loop-start-2.start-iterator c.loop-start-2.yielded_by c.next-in-loop-start-2.result c.next-in-loop-start-2.new.self start c.in-Some-start.is c.next-in-loop-start-2.ensures.steps in
    let P : SessionStart g.row.S.Denot g.row.K.Denot → Type 0 = λ s. (s.session ≡ n) × IsPassOf lanes (n % length lanes) s.pass in
    let known = subst P (sym turn.1) (c.requires.0.sessions_are n start turn.0) in
    let r = c.index-lanes-place.result in
    let a = ap (λ (t : PassState). t.inbox) (known.1 r) in
    let b = c.loop-start-2.invariant.0 in
    let i = c.index-lanes-place.is in
    let e = c.jobs-jobs-in-loop-start-2.ensures in
    let at : get_or lanes (c.loop-start-2.place % length lanes) r ≡ r = sym i in
    let here = ap (λ k. (get_or lanes (k % length lanes) r).id) (sym b) in
    λ κs h. (a ∙ (here ∙ (ap (λ (l : LaneState). l.id) at ∙ sym e)), ap (λ (t : PassState). t.put) (known.1 r))

pub push_reserved-requires-in-Ok-spawn_with : goal.push_reserved-requires-in-Ok-spawn_with
push_reserved-requires-in-Ok-spawn_with g c =
    let turn = (YieldsList-turn (YieldsList-from_vec c.captures.sessions.items c.into_iter-start-iterator-2.ensures.into_iter_gives.0 (c.into_iter-start-iterator-2.ensures.into_iter_gives.1 ∙ c.captures.sessions.ok.0)) c.loop-start-2.yielded c.loop-start-2.start-iterator c.loop-start-2.yielded_by c.next-in-loop-start-2.result c.next-in-loop-start-2.new.self c.in-Some-start.start c.in-Some-start.is c.next-in-loop-start-2.ensures.steps).0 in
    let short = c.loop-start-2.invariant.1 in
    let same = c.loop-start-2.invariant.2 in
    let room = c.requires.2.room in
    let listed = c.captures.sessions.ok.0 in
    omega (arith, turn, short, same, room, listed)

pub overflow_add-place : goal.overflow_add-place
overflow_add-place g c =
    let turn = (YieldsList-turn (YieldsList-from_vec c.captures.sessions.items c.into_iter-start-iterator-2.ensures.into_iter_gives.0 (c.into_iter-start-iterator-2.ensures.into_iter_gives.1 ∙ c.captures.sessions.ok.0)) c.loop-start-2.yielded c.loop-start-2.start-iterator c.loop-start-2.yielded_by c.next-in-loop-start-2.result c.next-in-loop-start-2.new.self c.in-Some-start.start c.in-Some-start.is c.next-in-loop-start-2.ensures.steps).0 in
    let at = c.loop-start-2.invariant.0 in
    let few = c.requires.0.few_sessions in
    omega (arith, turn, at, few)

pub loop-start-2-preserved : goal.loop-start-2-preserved
loop-start-2-preserved g c =
    let start = c.in-Some-start.start in
    let yielded = c.loop-start-2.yielded in
    let longer = length-append yielded (start ∷ []) in
    let Handle : Type 0 = PromisedHandle Served (ServedBy g.row.H.Denot g.row.S.Denot g.row.K.Denot) in
    let kept : (vec_len c.match-spawn_with-3.serving ≤ vec_len c.loop-start-2.serving + 1) × (vec_capacity c.match-spawn_with-3.serving ≡ vec_capacity c.loop-start-2.serving)
    × (c.match-spawn_with-3.all_started ≡ true → (c.loop-start-2.all_started ≡ true) × ((h : Handle) × (c.match-spawn_with-3.serving.items ≡ c.loop-start-2.serving.items ++ h ∷ []) × (h.promise.start.value ≡ start))) =
    elim c.match-spawn_with-3.branch [
      | in-Ok-spawn_with w ↦ (search rules, search rules, λ yes. (search rules, (w.in-Ok-spawn_with.thread, search rules, search rules)))
      | in-Err-spawn_with w ↦ (search rules, search rules, λ yes. never_both c.match-spawn_with-3.all_started yes w.all_started-is)
    ] in
    let at = c.loop-start-2.invariant.0 in
    let short = c.loop-start-2.invariant.1 in
    let same = c.loop-start-2.invariant.2 in
    let a = kept.0 in
    let b = kept.1 in
    let P : ℕ → SessionStart g.row.S.Denot g.row.K.Denot → Handle → Type 0 = λ k s h. h.promise.start.value ≡ s in (
      omega (arith, longer, at),
      omega (arith, longer, short, a),
      omega (arith, same, b),
      λ yes.
          let old = c.loop-start-2.invariant.3 (kept.2 yes).0 in
          (old.0, another_handle P yielded start c.loop-start-2.serving.items c.match-spawn_with-3.serving.items old.1 (kept.2 yes).1),
    )

-- so many threads at most are joined as there is room for
pub join_all-back-requires : goal.join_all-back-requires
join_all-back-requires g c =
    let posted : c.loop-start.yielded ≡ c.captures.workers.items = sym (map-id c.loop-start.yielded) ∙ (YieldsList-end (YieldsList-from_vec c.captures.workers.items c.into_iter-start-iterator.ensures.into_iter_gives.0 (c.into_iter-start-iterator.ensures.into_iter_gives.1 ∙ c.captures.workers.ok.0)) c.loop-start.yielded c.loop-start.start-iterator c.loop-start.yielded_by c.next.result c.next.new.self c.in-None.is c.next.ensures.steps).0 in
    let seated : c.loop-start-2.yielded ≡ c.captures.sessions.items = sym (map-id c.loop-start-2.yielded) ∙ (YieldsList-end (YieldsList-from_vec c.captures.sessions.items c.into_iter-start-iterator-2.ensures.into_iter_gives.0 (c.into_iter-start-iterator-2.ensures.into_iter_gives.1 ∙ c.captures.sessions.ok.0)) c.loop-start-2.yielded c.loop-start-2.start-iterator c.loop-start-2.yielded_by c.next-in-loop-start-2.result c.next-in-loop-start-2.new.self c.in-None-start.is c.next-in-loop-start-2.ensures.steps).0 in
    let all_workers = ap (λ l. length l) posted in
    let all_sessions = ap (λ l. length l) seated in
    let few = c.loop-start.invariant.1 in
    let served_few = c.loop-start-2.invariant.1 in
    let workers = c.captures.workers.ok.0 in
    let sessions = c.captures.sessions.ok.0 in
    let room = c.in_ok-room.ensures.served.room in
    let worked_room = c.in_ok-room.ensures.worked.room in
    record {
      served = record { empty = c.in_ok-room.ensures.served.empty; room = omega (arith, all_sessions, served_few, sessions, room) };
      worked = record { empty = c.in_ok-room.ensures.worked.empty; room = omega (arith, all_workers, few, workers, worked_room) };
    }

-- at the end the handles are those of all workers and all sessions
pub returns-then-all_started : goal.returns-then-all_started
returns-then-all_started g c =
    let HandleW : Type 0 = PromisedHandle g.row.W.Denot (WorkedBy g.row.W.Denot g.row.C.Denot) in
    let HandleS : Type 0 = PromisedHandle Served (ServedBy g.row.H.Denot g.row.S.Denot g.row.K.Denot) in
    let Post : Type 0 = g.row.W.Denot in
    let Seat : Type 0 = SessionStart g.row.S.Denot g.row.K.Denot in
    let posted : c.loop-start.yielded ≡ c.captures.workers.items = sym (map-id c.loop-start.yielded) ∙ (YieldsList-end (YieldsList-from_vec c.captures.workers.items c.into_iter-start-iterator.ensures.into_iter_gives.0 (c.into_iter-start-iterator.ensures.into_iter_gives.1 ∙ c.captures.workers.ok.0)) c.loop-start.yielded c.loop-start.start-iterator c.loop-start.yielded_by c.next.result c.next.new.self c.in-None.is c.next.ensures.steps).0 in
    let seated : c.loop-start-2.yielded ≡ c.captures.sessions.items = sym (map-id c.loop-start-2.yielded) ∙ (YieldsList-end (YieldsList-from_vec c.captures.sessions.items c.into_iter-start-iterator-2.ensures.into_iter_gives.0 (c.into_iter-start-iterator-2.ensures.into_iter_gives.1 ∙ c.captures.sessions.ok.0)) c.loop-start-2.yielded c.loop-start-2.start-iterator c.loop-start-2.yielded_by c.next-in-loop-start-2.result c.next-in-loop-start-2.new.self c.in-None-start.is c.next-in-loop-start-2.ensures.steps).0 in
    let PW : ℕ → Post → HandleW → Type 0 = λ k s h. h.promise.began.value ≡ s in
    let Works : Post → Post → Type 0 = IsWorkOf g.W.Work.pass g.W.Work.has_worked in
    let PS : ℕ → Seat → HandleS → Type 0 = λ k s h. h.promise.start.value ≡ s in
    let Keeps : Seat → Served → Type 0 = IsServiceOf g.H.Serve.has_served in
    let both = c.loop-start-2.invariant.3 c.if-all_started.true in
    let served = c.join_all-back.ensures.served in
    let worked = c.join_all-back.ensures.worked in
    let b = c.join_all-back.result in
    let handles : EachPair PS c.captures.sessions.items c.loop-start-2.serving.items = subst (λ l. EachPair PS l c.loop-start-2.serving.items) seated both.1 in
    let hands : EachPair PW c.captures.workers.items c.loop-start.working.items = subst (λ l. EachPair PW l c.loop-start.working.items) posted (c.loop-start.invariant.3 both.0) in (
      through (λ k s. Unit {0}) PS (λ i h r. Keeps h.promise.start.value r) (λ i s r. Keeps s r)
          (λ i s h r a p q. subst (λ t. Keeps t r) p q)
          c.captures.sessions.items c.loop-start-2.serving.items b.served.items (λ k d low. tt) handles served,
      through (λ k s. Unit {0}) PW (λ k h r. Works h.promise.began.value r) (λ k s r. Works s r)
          (λ k s h r a p q. subst (λ t. Works t r) p q)
          c.captures.workers.items c.loop-start.working.items b.worked.items (λ k d low. tt) hands worked,
    )
