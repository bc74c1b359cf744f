use Rattle.hub_workers.proofs.Common.{rules, arith, ap, sym, ◌∙◌, ◌≡◌, List, [], ◌∷◌, ◌++◌, length, map, map-id, map-append, length-map, YieldsList-turn, YieldsList-end, YieldsList-from_vec, PassState, SeatState, Worker}
use Rattle.hub_workers.proofs.closing.split_workers.Goals as goal

pub push_reserved-requires : goal.push_reserved-requires
push_reserved-requires g c =
    let pass_of : Worker g.row.L.Denot → PassState = λ w. w.pass in
    let turn = (YieldsList-turn (YieldsList-from_vec c.args.workers.items c.into_iter-back-iterator.ensures.into_iter_gives.0 (c.into_iter-back-iterator.ensures.into_iter_gives.1 ∙ c.args.workers.ok.0)) c.loop-back.yielded c.loop-back.back-iterator c.loop-back.yielded_by c.next.result c.next.new.self c.in-Some.back c.in-Some.is c.next.ensures.steps).0 in
    let passes : length c.loop-back.passes.items ≡ length c.loop-back.yielded = ap (λ (l : List PassState). length l) c.loop-back.invariant.0 ∙ length-map c.loop-back.yielded pass_of in
    let ok = c.loop-back.passes.ok.0 in
    let same = c.loop-back.invariant.2 in
    let room = c.requires.passes.room in
    let listed = c.args.workers.ok.0 in
    omega (arith, turn, passes, ok, same, room, listed)

pub push_reserved-requires-in-loop-back : goal.push_reserved-requires-in-loop-back
push_reserved-requires-in-loop-back g c =
    let seat_of : Worker g.row.L.Denot → SeatState = λ w. w.seat in
    let turn = (YieldsList-turn (YieldsList-from_vec c.args.workers.items c.into_iter-back-iterator.ensures.into_iter_gives.0 (c.into_iter-back-iterator.ensures.into_iter_gives.1 ∙ c.args.workers.ok.0)) c.loop-back.yielded c.loop-back.back-iterator c.loop-back.yielded_by c.next.result c.next.new.self c.in-Some.back c.in-Some.is c.next.ensures.steps).0 in
    let seats : length c.loop-back.seats.items ≡ length c.loop-back.yielded = ap (λ (l : List SeatState). length l) c.loop-back.invariant.1 ∙ length-map c.loop-back.yielded seat_of in
    let ok = c.loop-back.seats.ok.0 in
    let same = c.loop-back.invariant.3 in
    let room = c.requires.seats.room in
    let listed = c.args.workers.ok.0 in
    omega (arith, turn, seats, ok, same, room, listed)

pub loop-back-preserved : goal.loop-back-preserved
loop-back-preserved g c =
    let yielded = c.loop-back.yielded in
    let back = c.in-Some.back in
    let pass_of : Worker g.row.L.Denot → PassState = λ w. w.pass in
    let seat_of : Worker g.row.L.Denot → SeatState = λ w. w.seat in
    let passed : c.push_reserved.new.self.items ≡ c.loop-back.passes.items ++ back.pass ∷ [] = search rules in
    let seated : c.push_reserved-in-loop-back.new.self.items ≡ c.loop-back.seats.items ++ back.seat ∷ [] = search rules in (
      passed ∙ (ap (λ (l : List PassState). l ++ back.pass ∷ []) c.loop-back.invariant.0 ∙ sym (map-append pass_of yielded (back ∷ []))),
      seated ∙ (ap (λ (l : List SeatState). l ++ back.seat ∷ []) c.loop-back.invariant.1 ∙ sym (map-append seat_of yielded (back ∷ []))),
      c.push_reserved.ensures.capacity ∙ c.loop-back.invariant.2,
      c.push_reserved-in-loop-back.ensures.capacity ∙ c.loop-back.invariant.3,
    )

pub returns : goal.returns
returns g c =
    let all : c.loop-back.yielded ≡ c.args.workers.items = sym (map-id c.loop-back.yielded) ∙ (YieldsList-end (YieldsList-from_vec c.args.workers.items c.into_iter-back-iterator.ensures.into_iter_gives.0 (c.into_iter-back-iterator.ensures.into_iter_gives.1 ∙ c.args.workers.ok.0)) c.loop-back.yielded c.loop-back.back-iterator c.loop-back.yielded_by c.next.result c.next.new.self c.in-None.is c.next.ensures.steps).0 in
    let pass_of : Worker g.row.L.Denot → PassState = λ w. w.pass in
    let seat_of : Worker g.row.L.Denot → SeatState = λ w. w.seat in
    record {
      passes = c.loop-back.invariant.0 ∙ ap (λ l. map pass_of l) all;
      seats = c.loop-back.invariant.1 ∙ ap (λ l. map seat_of l) all;
      room = c.loop-back.invariant.3;
    }
