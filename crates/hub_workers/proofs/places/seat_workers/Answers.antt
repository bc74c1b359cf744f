use Rattle.hub_workers.proofs.Common.{rules, arith, ap, sym, subst, ◌∙◌, ◌≡◌, ℕ, List, [], ◌∷◌, ◌++◌, length, length-append, map, map-append, map-id, YieldsList-turn, YieldsList-end, YieldsList-from_vec, PassState, SeatState, new_seat, EachAt, EachAt-push, Worker}
use Rattle.hub_workers.proofs.places.seat_workers.Goals as goal

pub split_seat-seat-requires : goal.split_seat-seat-requires
split_seat-seat-requires g c =
    let turn = (YieldsList-turn (YieldsList-from_vec c.args.passes.items c.into_iter-pass-iterator.ensures.into_iter_gives.0 (c.into_iter-pass-iterator.ensures.into_iter_gives.1 ∙ c.args.passes.ok.0)) c.loop-pass.yielded c.loop-pass.pass-iterator c.loop-pass.yielded_by c.next.result c.next.new.self c.in-Some.pass c.in-Some.is c.next.ensures.steps).0 in
    let left = c.loop-pass.invariant.2 in
    let all = ap (λ (s : SeatState). s.parts) c.requires in
    omega (arith, turn, left, all)

pub loop-pass-preserved : goal.loop-pass-preserved
loop-pass-preserved g c =
    let yielded = c.loop-pass.yielded in
    let pass = c.in-Some.pass in
    let workers = c.loop-pass.workers.items in
    let w : Worker g.row.L.Denot = record { pass = pass; seat = c.split_seat-seat.result } in
    let pass_of : Worker g.row.L.Denot → PassState = λ v. v.pass in
    let Seated : ℕ → Worker g.row.L.Denot → Type 0 = λ k v. v.seat ≡ new_seat 1 in
    let grown : c.push.new.self.items ≡ workers ++ w ∷ [] = search rules in
    let turn = (YieldsList-turn (YieldsList-from_vec c.args.passes.items c.into_iter-pass-iterator.ensures.into_iter_gives.0 (c.into_iter-pass-iterator.ensures.into_iter_gives.1 ∙ c.args.passes.ok.0)) c.loop-pass.yielded c.loop-pass.pass-iterator c.loop-pass.yielded_by c.next.result c.next.new.self c.in-Some.pass c.in-Some.is c.next.ensures.steps).0 in
    let longer = length-append yielded (pass ∷ []) in
    let left = c.loop-pass.invariant.2 in
    let all = ap (λ (s : SeatState). s.parts) c.requires in
    let cut = ap (λ (s : SeatState). s.parts) c.split_seat-seat.ensures.old in (
      ap (λ l. map pass_of l) grown ∙ (map-append pass_of workers (w ∷ []) ∙ ap (λ l. l ++ pass ∷ []) c.loop-pass.invariant.0),
      subst (EachAt Seated) (sym grown) (EachAt-push Seated workers w c.loop-pass.invariant.1 c.split_seat-seat.ensures.new),
      omega (arith, turn, longer, left, all, cut),
      ap (λ (s : SeatState). s.count) c.split_seat-seat.ensures.old ∙ c.loop-pass.invariant.3,
      ap (λ (s : SeatState). s.refused) c.split_seat-seat.ensures.old ∙ c.loop-pass.invariant.4,
    )

pub returns : goal.returns
returns g c =
    let all : c.loop-pass.yielded ≡ c.args.passes.items = sym (map-id c.loop-pass.yielded) ∙ (YieldsList-end (YieldsList-from_vec c.args.passes.items c.into_iter-pass-iterator.ensures.into_iter_gives.0 (c.into_iter-pass-iterator.ensures.into_iter_gives.1 ∙ c.args.passes.ok.0)) c.loop-pass.yielded c.loop-pass.pass-iterator c.loop-pass.yielded_by c.next.result c.next.new.self c.in-None.is c.next.ensures.steps).0 in
    let left = c.loop-pass.invariant.2 in
    let whole = ap (λ (s : SeatState). s.parts) c.requires in
    let many = ap (λ (l : List PassState). length l) all in
    let one : c.loop-pass.seat.parts ≡ 1 = omega (arith, left, whole, many) in
    record {
      passes = c.loop-pass.invariant.0 ∙ all;
      seats = c.loop-pass.invariant.1;
      seat = λ i. record { parts = one i; count = c.loop-pass.invariant.3 i; refused = c.loop-pass.invariant.4 i };
    }
