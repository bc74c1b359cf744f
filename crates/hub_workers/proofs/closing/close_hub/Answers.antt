use Rattle.hub_workers.proofs.Common.{rules, arith, ap, sym, subst, ◌∙◌, ◌≡◌, ℕ, ◌+◌, List, [], ◌∷◌, ◌++◌, length, map, sum_by, length-map, sum_by-append, sum_by-cons, SeatState, Worker}
use Rattle.hub_workers.proofs.SeatLemmas.{parts_sum, sum_of_map}
use Rattle.hub_workers.proofs.closing.close_hub.Goals as goal

pub split_workers-passes-requires : goal.split_workers-passes-requires
split_workers-passes-requires g c =
    let room = c.requires.seats.room in
    record { passes = c.requires.passes; seats = record { empty = c.requires.seats.empty; room = omega (arith, room) } }

pub push_reserved-requires : goal.push_reserved-requires
push_reserved-requires g c =
    let seat_of : Worker g.row.L.Denot → SeatState = λ w. w.seat in
    let worked = c.args.worked.items in
    let size = ap (λ (l : List SeatState). length l) c.split_workers-passes.ensures.seats in
    let mapped = length-map worked seat_of in
    let listed = c.args.worked.ok.0 in
    let same = c.split_workers-passes.ensures.room in
    let room = c.requires.seats.room in
    let ok = c.split_workers-passes.result.seats.ok.0 in
    omega (arith, size, mapped, listed, same, room, ok)

pub close-hub-requires : goal.close-hub-requires
close-hub-requires g c =
    let seat_of : Worker g.row.L.Denot → SeatState = λ w. w.seat in
    let parts : SeatState → ℕ = λ s. s.parts in
    let worked = c.args.worked.items in
    let seats : c.push_reserved.new.self.items ≡ map seat_of worked ++ c.args.seat ∷ [] = (let a : c.push_reserved.new.self.items ≡ c.split_workers-passes.result.seats.items ++ c.args.seat ∷ [] = search rules in a ∙ ap (λ l. l ++ c.args.seat ∷ []) c.split_workers-passes.ensures.seats) in
    let sums = parts_sum seat_of worked c.requires.own in
    let split = sum_by-append parts (map seat_of worked) (c.args.seat ∷ []) in
    let last = sum_by-cons parts c.args.seat [] in
    let seat : c.args.seat.parts ≡ 1 = ap parts c.requires.seat.0 in
    let all = c.requires.seat.1 in
    let sum : sum_by parts (map seat_of worked ++ c.args.seat ∷ []) ≡ g.L.Ledger.parts = omega (arith, sums, split, last, seat, all) in
    subst (λ l. sum_by parts l ≡ g.L.Ledger.parts) (sym seats) sum

pub returns : goal.returns
returns g c =
    let seat_of : Worker g.row.L.Denot → SeatState = λ w. w.seat in
    let count : SeatState → ℕ = λ s. s.count in
    let refused : SeatState → ℕ = λ s. s.refused in
    let worked = c.args.worked.items in
    let seats : c.push_reserved.new.self.items ≡ map seat_of worked ++ c.args.seat ∷ [] = (let a : c.push_reserved.new.self.items ≡ c.split_workers-passes.result.seats.items ++ c.args.seat ∷ [] = search rules in a ∙ ap (λ l. l ++ c.args.seat ∷ []) c.split_workers-passes.ensures.seats) in
    record {
      run = c.close-hub.ensures.run;
      sum = c.close-hub.ensures.length;
      calls =
          let sum = c.close-hub.ensures.sum in
          let all : sum_by count c.push_reserved.new.self.items ≡ sum_by count (map seat_of worked ++ c.args.seat ∷ []) = ap (λ l. sum_by count l) seats in
          let split = sum_by-append count (map seat_of worked) (c.args.seat ∷ []) in
          let last = sum_by-cons count c.args.seat [] in
          let none : c.args.seat.count ≡ 0 = ap count c.requires.seat.0 in
          let same : sum_by (λ (w : Worker g.row.L.Denot). w.seat.count) worked ≡ sum_by count (map seat_of worked) = sum_of_map count seat_of worked in
          omega (arith, sum, all, split, last, none, same);
      faults =
          let sum = c.add_refused-refused.ensures in
          let same : sum_by refused c.as_slice.result.now ≡ sum_by refused c.push_reserved.new.self.items = ap (λ l. sum_by refused l) c.as_slice.ensures.value in
          let all : sum_by refused c.push_reserved.new.self.items ≡ sum_by refused (map seat_of worked ++ c.args.seat ∷ []) = ap (λ l. sum_by refused l) seats in
          let split = sum_by-append refused (map seat_of worked) (c.args.seat ∷ []) in
          let last = sum_by-cons refused c.args.seat [] in
          let none : c.args.seat.refused ≡ 0 = ap refused c.requires.seat.0 in
          let each : sum_by (λ (w : Worker g.row.L.Denot). w.seat.refused) worked ≡ sum_by refused (map seat_of worked) = sum_of_map refused seat_of worked in
          omega (arith, sum, same, all, split, last, none, each);
      passes = c.split_workers-passes.ensures.passes;
    }
