use Rattle.hub_tables.proofs.Common.{◌≡◌, [], List, length, sym, ap, ◌∙◌, arith, update_all, into_iter_items, get, insert_all}
use Rattle.hub_tables.proofs.EntryLemmas.{nothing_left, entered_more, values_more}
use Rattle.hub_tables.proofs.accept.enter.Goals as goal

pub unwrap-before-requires : goal.unwrap-before-requires
unwrap-before-requires g c =
    let short = ap length c.in-Some.ensures.steps.0 in
    let room = c.loop-key.invariant.room in
    c.insert.ensures.succeeds (omega arith)

pub loop-key-preserved : goal.loop-key-preserved
loop-key-preserved g c =
    let at = c.loop-key in
    let steps = c.in-Some.ensures.steps.0 in
    let short = ap length steps in
    let room = at.invariant.room in
    let left = c.insert.ensures.spare in
    record {
      entered = entered_more g.K.PartialEq.eq c.args.table.now at.table c.insert.new.self c.args.entries.items _ (into_iter_items c.next.new.self) c.in-Some.key c.in-Some.value steps (rw c.unwrap-before.ensures at c.insert.ensures.entries) at.invariant.entered;
      values = values_more g.K.PartialEq.eq c.args.table.now at.table c.insert.new.self c.args.entries.items _ (into_iter_items c.next.new.self) c.in-Some.key c.in-Some.value steps (rw c.unwrap-before.ensures at c.insert.ensures.updates).0 at.invariant.values;
      room = omega arith;
      counted = let was = at.invariant.counted in let gone = c.in-Some.ensures.steps.1 in omega arith;
    }

pub loop-key-preserved-in-Some : goal.loop-key-preserved-in-Some
loop-key-preserved-in-Some g c =
    let at = c.loop-key in
    let steps = c.in-Some.ensures.steps.0 in
    let short = ap length steps in
    let room = at.invariant.room in
    let left = c.insert.ensures.spare in
    record {
      entered = entered_more g.K.PartialEq.eq c.args.table.now at.table c.insert.new.self c.args.entries.items _ (into_iter_items c.next.new.self) c.in-Some.key c.in-Some.value steps (rw c.unwrap-before.ensures at c.insert.ensures.entries) at.invariant.entered;
      values = values_more g.K.PartialEq.eq c.args.table.now at.table c.insert.new.self c.args.entries.items _ (into_iter_items c.next.new.self) c.in-Some.key c.in-Some.value steps (rw c.unwrap-before.ensures at c.insert.ensures.updates).0 at.invariant.values;
      room = omega arith;
      counted = let was = at.invariant.counted in let gone = c.in-Some.ensures.steps.1 in omega arith;
    }

pub returns-clause-entries : goal.returns-clause-entries
returns-clause-entries g c =
    let at = c.loop-key in
    let empty : into_iter_items at.key-iterator ≡ [] = nothing_left _ (sym at.invariant.counted ∙ c.in-None.ensures.steps.0) in
    ap (λ (xs : List (g.row.K.Denot × g.row.V.Denot)). insert_all g.K.PartialEq.eq at.table.entries xs) (sym empty) ∙ at.invariant.entered

pub returns-clause-values : goal.returns-clause-values
returns-clause-values g c q =
    let at = c.loop-key in
    let empty : into_iter_items at.key-iterator ≡ [] = nothing_left _ (sym at.invariant.counted ∙ c.in-None.ensures.steps.0) in
    ap (λ (xs : List (g.row.K.Denot × g.row.V.Denot)). update_all g.K.PartialEq.eq (get g.K.PartialEq.eq at.table) xs q) (sym empty) ∙ at.invariant.values q
