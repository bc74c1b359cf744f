use Rattle.hub_tables.proofs.Common.{rules, ◌≡◌, [], ◌∷◌, ◌++◌, Some, refl, sym, ap, subst, ◌∙◌, All-pop, known_before, IsChange, AreChanges}
use Rattle.hub_tables.proofs.ChangeLemmas.{others_left, same_before}
use Rattle.hub_tables.proofs.tables.Tables.take_back.Goals as goal

pub take_back_one-requires : goal.take_back_one-requires
take_back_one-requires c =
    let t = c.loop-change.self in
    let rest = c.pop.new.self.items in
    let are = subst (AreChanges t) c.in-Some.ensures.items c.loop-change.invariant.changes in
    (All-pop (IsChange t) (rest ++ c.in-Some.change ∷ []) rest (Some c.in-Some.change) refl are.each).1

pub loop-change-preserved : goal.loop-change-preserved
loop-change-preserved c =
    let t = c.loop-change.self in
    let items = c.in-Some.ensures.items in
    let are = subst (AreChanges t) items c.loop-change.invariant.changes in
    record {
      changes = others_left t c.take_back_one.new.self c.pop.new.self.items c.in-Some.change are c.take_back_one.ensures;
      before = same_before t c.take_back_one.new.self c.pop.new.self.items c.in-Some.change are c.take_back_one.ensures ∙ ap (known_before t) (sym items) ∙ c.loop-change.invariant.before;
    }

pub returns : goal.returns
returns c =
    let none : c.loop-change.changes.items ≡ [] = search rules in
    sym (ap (known_before c.loop-change.self) none) ∙ c.loop-change.invariant.before
