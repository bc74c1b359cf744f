use Rattle.hub_tables.proofs.Common.{Bool, false, ◌||◌, numbers, ap, sym, ◌∙◌, ◌+◌, arith, subst, table_state, take, AreChanges, HaveGoneOn, IsGoneOnOrRefused, known_before}
use Rattle.hub_tables.proofs.GoingOnLemmas.{all_taken, whole_still, calendar_still, changes_so_far, before_all, refused_here, passed_here, goes_further}
use Rattle.hub_tables.proofs.tables.Tables.go_on_each.Goals as goal

pub go_on-requires-clause-whole : goal.go_on-requires-clause-whole
go_on-requires-clause-whole c =
    whole_still _ c.args.message.now c.requires.goes_on c.args.wagons.now c.requires.named c.loop-wagon.wagon-index c.loop-wagon.self c.loop-wagon.changes.items c.loop-wagon.invariant.gone_on c.loop-wagon.invariant.faults c.wagon-item.result c.loop-wagon-test.true c.wagon-item.is

pub go_on-requires-clause-calendar : goal.go_on-requires-clause-calendar
go_on-requires-clause-calendar c =
    calendar_still _ c.args.message.now c.requires.goes_on c.args.wagons.now c.requires.named c.loop-wagon.wagon-index c.loop-wagon.self c.loop-wagon.changes.items c.loop-wagon.invariant.gone_on c.loop-wagon.invariant.faults c.wagon-item.result c.loop-wagon-test.true c.wagon-item.is

pub take_back-requires : goal.take_back-requires
take_back-requires c =
    let at = c.loop-wagon in
    let m = c.args.message.now in
    let refused = subst (IsGoneOnOrRefused (table_state at.self) c.go_on.new.self m c.wagon-item.result at.changes.items c.go_on.new.changes.items) c.in-Ok-Some.field-0-is c.in-Ok-Some.ensures.ok in
    record { changes = subst (AreChanges c.go_on.new.self) (sym refused.2) (changes_so_far _ m c.requires.goes_on c.args.wagons.now c.requires.named at.wagon-index at.self at.changes.items at.invariant.gone_on at.invariant.faults c.go_on.new.self refused.1) }

pub returns-in-Ok-Some-clause-ok : goal.returns-in-Ok-Some-clause-ok
returns-in-Ok-Some-clause-ok c =
    let at = c.loop-wagon in
    let m = c.args.message.now in
    let goes = c.requires.goes_on in
    let refused = subst (IsGoneOnOrRefused (table_state at.self) c.go_on.new.self m c.wagon-item.result at.changes.items c.go_on.new.changes.items) c.in-Ok-Some.field-0-is c.in-Ok-Some.ensures.ok in (
      refused_here _ m goes c.args.wagons.now c.requires.named at.wagon-index at.self at.changes.items at.invariant.gone_on at.invariant.faults c.wagon-item.result c.loop-wagon-test.true c.wagon-item.is c.in-Ok-Some.why refused.0,
      c.take_back.ensures ∙ ap (known_before c.go_on.new.self) refused.2 ∙ before_all _ m goes c.args.wagons.now c.requires.named at.wagon-index at.self at.changes.items at.invariant.gone_on at.invariant.faults c.go_on.new.self refused.1,
    )

pub take_back-requires-in-Err : goal.take_back-requires-in-Err
take_back-requires-in-Err c =
    record { changes = subst (AreChanges c.go_on.new.self) (sym c.in-Err.ensures.kept) (changes_so_far _ c.args.message.now c.requires.goes_on c.args.wagons.now c.requires.named c.loop-wagon.wagon-index c.loop-wagon.self c.loop-wagon.changes.items c.loop-wagon.invariant.gone_on c.loop-wagon.invariant.faults c.go_on.new.self c.in-Err.ensures.err) }

pub returns-in-Err-clause-err : goal.returns-in-Err-clause-err
returns-in-Err-clause-err c =
    c.take_back-in-Err.ensures ∙ ap (known_before c.go_on.new.self) c.in-Err.ensures.kept ∙ before_all _ c.args.message.now c.requires.goes_on c.args.wagons.now c.requires.named c.loop-wagon.wagon-index c.loop-wagon.self c.loop-wagon.changes.items c.loop-wagon.invariant.gone_on c.loop-wagon.invariant.faults c.go_on.new.self c.in-Err.ensures.err

pub loop-wagon-preserved : goal.loop-wagon-preserved
loop-wagon-preserved c =
    let at = c.loop-wagon in
    let s = table_state c.args.self.now in
    let m = c.args.message.now in
    let w = c.wagon-item.result in
    let goes = c.requires.goes_on in
    let wagons = c.args.wagons.now in
    let one = subst (IsGoneOnOrRefused (table_state at.self) c.go_on.new.self m w at.changes.items c.go_on.new.changes.items) c.in-Ok-None.field-0-is c.in-Ok-None.ensures.ok in
    let itself = ap (λ (b : Bool). b || false) (numbers.itself w) in
    record {
      gone_on =
          subst (HaveGoneOn s c.go_on.new.self m (take (at.wagon-index + 1) wagons)) (sym one.listed)
          (goes_further s m goes wagons c.requires.named at.wagon-index at.self at.changes.items at.invariant.gone_on at.invariant.faults w c.loop-wagon-test.true c.wagon-item.is c.go_on.new.self one.change one.gone_on);
      faults = passed_here s m goes wagons c.requires.named at.wagon-index at.self at.changes.items at.invariant.gone_on at.invariant.faults w c.loop-wagon-test.true c.wagon-item.is (one.gone_on.passed w itself).admits;
      counted = let was = at.invariant.counted in let more = c.go_on.ensures.len in omega arith;
      room = let was = at.invariant.room in let more = c.go_on.ensures.capacity in omega arith;
    }

pub returns-clause-ok : goal.returns-clause-ok
returns-clause-ok c =
    all_taken _ c.args.message.now c.requires.goes_on c.args.wagons.now c.requires.named c.loop-wagon.wagon-index c.loop-wagon.self c.loop-wagon.changes.items c.loop-wagon.invariant.gone_on c.loop-wagon.invariant.faults c.loop-wagon-test.false
