use Rattle.std.proofs.Common.{◌<◌, ◌≤◌, List, length, ap, ◌∙◌, sym, subst}
use Rattle.wagon_number.specs.declared.number.WagonNumber.{WagonNumber}
use Rattle.trip_plan.specs.declared.plan.PlanParts.{PlanParts}
use Rattle.trip_plan.specs.Making.{trip_of}
use Rattle.trip_plan.proofs.WagonLemmas.{few_wagons}
use Rattle.trip_plan.proofs.plan.Plan.wagons.Goals as goal

pub returns-clause-some : goal.returns-clause-some
returns-clause-some c =
    subst (λ (ws : List WagonNumber). 0 < length ws) (sym (c.as_slice.ensures.value ∙ ap (λ (p : PlanParts). p.wagons.items) c.deref.ensures))
    (few_wagons (trip_of c.self.inside.parts.value) c.self.invariant.sound).0

pub returns-clause-few : goal.returns-clause-few
returns-clause-few c =
    subst (λ (ws : List WagonNumber). length ws ≤ 60) (sym (c.as_slice.ensures.value ∙ ap (λ (p : PlanParts). p.wagons.items) c.deref.ensures))
    (few_wagons (trip_of c.self.inside.parts.value) c.self.invariant.sound).1
