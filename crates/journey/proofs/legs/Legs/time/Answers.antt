use Rattle.journey.proofs.Common.{◌≡◌, ap, sym, ◌∙◌, length, take, arith, length-take-le, with_leg_minutes}
use Rattle.journey.proofs.LegTimeLemmas.{with_leg_minutes-set, timed_past}
use Rattle.journey.proofs.legs.Legs.time.Goals as goal

pub returns-then-leg-self : goal.returns-then-leg-self
returns-then-leg-self c =
    let inside = c.self.inside in
    let size : length (take inside.count inside.row.items) ≡ inside.count = length-take-le inside.count inside.row.items (omega (arith, c.self.invariant.1)) in
    with_leg_minutes-set inside.row.items inside.count c.args.leg c.args.minutes c.index-self-leg.result (omega (arith, size, c.if-leg-self.true)) ∙ ap (λ ls. with_leg_minutes ls c.args.leg c.args.minutes) c.self.view_is

pub returns-else-leg-self : goal.returns-else-leg-self
returns-else-leg-self c =
    let inside = c.self.inside in
    let size : length (take inside.count inside.row.items) ≡ inside.count = length-take-le inside.count inside.row.items (omega (arith, c.self.invariant.1)) in
    sym (timed_past c.args.self.now c.args.leg c.args.minutes (omega (arith, ap length c.self.view_is, size, c.if-leg-self.false)))
