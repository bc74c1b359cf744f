use Rattle.session_lanes.proofs.Common.{arith, ◌≡◌, ◌%◌, ltb, refl, Bool, true, false, cond}
use Rattle.std.specs.Int.{from_bool}
use Rattle.session_lanes.proofs.FallLemmas.{sessions_of-is, sessions_of-within}
use Rattle.session_lanes.proofs.lane.capacity_of.Goals as goal

as_number : (b : Bool) → from_bool b ≡ cond b 1 0
as_number true = refl
as_number false = refl

pub returns : goal.returns
returns c =
    let is = sessions_of-is c.args.lane c.args.workers c.args.sessions c.requires.lane.0 in
    let few = sessions_of-within c.args.lane c.args.workers c.args.sessions in
    let number = as_number (ltb c.args.lane (c.args.sessions % c.args.workers)) in
    let one = c.from.ensures in
    let value = c.max.ensures in
    let most = c.requires.sessions in
    record {
      value = omega (arith, is, number, one, value);
      within = (omega (arith, value), omega (arith, is, few, number, one, value, most));
    }
