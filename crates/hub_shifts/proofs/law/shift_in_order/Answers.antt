use Rattle.hub_shifts.proofs.TellingLemmas.{shift_in_order}
use Rattle.hub_shifts.proofs.law.shift_in_order.Goals as goal

pub returns : goal.returns
returns c = shift_in_order
