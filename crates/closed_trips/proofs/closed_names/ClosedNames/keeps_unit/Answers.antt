use Rattle.closed_trips.proofs.Common.{ap, ◌∙◌, not, bytes_eq, list_any}
use Rattle.closed_trips.specs.ClosedNames.{ClosedNames}
use Rattle.closed_trips.proofs.closed_names.ClosedNames.keeps_unit.Goals as goal

pub returns : goal.returns
returns c = ap not (c.contains.ensures ∙ ap (λ (v : ClosedNames). list_any (bytes_eq c.args.unit) v.units) c.self.view_is)
