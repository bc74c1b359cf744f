use Rattle.hub_tables.proofs.Common.{◌∙◌, ap, lookup, bytes_eq, TableEntries}
use Rattle.hub_tables.proofs.tables.Tables.unit_plan.Goals as goal

pub returns : goal.returns
returns c = c.get.ensures.value ∙ ap (λ (t : TableEntries). lookup (bytes_eq c.args.unit) t.units) c.self.view_is
