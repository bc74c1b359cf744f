use Rattle.hub_tables.proofs.Common.{◌∙◌, sym, ap, continues_journeys}
use Rattle.hub_tables.proofs.GoingOnLemmas.{plan_taken}
use Rattle.hub_tables.proofs.tables.Tables.take.Goals as goal

pub returns-in-Plan-clause-ok : goal.returns-in-Plan-clause-ok
returns-in-Plan-clause-ok c = plan_taken c.args.self.now c.args.message.now _ _ (ap continues_journeys (sym c.body-2.ensures ∙ c.in-Plan.is)) c.clear.ensures.items c.busy_fault.ensures
