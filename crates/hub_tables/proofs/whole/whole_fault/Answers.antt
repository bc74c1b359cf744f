use Rattle.hub_tables.proofs.Common.{◌∙◌, ap, sym, whole_fault, table_state}
use Rattle.hub_tables.proofs.whole.whole_fault.Goals as goal

pub returns-in-Plan : goal.returns-in-Plan
returns-in-Plan c = c.plan_fault.ensures c.args.by ∙ ap (whole_fault (table_state c.args.tables.now) c.args.by) (sym c.in-Plan.is)

pub returns-in-Withdraw : goal.returns-in-Withdraw
returns-in-Withdraw c = c.withdraw_fault.ensures c.in-Withdraw.at ∙ ap (whole_fault (table_state c.args.tables.now) c.args.by) (sym c.in-Withdraw.is)
