use Rattle.hub_core.proofs.Common.{◌≡◌, subst, IfOk, HubState, unit_wagon, unit_reply}
use Rattle.hub_core.proofs.ask.reply_to.Goals as goal

pub returns-in-AskUnit : goal.returns-in-AskUnit
returns-in-AskUnit c =
    rw c.in-AskUnit.is (subst (λ (s : HubState). IfOk c.ask_unit.result (λ r. r ≡ unit_reply s c.in-AskUnit.by (unit_wagon s c.in-AskUnit.unit))) c.requires.kept.tables c.ask_unit.ensures)
