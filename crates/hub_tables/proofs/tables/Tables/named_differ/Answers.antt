use Rattle.hub_tables.proofs.Common.{◌∙◌, table_state}
use Rattle.hub_tables.proofs.AcceptanceLemmas.{others_differ}
use Rattle.hub_tables.proofs.tables.Tables.named_differ.Goals as goal

pub returns-in_default : goal.returns-in_default
returns-in_default c goes =
    let m = c.args.message.now in
    others_differ (table_state c.args.self.now) m m.body (λ o e. c.in_default.not-Offer o (c.body.ensures ∙ e)) (λ at k e. c.in_default.not-Withdraw at k (c.body.ensures ∙ e)) c.requires.whole goes
