use Rattle.hub_model.proofs.CalendarLemmas.{estimates_fit, checks_keep}
use Rattle.hub_model.proofs.laws.estimates_fit.Goals as goal

pub returns-clause-histories : goal.returns-clause-histories
returns-clause-histories c = estimates_fit

pub returns-clause-checks : goal.returns-clause-checks
returns-clause-checks c = checks_keep
