use Rattle.hub_model.proofs.ApartLemmas.{apart_is_exact}
use Rattle.hub_model.proofs.EitherOrderLemmas.{may_overtake}
use Rattle.hub_model.proofs.AlikeLemmas.{stay_alike, stay_alike_through}
use Rattle.hub_model.proofs.laws.messages_may_overtake.Goals as goal

pub returns : goal.returns
returns c = record { apart = apart_is_exact; either = may_overtake; alike = stay_alike; through = stay_alike_through }
