use Rattle.hub_service.proofs.HandlerLemmas.{is_service_of}
use Rattle.hub_service.proofs.service.run_service.Goals as goal

pub returns : goal.returns
returns g c = is_service_of c.args.handlers.items _ c.args.workers c.in_ok-served.served c.into_service.result c.args.handlers.ok.0 c.into_service.ensures c.in_ok-served.ensures
