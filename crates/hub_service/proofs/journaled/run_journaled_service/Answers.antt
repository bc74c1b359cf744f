use Rattle.hub_service.proofs.HandlerLemmas.{is_journaled_of}
use Rattle.hub_service.proofs.journaled.run_journaled_service.Goals as goal

pub returns : goal.returns
returns g c = is_journaled_of {F = g.row.F.Denot} c.args.handlers.items _ c.args.hub c.in_ok-served.field-0 c.into_service.result c.args.handlers.ok.0 c.into_service.ensures c.in_ok-served.ensures
