use Rattle.hub_shifts.proofs.ShiftLemmas.{is_journaled_of}
use Rattle.hub_shifts.proofs.journaled.run_journaled_shift.Goals as goal

pub returns : goal.returns
returns g c = is_journaled_of {F = g.row.F.Denot} g.S.Source.remaining g.K.Sink.contents c.args.sessions.items c.args.hub c.in_ok-served.field-0 c.into_shift.result c.into_shift.ensures c.in_ok-served.ensures
