use Rattle.hub_shifts.proofs.ShiftLemmas.{is_shift_of}
use Rattle.hub_shifts.proofs.shift.run_kept_shift.Goals as goal

pub returns : goal.returns
returns g c = is_shift_of g.S.Source.remaining g.K.Sink.contents c.args.sessions.items c.args.workers c.in_ok-served.served c.into_shift.result c.into_shift.ensures c.in_ok-served.ensures
