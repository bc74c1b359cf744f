use Rattle.connection_handlers.proofs.Common.{ap, sym, ◌∙◌, subst, PassState, Served, IsHandler}
use Rattle.connection_handlers.proofs.HandlerLemmas.{one_session, puts_own_jobs, puts_alone}
use Rattle.connection_handlers.proofs.handler.ConnectionHandlersServeUnit.serve.Goals as goal
use Rattle.connection_handlers.proofs.handler.ConnectionHandlersServeUnit.serve.Goals.{in-None, in-Some+in_default, in-Some+in-Some-next+then-not-goes_on}

pub loop-preserved : goal.loop-preserved
loop-preserved g c =
    let next = c.serve_next-last.ensures in (
      ap (λ (p : PassState). p.inbox) next.pass_is ∙ c.loop.invariant.0,
      one_session _ _ _ _ _ _ c.loop.invariant.1 next,
    )

pub returns : goal.returns
returns g c =
    let start = c.args.start in
    let Handles : Served → Type 0 = λ s. IsHandler start.session start.pass s.tally.entries s.pass in
    let served : Handles c.match-next.last =
    elim c.match-next.branch [
      | in-None w ↦ subst Handles (sym w.last-is) c.loop.invariant.1
      | in-Some+in_default w ↦ subst Handles (sym w.last-is) c.loop.invariant.1
      | in-Some+in-Some-next+then-not-goes_on w ↦ subst Handles (sym w.last-is) (one_session _ _ _ _ _ _ c.loop.invariant.1 w.serve_next-last.ensures)
    ] in
    record {
      own_jobs = puts_own_jobs _ _ _ _ c.requires.none served;
      put_only = puts_alone _ _ _ _ served;
      served = served;
    }
