use Rattle.std.proofs.Common.{◌∙◌, ◌≡◌, length, sym, subst}
use Rattle.std.proofs.lemmas.Result.{err_from_is_err_and}
use Rattle.hub_shifts.specs.declared.shift.Shift.{Shift}
use Rattle.hub_server.specs.Settled.{IsSettledShift}
use Rattle.hub_server.proofs.SettledLemmas.{settled, unsettled, no_shift, no_end, fits}
use Rattle.hub_server.proofs.server.serve_connections.Goals as goal

pub returns : goal.returns
returns g c =
    let ends = c.in_ok-connections.connections in
    let many : length ends.items ≡ c.args.size.sessions = sym ends.ok.0 ∙ (c.in_ok-connections.ensures ∙ c.sessions-2.ensures) in
    record {
      settled = subst (λ (s : Shift). IsSettledShift c.args.size.sessions c.args.size.workers s c.in_ok-settled.settled.calls) (sym c.in_ok-settled.ensures.same)
          (settled _ ends.items _ c.args.size.sessions c.args.size.workers _ c.in-Ok.shift many c.workers.ensures c.args.size.within.2 c.in-Ok.ensures c.in_ok-settled.ensures.ok c.in_ok-settled.ensures.calls);
      not_settled = tt;
    }

pub returns-in_err-connections-clause-not_settled : goal.returns-in_err-connections-clause-not_settled
returns-in_err-connections-clause-not_settled g c =
    let p = err_from_is_err_and c.from_residual.result c.from_residual.ensures.1 in
    rw (p.1, p.2) (λ why is. absurd (no_shift why is))

pub returns-in-Err-clause-not_settled : goal.returns-in-Err-clause-not_settled
returns-in-Err-clause-not_settled g c = λ why is. absurd (no_end _ why (sym c.fault_of_shift.ensures ∙ is))

pub returns-in_err-settled-clause-not_settled : goal.returns-in_err-settled-clause-not_settled
returns-in_err-settled-clause-not_settled g c =
    let ends = c.in_ok-connections.connections in
    let many : length ends.items ≡ c.args.size.sessions = sym ends.ok.0 ∙ (c.in_ok-connections.ensures ∙ c.sessions-2.ensures) in
    let p = err_from_is_err_and c.from_residual-in_err-settled.result c.from_residual-in_err-settled.ensures.1 in
    rw (p.1, p.2) (λ why is. unsettled _ ends.items _ c.args.size.sessions c.args.size.workers _ _ why many c.workers.ensures c.in-Ok.ensures c.in_err-settled.ensures.told c.in_err-settled.ensures.err is)

pub settle_shift-requires : goal.settle_shift-requires
settle_shift-requires g c = record { within = fits _ _ c.in-Ok.shift c.in-Ok.ensures }
