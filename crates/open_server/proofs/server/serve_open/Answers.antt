use Rattle.std.proofs.Common.{rules, ◌∙◌, sym, subst}
use Rattle.std.proofs.lemmas.Result.{err_from_is_err_and}
use Rattle.hub_service.specs.declared.service.Service.{Service}
use Rattle.hub_service.specs.Services.{IsService}
use Rattle.open_server.specs.Settled.{IsSettledService}
use Rattle.open_server.proofs.SettledLemmas.{settled, unsettled, no_threads, fits}
use Rattle.open_server.proofs.server.serve_open.Goals as goal

pub returns-clause-settled : goal.returns-clause-settled
returns-clause-settled g c =
    let service : IsService c.args.listening.now.queue.limits.handlers c.args.workers c.in-Ok.service = search rules in
    subst (λ (s : Service). IsSettledService c.args.listening.now.queue.limits.handlers c.args.workers s c.in_ok-settled.settled.calls) (sym c.in_ok-settled.ensures.same)
    (settled _ _ _ _ c.requires.workers.0 service c.in_ok-settled.ensures.ok c.in_ok-settled.ensures.calls)

pub returns-in-Err-clause-not_settled : goal.returns-in-Err-clause-not_settled
returns-in-Err-clause-not_settled g c = λ why is. absurd (no_threads _ why (sym c.fault_of_threads.ensures ∙ is))

pub returns-in_err-settled-clause-not_settled : goal.returns-in_err-settled-clause-not_settled
returns-in_err-settled-clause-not_settled g c =
    let service : IsService c.args.listening.now.queue.limits.handlers c.args.workers c.in-Ok.service = search rules in
    let p = err_from_is_err_and c.from_residual.result c.from_residual.ensures.1 in
    rw (p.1, p.2) (λ why is. unsettled _ _ _ _ why service c.in_err-settled.ensures.told c.in_err-settled.ensures.err is)

pub settle_service-requires : goal.settle_service-requires
settle_service-requires g c =
    let service : IsService c.args.listening.now.queue.limits.handlers c.args.workers c.in-Ok.service = search rules in
    record { within = fits _ _ _ service }
