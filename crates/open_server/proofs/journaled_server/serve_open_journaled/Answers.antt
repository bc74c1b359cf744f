use Rattle.std.proofs.Common.{rules, arith, ◌∙◌, sym, subst, ap}
use Rattle.std.proofs.lemmas.Result.{err_from_is_err_and}
use Rattle.journal.specs.Journals.{lines_of, has_failed}
use Rattle.journaled_hub.specs.HistoryLines.{lines_of_history}
use Rattle.hub_service.specs.declared.service.Service.{Service}
use Rattle.hub_service.specs.JournaledServices.{IsJournaledService}
use Rattle.server_faults.proofs.FaultLemmas.{no_journal}
use Rattle.open_server.specs.Settled.{IsSettledService}
use Rattle.open_server.proofs.SettledLemmas.{settled, unsettled, no_threads, fits}
use Rattle.open_server.proofs.journaled_server.serve_open_journaled.Goals as goal

pub returns-clause-settled : goal.returns-clause-settled
returns-clause-settled g c =
    let run : IsJournaledService c.args.listening.now.queue.limits.handlers c.args.hub c.in-Ok.journaled = search rules in
    subst (λ (s : Service). IsSettledService c.args.listening.now.queue.limits.handlers 1 s c.in_ok-settled.settled.calls) (sym c.in_ok-settled.ensures.same)
    (settled _ _ _ _ (omega arith) run.service c.in_ok-settled.ensures.ok c.in_ok-settled.ensures.calls)

pub returns-clause-durable : goal.returns-clause-durable
returns-clause-durable g c =
    let run : IsJournaledService c.args.listening.now.queue.limits.handlers c.args.hub c.in-Ok.journaled = search rules in
    let same = c.in_ok-journal.ensures.same in
    ap lines_of same ∙ run.journal.on_disk (ap has_failed (sym same) ∙ c.in_ok-journal.ensures.ok) ∙ ap (λ (s : Service). lines_of_history s.hub) (sym c.in_ok-settled.ensures.same)

pub returns-in-Err-clause-not_settled : goal.returns-in-Err-clause-not_settled
returns-in-Err-clause-not_settled g c = λ why is. absurd (no_threads _ why (sym c.fault_of_threads.ensures ∙ is))

pub returns-in_err-journal-clause-not_settled : goal.returns-in_err-journal-clause-not_settled
returns-in_err-journal-clause-not_settled g c =
    let p = err_from_is_err_and c.from_residual.result c.from_residual.ensures.1 in
    rw (p.1, p.2) (λ why is. absurd (no_journal why (sym c.in_err-journal.ensures.err ∙ is)))

pub returns-in_err-settled-clause-not_settled : goal.returns-in_err-settled-clause-not_settled
returns-in_err-settled-clause-not_settled g c =
    let run : IsJournaledService c.args.listening.now.queue.limits.handlers c.args.hub c.in-Ok.journaled = search rules in
    let p = err_from_is_err_and c.from_residual-in_err-settled.result c.from_residual-in_err-settled.ensures.1 in
    rw (p.1, p.2) (λ why is. unsettled _ _ _ _ why run.service c.in_err-settled.ensures.told c.in_err-settled.ensures.err is)

pub settle_service-requires : goal.settle_service-requires
settle_service-requires g c =
    let run : IsJournaledService c.args.listening.now.queue.limits.handlers c.args.hub c.in-Ok.journaled = search rules in
    record { within = fits _ _ _ run.service }
