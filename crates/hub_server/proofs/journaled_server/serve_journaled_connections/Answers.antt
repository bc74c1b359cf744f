use Rattle.std.proofs.Common.{◌∙◌, ◌≡◌, length, refl, sym, subst, arith, ap}
use Rattle.std.proofs.lemmas.Result.{err_from_is_err_and}
use Rattle.journal.specs.Journals.{lines_of, has_failed}
use Rattle.journaled_hub.specs.HistoryLines.{lines_of_history}
use Rattle.hub_shifts.specs.declared.shift.Shift.{Shift}
use Rattle.server_faults.proofs.FaultLemmas.{no_journal}
use Rattle.hub_server.specs.Settled.{IsSettledShift}
use Rattle.hub_server.proofs.SettledLemmas.{settled, unsettled, no_shift, no_end, fits}
use Rattle.hub_server.proofs.journaled_server.serve_journaled_connections.Goals as goal

pub returns-clause-settled : goal.returns-clause-settled
returns-clause-settled g c =
    let ends = c.in_ok-connections.connections in
    let many : length ends.items ≡ c.args.size.sessions = sym ends.ok.0 ∙ (c.in_ok-connections.ensures ∙ c.sessions-2.ensures) in
    subst (λ (s : Shift). IsSettledShift c.args.size.sessions 1 s c.in_ok-settled.settled.calls) (sym c.in_ok-settled.ensures.same)
    (settled _ ends.items 1 c.args.size.sessions 1 _ _ many refl (omega arith) c.in-Ok.ensures.shift c.in_ok-settled.ensures.ok c.in_ok-settled.ensures.calls)

pub returns-clause-durable : goal.returns-clause-durable
returns-clause-durable g c =
    let same = c.in_ok-journal.ensures.same in
    ap lines_of same ∙ c.in-Ok.ensures.journal.on_disk (ap has_failed (sym same) ∙ c.in_ok-journal.ensures.ok) ∙ ap (λ (s : Shift). lines_of_history s.hub) (sym c.in_ok-settled.ensures.same)

pub returns-in_err-connections-clause-not_settled : goal.returns-in_err-connections-clause-not_settled
returns-in_err-connections-clause-not_settled g c =
    let p = err_from_is_err_and c.from_residual.result c.from_residual.ensures.1 in
    rw (p.1, p.2) (λ why is. absurd (no_shift why is))

pub returns-in-Err-clause-not_settled : goal.returns-in-Err-clause-not_settled
returns-in-Err-clause-not_settled g c = λ why is. absurd (no_end _ why (sym c.fault_of_shift.ensures ∙ is))

pub returns-in_err-journal-clause-not_settled : goal.returns-in_err-journal-clause-not_settled
returns-in_err-journal-clause-not_settled g c =
    let p = err_from_is_err_and c.from_residual-in_err-journal.result c.from_residual-in_err-journal.ensures.1 in
    rw (p.1, p.2) (λ why is. absurd (no_journal why (sym c.in_err-journal.ensures.err ∙ is)))

pub returns-in_err-settled-clause-not_settled : goal.returns-in_err-settled-clause-not_settled
returns-in_err-settled-clause-not_settled g c =
    let ends = c.in_ok-connections.connections in
    let many : length ends.items ≡ c.args.size.sessions = sym ends.ok.0 ∙ (c.in_ok-connections.ensures ∙ c.sessions-2.ensures) in
    let p = err_from_is_err_and c.from_residual-in_err-settled.result c.from_residual-in_err-settled.ensures.1 in
    rw (p.1, p.2) (λ why is. unsettled _ ends.items 1 c.args.size.sessions 1 _ _ why many refl c.in-Ok.ensures.shift c.in_err-settled.ensures.told c.in_err-settled.ensures.err is)

pub settle_shift-requires : goal.settle_shift-requires
settle_shift-requires g c = record { within = fits _ _ _ c.in-Ok.ensures.shift }
