use Rattle.hub_shared.proofs.Common.{◌≡◌, List, length, arith, rules, get_or, ◌∙◌, ap, refl, subst, sum_by, slice_get, Some, take_all, sum_by_more, slice_get_read, err_from_is_err_and, Told, TallyState, MarksTally, IsTallyFault, MarksTallies}
use Rattle.hub_shared.proofs.MarkLemmas.{more_tallies, lift, done, refutes}
use Rattle.hub_shared.proofs.settling.settle.Goals as goal

pub returns-in_err-check_tally-clause-err : goal.returns-in_err-check_tally-clause-err
returns-in_err-check_tally-clause-err c =
    let p = err_from_is_err_and c.from_residual.result c.from_residual.ensures.1 in
    let page = c.index-tallies-session.result in
    let there : slice_get c.args.tallies.now c.loop-session.session ≡ Some page = slice_get_read c.args.tallies.now _ c.loop-session.session page refl c.loop-session-test.true c.index-tallies-session.is in
    let shows = subst (λ (l : List Told). IsTallyFault c.in_err-check_tally.field-0.0 c.loop-session.session c.args.hub.now c.args.earlier c.loop-session.seen l) c.entries-entries.ensures c.in_err-check_tally.ensures.err in
    rw (p.1, p.2) (lift _ _ _ _ _ _ page shows c.loop-session.invariant.0 there)

pub loop-session-preserved : goal.loop-session-preserved
loop-session-preserved c =
    let page = c.index-tallies-session.result in
    let checked = subst (λ (l : List Told). MarksTally c.args.hub.now c.args.earlier c.loop-session.seen c.check_tally.new.seen l) (c.entries-entries.ensures ∙ ap (λ (p : TallyState). p.entries) c.index-tallies-session.is) c.in_ok-check_tally.ensures.ok in
    let longer = sum_by_more (λ (p : TallyState). length p.entries) c.args.tallies.now c.loop-session.session page c.loop-session-test.true in
    let here : length c.entries-entries.result.now ≡ length (get_or c.args.tallies.now c.loop-session.session page).entries = ap length (c.entries-entries.ensures ∙ ap (λ (p : TallyState). p.entries) c.index-tallies-session.is) in
    let so_far = c.loop-session.invariant.1 in
    (more_tallies _ _ _ _ c.args.tallies.now _ page c.loop-session.invariant.0 checked c.loop-session-test.true, omega (arith, longer, here, so_far), search rules)

pub returns-then-told-history-clause-err : goal.returns-then-told-history-clause-err
returns-then-told-history-clause-err c =
    let all = take_all c.loop-session.session c.args.tallies.now c.loop-session-test.false in
    let told = c.loop-session.invariant.1 in
    let from = c.from-told.ensures in
    let len = c.len.ensures.value in
    let within = c.requires.within in (
      omega (arith, len, within),
      from ∙ (told ∙ ap (λ l. sum_by (λ (p : TallyState). length p.entries) l) all),
      (λ same. c.if-told-history.true (omega (arith, from, same))),
    )

pub returns-clause-ok : goal.returns-clause-ok
returns-clause-ok c =
    let all = take_all c.loop-session.session c.args.tallies.now c.loop-session-test.false in
    let told = c.loop-session.invariant.1 in
    let fits = c.loop-session.invariant.2 in
    let same = c.if-told-history.false in
    let len = c.len.ensures.value in
    let within = c.requires.within in
    let sums = ap (λ l. sum_by (λ (p : TallyState). length p.entries) l) all in
    done _ c.args.earlier c.loop-session.seen c.args.tallies.now
    (subst (λ (l : List TallyState). MarksTallies c.args.hub.now c.args.earlier c.loop-session.seen l) all c.loop-session.invariant.0)
    fits
    (omega (arith, sums, told, same, len, within))

pub returns-in_err-check_tally-clause-told : goal.returns-in_err-check_tally-clause-told
returns-in_err-check_tally-clause-told c = λ told.
    let p = err_from_is_err_and c.from_residual.result c.from_residual.ensures.1 in
    let page = c.index-tallies-session.result in
    let there : slice_get c.args.tallies.now c.loop-session.session ≡ Some page = slice_get_read c.args.tallies.now _ c.loop-session.session page refl c.loop-session-test.true c.index-tallies-session.is in
    let shows = subst (λ (l : List Told). IsTallyFault c.in_err-check_tally.field-0.0 c.loop-session.session c.args.hub.now c.args.earlier c.loop-session.seen l) c.entries-entries.ensures c.in_err-check_tally.ensures.err in
    rw (p.1, p.2) (refutes _ _ c.args.earlier c.args.tallies.now (lift _ _ _ _ _ _ page shows c.loop-session.invariant.0 there) told)

pub returns-then-told-history-clause-told : goal.returns-then-told-history-clause-told
returns-then-told-history-clause-told c = λ is_told. refutes _ c.args.hub.now c.args.earlier c.args.tallies.now (returns-then-told-history-clause-err c) is_told
