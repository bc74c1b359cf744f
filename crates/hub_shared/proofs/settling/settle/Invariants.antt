use Rattle.hub_shared.proofs.Common.{◌≡◌, ◌+◌, length, take, sum_by, TallyState, MarksTallies}
use Rattle.hub_shared.proofs.settling.settle.Given as goal

-- the tallies so far were checked, and counted
abbrev pub invariant-loop-session : goal.invariant-loop-session
invariant-loop-session l =
    MarksTallies l.hub l.earlier l.seen (take l.session l.tallies)
    × (l.told ≡ sum_by (λ (p : TallyState). length p.entries) (take l.session l.tallies))
    × (length l.seen + l.earlier ≡ length l.hub)
