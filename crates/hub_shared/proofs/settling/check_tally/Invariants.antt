use Rattle.hub_shared.proofs.Common.{take, MarksTally}
use Rattle.hub_shared.proofs.settling.check_tally.Given as goal

-- the entries so far were checked, and their positions marked
abbrev pub invariant-loop-i : goal.invariant-loop-i
invariant-loop-i l = MarksTally l.hub l.earlier l.initial.seen l.seen (take l.i l.entries)
