use Rattle.eti_chain.proofs.Common.{◌≡◌, ◌*◌, ◌≤◌, ◌^◌, ◌-◌, take, sum_by}
use Rattle.eti_chain.proofs.basis.minutes_of.Given as goal

abbrev pub invariant-loop-leg : goal.invariant-loop-leg
invariant-loop-leg l = record {
  sum : l.sum ≡ sum_by (λ l. l.minutes) (take l.leg-index l.legs);
  small : l.sum ≤ l.leg-index * (2 ^ 32 - 1);
}
