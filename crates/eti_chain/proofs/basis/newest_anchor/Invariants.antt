use Rattle.eti_chain.proofs.Common.{◌≡◌, ◌*◌, ◌≤◌, take}
use Rattle.eti_chain.specs.Estimates as of
use Rattle.eti_chain.proofs.basis.newest_anchor.Given as goal

abbrev pub invariant-loop-event : goal.invariant-loop-event
invariant-loop-event l = record {
  walked : l.found ≡ of.anchor (take l.event-index l.events);
  small : of.delays_of l.found ≤ 100000 * l.event-index;
}
