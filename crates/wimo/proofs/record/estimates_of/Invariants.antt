use Rattle.wimo.proofs.Common.{◌≡◌, filter_map, option_map, range_with_len, estimate_basis, in_turn_from}
use Rattle.eti_chain.specs.Estimates as of
use Rattle.wimo.proofs.RecordEventLemmas.{at_leg}
use Rattle.wimo.proofs.record.estimates_of.Given as goal

-- the estimates of the legs so far, and it is the turn of this leg
abbrev pub invariant-loop-leg : goal.invariant-loop-leg
invariant-loop-leg l = record {
  shown : l.shown.items ≡ filter_map (λ j. option_map (at_leg j) (of.estimate l.track.events j)) (range_with_len 0 l.leg);
  turn : l.each ≡ in_turn_from (estimate_basis l.track.events) l.leg;
}
