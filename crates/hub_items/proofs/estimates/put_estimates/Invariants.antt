use Rattle.hub_items.proofs.Common.{◌≡◌, ◌++◌, flat_map, range_with_len, estimate_basis, in_turn_from, news_of}
use Rattle.hub_items.proofs.estimates.put_estimates.Given as goal

-- the news of the legs so far, and it is the turn of this leg
abbrev pub invariant-loop-leg : goal.invariant-loop-leg
invariant-loop-leg l = record {
  news : l.items.items ≡ l.initial.items.items ++ flat_map (news_of l.change) (range_with_len 0 l.leg);
  before : l.each_before ≡ in_turn_from (estimate_basis l.change.before) l.leg;
  after : l.each_after ≡ in_turn_from (estimate_basis l.change.after) l.leg;
}
