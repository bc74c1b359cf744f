use Rattle.replay_numbers.proofs.Common.{◌≡◌, ℕ, ◌+◌, ◌-◌, ◌≤◌, length, slice_get, option_flatten}
use Rattle.replay_numbers.proofs.sent.lengthen.Given as goal

-- the row has the positions that it had
abbrev pub invariant-places : goal.invariant-places
invariant-places l = record {
  positions : (n : ℕ) → option_flatten (slice_get l.row.items n) ≡ option_flatten (slice_get l.initial.row.items n);
  longer : length l.initial.row.items ≤ length l.row.items;
}

abbrev pub decreases-places : goal.decreases-places
decreases-places l = l.number + 1 - length l.row.items
