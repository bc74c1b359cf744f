use Rattle.wagon_number.proofs.Common.{◌≡◌, ℕ, ◌<◌, ◌≤◌, get_or, digit_value}
use Rattle.wagon_number.proofs.digits.digits_shown.Given as goal

abbrev pub invariant-loop-digit : goal.invariant-loop-digit
invariant-loop-digit l =
    ((k : ℕ) → k < l.digit-index → get_or l.digit-items k 0 ≡ digit_value (get_or l.fn.letters k 0))
    × ((k : ℕ) → l.digit-index ≤ k → get_or l.digit-items k 0 ≡ get_or l.fn.letters k 0)
