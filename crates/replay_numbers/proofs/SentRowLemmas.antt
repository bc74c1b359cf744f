-- Positions in a row.
use Rattle.replay_numbers.proofs.Common.{◌≡◌, ℕ, ◌<◌, ◌≤◌, cond, zero, suc, List, [], ◌∷◌, ◌++◌, length, Option, Some, None, refl, ap, ◌∙◌, sym, arith, set, ◌==◌, eqb-suc-suc, eqb-zero-suc, eqb-suc-zero, slice_get, option_flatten}

-- a place without a position adds none
pub none_added : (row : List (Option ℕ)) (n : ℕ) → option_flatten (slice_get (row ++ None ∷ []) n) ≡ option_flatten (slice_get row n)
none_added [] zero = refl
none_added [] (suc n) = refl
none_added (p ∷ row) zero = refl
none_added (p ∷ row) (suc n) = none_added row n

-- a position is put at its number
pub put_in_row : (row : List (Option ℕ)) (number position n : ℕ) → number < length row → option_flatten (slice_get (set row number (Some position)) n) ≡ cond (number == n) (Some position) (option_flatten (slice_get row n))
put_in_row [] number position n h = absurd (omega (arith, h))
put_in_row (p ∷ row) zero position zero h = refl
put_in_row (p ∷ row) zero position (suc n) h = ap (λ b. cond b (Some position) (option_flatten (slice_get row n))) (sym (eqb-zero-suc n))
put_in_row (p ∷ row) (suc number) position zero h = ap (λ b. cond b (Some position) (option_flatten (slice_get (p ∷ row) 0))) (sym (eqb-suc-zero number))
put_in_row (p ∷ row) (suc number) position (suc n) h =
    put_in_row row number position n (omega (arith, h)) ∙ ap (λ b. cond b (Some position) (option_flatten (slice_get row n))) (sym (eqb-suc-suc number n))

-- behind the row there is none
pub none_behind : (row : List (Option ℕ)) (n : ℕ) → length row ≤ n → option_flatten (slice_get row n) ≡ None
none_behind [] n h = refl
none_behind (p ∷ row) zero h = absurd (omega (arith, h))
none_behind (p ∷ row) (suc n) h = none_behind row n (omega (arith, h))
