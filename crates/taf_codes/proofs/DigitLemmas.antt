-- The weighed sum of a unit's code, letter by letter.
use Rattle.taf_codes.proofs.Common.{◌≡◌, ℕ, ◌+◌, ◌*◌, ◌%◌, ◌^◌, ◌<◌, ◌≤◌, List, [], ◌∷◌, ◌++◌, length, take, get_or, arith, ap, ◌∙◌, mod-eq_of_lt, mul-le-mul_left, pow_mono, length-take-le, take_more, sum_by_push, sum_by, enumerate_from, value_of, weighed_sum}

-- one letter more behind the others
enumerate_from-push : (k : ℕ) (xs : List ℕ) (x : ℕ) → enumerate_from k (xs ++ x ∷ []) ≡ enumerate_from k xs ++ (k + length xs, x) ∷ []
enumerate_from-push k [] x = let same : k ≡ k + 0 = omega arith in ap (λ (n : ℕ). (n, x) ∷ []) same
enumerate_from-push k (y ∷ ys) x =
    let same : k + 1 + length ys ≡ k + length (y ∷ ys) = omega arith in
    ap (λ l. (k, y) ∷ l) (enumerate_from-push (k + 1) ys x) ∙ ap (λ (n : ℕ). (k, y) ∷ (enumerate_from (k + 1) ys ++ (n, x) ∷ [])) same

-- the weighed sum with one letter more
weighed_sum_more : (text : List ℕ) (place : ℕ) → place < length text → weighed_sum (take (place + 1) text) ≡ weighed_sum (take place text) + 2 ^ place * value_of (get_or text place 0)
weighed_sum_more text place within =
    let long : length (take place text) ≡ place = length-take-le place text (omega arith) in
    ap weighed_sum (take_more text place 0 within) ∙
    ap (λ l. sum_by (λ placed. 2 ^ placed.0 * value_of placed.1) l) (enumerate_from-push 0 (take place text) (get_or text place 0)) ∙
    sum_by_push (λ placed. 2 ^ placed.0 * value_of placed.1) (enumerate_from 0 (take place text)) (0 + length (take place text), get_or text place 0) ∙
    ap (λ (n : ℕ). weighed_sum (take place text) + 2 ^ n * value_of (get_or text place 0)) (omega (arith, long))

-- a weighed value is small enough to be shifted
weighed_value : (place value : ℕ) → place < 10 → value < 256 → value * 2 ^ place ≤ 130560
weighed_value place value low small =
    let nine : place ≤ 9 = omega arith in
    let weight : 2 ^ place ≤ 512 = pow_mono nine in
    grind (arith, mul-le-mul_left value weight)

pub weighed_more : (text : List ℕ) (place sum value : ℕ) → place < length text → length text ≤ 10 → value < 256
    → value ≡ value_of (get_or text place 0) → sum ≡ weighed_sum (take place text) → sum ≤ 130560 * place
    → (sum + value * 2 ^ place % 4294967296 ≡ weighed_sum (take (place + 1) text)) × (sum + value * 2 ^ place % 4294967296 ≤ 130560 * (place + 1))
weighed_more text place sum value within short small value_is sum_is bound =
    let step : value * 2 ^ place ≤ 130560 = weighed_value place value (omega arith) small in
    let whole : value * 2 ^ place % 4294967296 ≡ value * 2 ^ place = mod-eq_of_lt (omega arith) in
    let more = weighed_sum_more text place within in
    (rw (more, ← sum_is, ← value_is) (omega (arith, whole)), omega arith)
