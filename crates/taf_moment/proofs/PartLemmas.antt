-- Parts of time of known lengths, one after another, and the days that they take.
use Rattle.taf_moment.proofs.Common.{◌≡◌, ℕ, zero, suc, ◌+◌, ◌-◌, ◌<◌, ◌≤◌, [], inl, inr, refl, ap, arith, sum_by, range_with_len, cases_lt, lt-ltb, le-ltb, sum_by-cons, days_before, part_after}

-- one part more
pub sum_by-range_more : (length_of : ℕ → ℕ) (first count next : ℕ) → first + count ≡ next
    → sum_by length_of (range_with_len first (suc count)) ≡ sum_by length_of (range_with_len first count) + length_of next
sum_by-range_more length_of first zero next e =
    let here : length_of first ≡ length_of next = ap length_of (omega (arith, e)) in
    omega (arith, here, sum_by-cons length_of first [])
sum_by-range_more length_of first (suc count) next e =
    omega (arith, sum_by-cons length_of first (range_with_len (first + 1) (suc count)), sum_by-cons length_of first (range_with_len (first + 1) count), sum_by-range_more length_of (first + 1) count next (omega (arith, e)))

-- the parts before the one at a place
pub days_before-place : (length_of : ℕ → ℕ) (first place : ℕ) → days_before length_of first (first + place) ≡ sum_by length_of (range_with_len first place)
days_before-place length_of first place =
    let back : first + place - first ≡ place = omega arith in
    ap (λ count. sum_by length_of (range_with_len first count)) back

-- a part and the days that pass in it
abbrev pub pair : ℕ → ℕ → ℕ × ℕ
pair a b = (a, b)

-- days that end in the part at a place lead to that part
pub part_after-is : (length_of : ℕ → ℕ) (count first place days rest : ℕ) → place < count → rest < length_of (first + place)
    → sum_by length_of (range_with_len first place) + rest ≡ days → part_after length_of (range_with_len first count) days ≡ (first + place, rest)
unfolding part_after
part_after-is length_of zero first place days rest in_range within e = absurd (omega (arith, in_range))
part_after-is length_of (suc count) first zero days rest in_range within e =
    let here : first + 0 ≡ first = omega arith in
    let same : days ≡ rest = omega (arith, e) in
    let inside : days < length_of first = rw (same, ← here) within in
    rw (lt-ltb days (length_of first) inside, here, same) refl
part_after-is length_of (suc count) first (suc place) days rest in_range within e =
    let sum = sum_by-cons length_of first (range_with_len (first + 1) place) in
    let past : length_of first ≤ days = omega (arith, sum, e) in
    let next : first + 1 + place ≡ first + suc place = omega arith in
    rw (le-ltb days (length_of first) past, ← next)
    (part_after-is length_of count (first + 1) place (days - length_of first) rest (omega (arith, in_range)) (rw next within) (omega (arith, sum, e, past)))

-- some days lead to the part at this place, with this rest
pub record LeadsTo (length_of : ℕ → ℕ) (count first days : ℕ) : Type 0 where
  pub place : ℕ
  pub rest : ℕ
  pub in_range : place < count
  pub within : rest < length_of (first + place)
  pub days_are : sum_by length_of (range_with_len first place) + rest ≡ days

-- as any do that are fewer than those of all parts
pub leads_to : (length_of : ℕ → ℕ) (count first days : ℕ) → days < sum_by length_of (range_with_len first count) → LeadsTo length_of count first days
leads_to length_of zero first days few = absurd (omega (arith, few))
leads_to length_of (suc count) first days few =
    let here : first + 0 ≡ first = omega arith in
    let sum = sum_by-cons length_of first (range_with_len (first + 1) count) in
    elim (cases_lt days (length_of first)) as (λ _. LeadsTo length_of (suc count) first days) [
      | inl inside ↦ record {
        place = 0;
        rest = days;
        in_range = omega arith;
        within = rw here inside;
        days_are = omega arith;
      }
      | inr past ↦
          let after = leads_to length_of count (first + 1) (days - length_of first) (omega (arith, sum, few, past)) in
          let next : first + 1 + after.place ≡ first + suc after.place = omega arith in
          record {
            place = suc after.place;
            rest = after.rest;
            in_range = omega (arith, after.in_range);
            within = rw (← next) after.within;
            days_are = omega (arith, sum_by-cons length_of first (range_with_len (first + 1) after.place), after.days_are, past);
          }
    ]
