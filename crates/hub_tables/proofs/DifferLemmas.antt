-- Lists of wagons in which none comes twice.
use Rattle.hub_tables.proofs.Common.{◌≡◌, ℕ, ◌+◌, ◌≤◌, zero, suc, ◌==◌, ◌||◌, ◌&&◌, Bool, true, false, cond, List, [], ◌∷◌, ◌++◌, refl, sym, ap, ◌∙◌, arith, true≢false, inl, inr, list_all, and_parts, or_cases, eqb-true, cases_Bool, or_right, list_any-append, sum_by-append, numbers, has, all_differ, times_named}

pub both_true : (a b : Bool) → a ≡ true → b ≡ true → (a && b) ≡ true
both_true true b h k = k
both_true false b h k = absurd (true≢false (sym h))

-- what passes at each wagon passes at those that are named
pub passes_named : (test : ℕ → Bool) (ws : List ℕ) (w : ℕ) → list_all test ws ≡ true → has ws w ≡ true → test w ≡ true
passes_named test [] w all h = absurd (true≢false (sym h))
passes_named test (v ∷ ws) w all h =
    let parts = and_parts (test v) (list_all test ws) all in
    elim (or_cases (v == w) (has ws w) h) [
      | inl e ↦ ap test (sym (eqb-true v w e)) ∙ parts.0
      | inr e ↦ passes_named test ws w parts.1 e
    ]

-- and what passes at those that are named passes at each
pub passes_each : (test : ℕ → Bool) (ws : List ℕ) → ((w : ℕ) → has ws w ≡ true → test w ≡ true) → list_all test ws ≡ true
passes_each test [] h = refl
passes_each test (w ∷ ws) h =
    both_true (test w) (list_all test ws) (h w (ap (λ (b : Bool). b || has ws w) (numbers.itself w))) (passes_each test ws (λ v k. h v (or_right (w == v) (has ws v) k)))

pub named_apart : (ws : List ℕ) (v w : ℕ) → has ws v ≡ false → has ws w ≡ true → (v == w) ≡ false
named_apart ws v w out inside = elim (cases_Bool (v == w)) [
  | inl e ↦ absurd (true≢false (sym inside ∙ ap (has ws) (sym (eqb-true v w e)) ∙ out))
  | inr e ↦ e
]

-- how often a wagon is named in two lists
pub times_both : (ws more : List ℕ) (w : ℕ) → times_named (ws ++ more) w ≡ times_named ws w + times_named more w
times_both ws more w = sum_by-append (λ x. cond {A = ℕ} (x == w) 1 0) ws more

from_zero : (n : ℕ) → 0 + n ≡ n
from_zero n = omega arith

pub times_more : (v : ℕ) (ws : List ℕ) (w : ℕ) → times_named (v ∷ ws) w ≡ cond {A = ℕ} (v == w) 1 0 + times_named ws w
times_more v ws w = times_both (v ∷ []) ws w ∙ ap (λ n. n + times_named ws w) (from_zero (cond {A = ℕ} (v == w) 1 0))

never_by : (b any : Bool) (times : ℕ) → (times ≡ 0 → any ≡ false) → cond {A = ℕ} b 1 0 + times ≡ 0 → (b || any) ≡ false
never_by true any times k h = absurd (omega arith)
never_by false any times k h = k (omega arith)

pub never : (ws : List ℕ) (w : ℕ) → times_named ws w ≡ 0 → has ws w ≡ false
never [] w h = refl
never (v ∷ ws) w h = never_by (v == w) (has ws w) (times_named ws w) (never ws w) (sym (times_more v ws w) ∙ h)

once_by : (times : ℕ) (any : Bool) → (times ≡ 0 → any ≡ false) → any ≡ true → 1 ≤ times
once_by zero any k h = absurd (true≢false (sym h ∙ k refl))
once_by (suc n) any k h = omega arith

has_both : (ws more : List ℕ) (w : ℕ) → has (ws ++ more) w ≡ (has ws w || has more w)
has_both ws more w = list_any-append (λ v. v == w) ws more

pub or_false : (b : Bool) → (b || false) ≡ b
or_false true = refl
or_false false = refl

-- a wagon more
pub has_last : (ws : List ℕ) (w v : ℕ) → has (ws ++ w ∷ []) v ≡ (has ws v || w == v)
has_last ws w v = has_both ws (w ∷ []) v ∙ ap (λ (b : Bool). has ws v || b) (or_false (w == v))

-- the first of them differ
pub differ_first : (ws more : List ℕ) → all_differ (ws ++ more) ≡ true → all_differ ws ≡ true
differ_first ws more h = passes_each (λ w. times_named ws w == 1) ws (λ w k.
    let one = eqb-true (times_named (ws ++ more) w) 1 (passes_named (λ v. times_named (ws ++ more) v == 1) (ws ++ more) w h (has_both ws more w ∙ ap (λ (b : Bool). b || has more w) k)) in
    let both = times_both ws more w in
    let once = once_by (times_named ws w) (has ws w) (never ws w) k in
    let same : times_named ws w ≡ 1 = omega arith in
    ap (λ n. n == 1) same)

-- and the next is none of them
pub next_differs : (ws : List ℕ) (w : ℕ) (more : List ℕ) → all_differ (ws ++ w ∷ more) ≡ true → has ws w ≡ false
next_differs ws w more h =
    let here : cond {A = ℕ} (w == w) 1 0 ≡ 1 = ap (λ (b : Bool). cond {A = ℕ} b 1 0) (numbers.itself w) in
    let named = has_both ws (w ∷ more) w ∙ or_right (has ws w) (has (w ∷ more) w) (ap (λ (b : Bool). b || has more w) (numbers.itself w)) in
    let one = eqb-true (times_named (ws ++ w ∷ more) w) 1 (passes_named (λ v. times_named (ws ++ w ∷ more) v == 1) (ws ++ w ∷ more) w h named) in
    let both = times_both ws (w ∷ more) w in
    let first = times_more w more w in
    never ws w (omega arith)
