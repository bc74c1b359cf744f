-- Lists of one item.
use Rattle.hub_serving.proofs.Common.{◌≡◌, ℕ, zero, suc, ◌+◌, List, [], ◌∷◌, ◌++◌, length, refl, ap, sym, ◌∙◌, subst, arith, length-append, EachAt, EachPair}

-- a list of one item, whose last item this is
pub only_item : {X : Type 0} (xs front : List X) (x : X) → xs ≡ front ++ x ∷ [] → length xs ≡ 1 → xs ≡ x ∷ []
only_item xs [] x is one = is
only_item xs (y ∷ front) x is one = absurd (let size = ap length is in let more = length-append (y ∷ front) (x ∷ []) in omega (arith, size, more, one))

-- and then nothing is before it
pub none_before : {X : Type 0} (front : List X) → length front ≡ 0 → front ≡ []
none_before [] none = refl
none_before (y ∷ front) none = absurd (omega (arith, none))

-- what holds of the one item holds of each
pub one_each : {X : Type 0} (P : ℕ → X → Type 0) (x : X) → P zero x → EachAt P (x ∷ [])
one_each P x p zero d low = p
one_each P x p (suc k) d low = absurd (omega (arith, low))

pub only_each : {X : Type 0} (P : ℕ → X → Type 0) (xs : List X) (x : X) → xs ≡ x ∷ [] → P zero x → EachAt P xs
only_each P xs x is p = subst (EachAt P) (sym is) (one_each P x p)

-- and the other way round
pub each_only : {X : Type 0} (P : ℕ → X → Type 0) (xs : List X) (x : X) → xs ≡ x ∷ [] → EachAt P xs → P zero x
each_only P xs x is each = subst (EachAt P) is each zero x (omega arith)

pub pair_only : {X Y : Type 0} (P : ℕ → X → Y → Type 0) (xs : List X) (ys : List Y) (x : X) (y : Y) → xs ≡ x ∷ [] → ys ≡ y ∷ [] → EachPair P xs ys → P zero x y
pair_only P xs ys x y is and_is each = (subst (EachPair P (x ∷ [])) and_is (subst (λ l. EachPair P l ys) is each)).1 zero x y (omega arith)
