-- Lists of what is found of the items, one item after another.
use Rattle.std.proofs.Common.{◌≡◌, ℕ, ◌+◌, Bool, true, false, if◌then◌else◌, List, [], ◌∷◌, ◌++◌, take, append-nil, filter, filter_map, Option, Some, None, refl, ap, ◌∙◌}
use Rattle.std.specs.List.{slice_get, cons_option}
use Rattle.std.proofs.lemmas.List.{take_more}
use Rattle.std.proofs.lemmas.List.Elements.{filter_map-append}
use Rattle.std.proofs.lemmas.Option.{slice_get_within, get_or_from_slice_get}

-- the items up to i, and the one at i
up_to : {X : Type 0} (xs : List X) (i : ℕ) (x : X) → slice_get xs i ≡ Some x → take (i + 1) xs ≡ take i xs ++ x ∷ []
up_to xs i x here =
    take_more xs i x (slice_get_within xs i x here) ∙ ap (λ y. take i xs ++ y ∷ []) (get_or_from_slice_get xs i x x here)

-- where something is found of the item at i, it comes last
pub found : {X Y : Type 0} (f : X → Option Y) (xs : List X) (i : ℕ) (x : X) (ys : List Y) (y : Y) →
    slice_get xs i ≡ Some x → f x ≡ Some y → ys ≡ filter_map f (take i xs) → ys ++ y ∷ [] ≡ filter_map f (take (i + 1) xs)
found f xs i x ys y here finds so_far =
    rw (up_to xs i x here, filter_map-append f (take i xs) (x ∷ []), finds, so_far)

-- where nothing is found of it, all stays
pub passed : {X Y : Type 0} (f : X → Option Y) (xs : List X) (i : ℕ) (x : X) (ys : List Y) →
    slice_get xs i ≡ Some x → f x ≡ None → ys ≡ filter_map f (take i xs) → ys ≡ filter_map f (take (i + 1) xs)
passed f xs i x ys here finds so_far =
    rw (up_to xs i x here, filter_map-append f (take i xs) (x ∷ []), finds, append-nil (filter_map f (take i xs))) so_far

-- the item, if it passes the test
abbrev pub passing : {X Y : Type 0} → (X → Bool) → (X → Option Y) → X → Option Y
passing p f x = if p x then f x else None

-- what is found of the items that pass a test
pub of_filtered : {X Y : Type 0} (p : X → Bool) (f : X → Option Y) (xs : List X) →
    filter_map (passing p f) xs ≡ filter_map f (filter p xs)
of_filtered p f [] = refl
of_filtered p f (x ∷ xs) =
    elim (p x) as (λ b. cons_option (if b then f x else None) (filter_map (passing p f) xs) ≡ filter_map f (if b then x ∷ filter p xs else filter p xs))
    [ true ↦ ap (cons_option (f x)) (of_filtered p f xs) | false ↦ of_filtered p f xs ]
