-- Columns and units in a row.
use Rattle.std.proofs.Common.{◌≡◌, ◌∙◌, ℕ, List, [], ◌∷◌, ◌++◌, ap, sym, refl, append_assoc, append-nil, flat_map, ◌≤◌, length, take}
use Rattle.std.proofs.lemmas.List.{take_all}
use Rattle.wimo_report.specs.Report.{units_text}
use Rattle.std.specs.List.{join_with_byte}

-- each piece after the first has the mark before it
pub joined : (c : ℕ) (x : List ℕ) (xs : List (List ℕ)) → join_with_byte c (x ∷ xs) ≡ x ++ flat_map (λ y. c ∷ y) xs
joined c x [] = sym (append-nil x)
joined c x (y ∷ ys) = ap (λ l. x ++ (c ∷ l)) (joined c y ys)

-- two rows of columns with the mark between them
pub rows : (c : ℕ) (x : List ℕ) (xs : List (List ℕ)) (y : List ℕ) (ys : List (List ℕ)) → join_with_byte c (x ∷ xs) ++ (c ∷ join_with_byte c (y ∷ ys)) ≡ join_with_byte c ((x ∷ xs) ++ (y ∷ ys))
rows c x [] y ys = refl
rows c x (z ∷ xs) y ys = append_assoc x (c ∷ join_with_byte c (z ∷ xs)) (c ∷ join_with_byte c (y ∷ ys)) ∙ ap (λ l. x ++ (c ∷ l)) (rows c z xs y ys)

-- one column more
more : (s x : List ℕ) (xs : List (List ℕ)) (y : List ℕ) → (s ++ join_with_byte 32 (x ∷ xs)) ++ (32 ∷ y) ≡ s ++ join_with_byte 32 ((x ∷ xs) ++ y ∷ [])
more s x xs y = append_assoc s (join_with_byte 32 (x ∷ xs)) (32 ∷ y) ∙ ap (λ l. s ++ l) (rows 32 x xs y [])

-- columns that were appended one after another
pub four : (s s₁ s₂ s₃ s₄ a b c d : List ℕ) → s₁ ≡ s ++ a → s₂ ≡ s₁ ++ (32 ∷ b) → s₃ ≡ s₂ ++ (32 ∷ c) → s₄ ≡ s₃ ++ (32 ∷ d) → s₄ ≡ s ++ join_with_byte 32 (a ∷ b ∷ c ∷ d ∷ [])
four s s₁ s₂ s₃ s₄ a b c d e₁ e₂ e₃ e₄ =
    let f₂ = e₂ ∙ ap (λ l. l ++ (32 ∷ b)) e₁ ∙ more s a [] b in
    let f₃ = e₃ ∙ ap (λ l. l ++ (32 ∷ c)) f₂ ∙ more s a (b ∷ []) c in
    e₄ ∙ ap (λ l. l ++ (32 ∷ d)) f₃ ∙ more s a (b ∷ c ∷ []) d

pub five : (s s₁ s₂ s₃ s₄ s₅ a b c d e : List ℕ) → s₁ ≡ s ++ (32 ∷ a) → s₂ ≡ s₁ ++ (32 ∷ b) → s₃ ≡ s₂ ++ (32 ∷ c) → s₄ ≡ s₃ ++ (32 ∷ d) → s₅ ≡ s₄ ++ (32 ∷ e) → s₅ ≡ s ++ (32 ∷ join_with_byte 32 (a ∷ b ∷ c ∷ d ∷ e ∷ []))
five s s₁ s₂ s₃ s₄ s₅ a b c d e e₁ e₂ e₃ e₄ e₅ =
    e₅ ∙ ap (λ l. l ++ (32 ∷ e)) (four s s₁ s₂ s₃ s₄ (32 ∷ a) b c d e₁ e₂ e₃ e₄) ∙ more s (32 ∷ a) (b ∷ c ∷ d ∷ []) e

-- a whole line
pub whole : (s s₁ s₂ s₃ x : List ℕ) (xs : List (List ℕ)) (y : List ℕ) (ys : List (List ℕ)) (units : List ℕ) → s ≡ [] → s₁ ≡ s ++ join_with_byte 32 (x ∷ xs) → s₂ ≡ s₁ ++ (32 ∷ join_with_byte 32 (y ∷ ys)) → s₃ ≡ s₂ ++ units → s₃ ≡ join_with_byte 32 ((x ∷ xs) ++ (y ∷ ys)) ++ units
whole s s₁ s₂ s₃ x xs y ys units e e₁ e₂ e₃ =
    let first : s₁ ≡ join_with_byte 32 (x ∷ xs) = e₁ ∙ ap (λ l. l ++ join_with_byte 32 (x ∷ xs)) e in
    let both = e₂ ∙ ap (λ l. l ++ (32 ∷ join_with_byte 32 (y ∷ ys))) first ∙ rows 32 x xs y ys in
    e₃ ∙ ap (λ l. l ++ units) both

-- the first unit after a blank, and each other after a comma
pub with_units : (s s₁ s₂ text first : List ℕ) (others units : List (List ℕ)) (i : ℕ) → s₁ ≡ s ++ (32 ∷ text) → text ≡ first → s₂ ≡ s₁ ++ flat_map (λ unit. 44 ∷ unit) (take i others) → length others ≤ i → units ≡ first ∷ others → s₂ ≡ s ++ units_text units
with_units s s₁ s₂ text first others units i e₁ t e₂ le u =
    let f = λ (unit : List ℕ). 44 ∷ unit in
    let begun : s₁ ≡ s ++ (32 ∷ first) = e₁ ∙ ap (λ l. s ++ (32 ∷ l)) t in
    e₂ ∙ ap (λ l. s₁ ++ flat_map f l) (take_all i others le) ∙ ap (λ l. l ++ flat_map f others) begun ∙ append_assoc s (32 ∷ first) (flat_map f others)
    ∙ ap (λ l. s ++ (32 ∷ l)) (sym (joined 44 first others)) ∙ ap (λ l. s ++ units_text l) (sym u)
