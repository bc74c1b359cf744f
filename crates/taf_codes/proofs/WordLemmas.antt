-- Four bytes as one number.
use Rattle.taf_codes.proofs.Common.{◌≡◌, ℕ, true, List, ap, sym, ◌∙◌, inl, inr, nat_eq, bytes_eq, w32, to_le_bytes, from_le_bytes, cases_Bool, false≢true, numbers, texts}

-- the bytes of equal numbers are equal
same_bytes : (a b : List ℕ) (m n : ℕ) → to_le_bytes w32 m ≡ a → to_le_bytes w32 n ≡ b → nat_eq m n ≡ true → bytes_eq a b ≡ true
same_bytes a b m n first second t =
    let same : a ≡ b = sym first ∙ ap (to_le_bytes w32) (numbers.equal m n t) ∙ second in
    ap (bytes_eq a) (sym same) ∙ texts.itself a

-- the numbers of equal bytes are equal
same_number : (a b : List ℕ) (m n : ℕ) → m ≡ from_le_bytes w32 a → n ≡ from_le_bytes w32 b → bytes_eq a b ≡ true → nat_eq m n ≡ true
same_number a b m n first second t =
    let same : m ≡ n = first ∙ ap (from_le_bytes w32) (texts.equal a b t) ∙ sym second in
    ap (nat_eq m) (sym same) ∙ numbers.itself m

-- four bytes are equal exactly where their numbers are
pub compared_as_number : (a b : List ℕ) (m n : ℕ) → to_le_bytes w32 m ≡ a → to_le_bytes w32 n ≡ b → m ≡ from_le_bytes w32 a → n ≡ from_le_bytes w32 b → nat_eq m n ≡ bytes_eq a b
compared_as_number a b m n back also first second = elim (cases_Bool (nat_eq m n)) [
  | inl t ↦ t ∙ sym (same_bytes a b m n back also t)
  | inr f ↦ elim (cases_Bool (bytes_eq a b)) [
    | inl t ↦ absurd (false≢true (sym f ∙ same_number a b m n first second t))
    | inr g ↦ f ∙ sym g
  ]
]
