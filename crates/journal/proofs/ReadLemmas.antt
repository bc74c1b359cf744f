-- The steps of reading.
use Rattle.std.proofs.Common.{◌≡◌, ◌≢◌, ◌⊎◌, inl, inr, ℕ, zero, suc, ◌+◌, ◌≤◌, ◌<◌, ◌==◌, Bool, true, false, List, [], ◌∷◌, ◌++◌, length, get_or, take, drop, refl, sym, ◌∙◌, ap, subst, arith, append_assoc, add-one, drop-cons}
use Rattle.std.proofs.lemmas.Bool.{cases_eq}
use Rattle.std.proofs.lemmas.Bool.Decides.{nat_tests}
use Rattle.std.proofs.lemmas.List.{take_more}
use Rattle.journal.specs.Lines.{is_nil, read_on, recovered_lines, AreWhole, is_torn, HasWholeBatches}
use Rattle.journal.proofs.Reading.{ReadingState, with_byte}
use Rattle.journal.proofs.LineLemmas.{read_hole, read_end, read_newline, read_byte, torn_more, torn_newline, torn_end, as_newline}

-- from a byte 0 on nothing counts
pub hole_ends : (bytes : List ℕ) (i : ℕ) → i < length bytes → get_or bytes i 0 ≡ 0 → (line : List ℕ) (batch : List (List ℕ)) → read_on line batch (drop i bytes) ≡ []
hole_ends bytes i within hole line batch =
    ap (read_on line batch) (drop-cons bytes i 0 within ∙ ap (λ x. x ∷ drop (suc i) bytes) hole)
    ∙ read_hole line batch (drop (suc i) bytes)

-- a byte more of what may be torn
pub torn_step : (bytes : List ℕ) (i : ℕ) (empty : Bool) → i < length bytes → (get_or bytes i 0 ≡ 10 → empty ≡ false) → is_torn empty (drop i bytes) ≡ is_torn (get_or bytes i 0 == 10) (drop (i + 1) bytes)
torn_step bytes i empty within open_line = elim (cases_eq (get_or bytes i 0) 10) [
  | inl newline ↦
      let is : (get_or bytes i 0 == 10) ≡ true = grind (arith, nat_tests) in
      ap (is_torn empty) (drop-cons bytes i 0 within)
      ∙ ap (λ e. is_torn e (get_or bytes i 0 ∷ drop (suc i) bytes)) (open_line newline)
      ∙ torn_newline (get_or bytes i 0) (drop (suc i) bytes) newline
      ∙ rw (add-one, is) refl
  | inr inner ↦
      let is : (get_or bytes i 0 == 10) ≡ false = grind (arith, nat_tests) in
      ap (is_torn empty) (drop-cons bytes i 0 within)
      ∙ torn_more empty (get_or bytes i 0) (drop (suc i) bytes) inner
      ∙ rw (add-one, is) refl
]

nil_at : (bytes : List ℕ) (i : ℕ) → i < length bytes → (i + 1 == length bytes) ≡ is_nil (drop (suc i) bytes)
nil_at [] i within = absurd (omega arith)
nil_at (b ∷ []) zero within = refl
nil_at (b ∷ c ∷ bytes) zero within = grind (arith, nat_tests)
nil_at (b ∷ bytes) (suc i) within =
    let below : i < length bytes = omega arith in
    shifted i (length bytes) ∙ nil_at bytes i below
  where
    shifted : (m n : ℕ) → (suc m + 1 == suc n) ≡ (m + 1 == n)
    shifted m n = grind (arith, nat_tests)

-- a newline where the line has no byte yet
pub torn_last : (bytes : List ℕ) (i : ℕ) → i < length bytes → get_or bytes i 0 ≡ 10 → is_torn true bytes ≡ is_torn true (drop i bytes) → (i + 1 == length bytes) ≡ is_torn true bytes
torn_last bytes i within newline so_far =
    nil_at bytes i within
    ∙ sym (torn_end (get_or bytes i 0) (drop (suc i) bytes) newline)
    ∙ ap (is_torn true) (sym (drop-cons bytes i 0 within))
    ∙ sym so_far

-- ---- what is read up to an index

pub record IsReadTo (bytes : List ℕ) (i : ℕ) (s : ReadingState) : Type 0 where
  pub within : s.whole ≤ i
  pub front : AreWhole (take s.whole bytes) s.lines
  pub rest : recovered_lines (drop s.whole bytes) ≡ read_on s.line s.batch (drop i bytes)
  pub so_far : (more : List ℕ) → recovered_lines (take i bytes ++ more) ≡ s.lines ++ read_on s.line s.batch more

pub read_start : (bytes : List ℕ) → IsReadTo bytes 0 (record { lines = []; batch = []; line = []; whole = 0 })
read_start bytes = record { within = omega arith; front = record { stand_for = λ more. refl }; rest = refl; so_far = λ more. refl }

take_one_more : (bytes : List ℕ) (i : ℕ) (more : List ℕ) → i < length bytes → take (i + 1) bytes ++ more ≡ take i bytes ++ (get_or bytes i 0 ∷ more)
take_one_more bytes i more within = ap (λ t. t ++ more) (take_more bytes i 0 within) ∙ append_assoc (take i bytes) (get_or bytes i 0 ∷ []) more

pub drop_one_more : (bytes : List ℕ) (i : ℕ) → i < length bytes → drop i bytes ≡ get_or bytes i 0 ∷ drop (i + 1) bytes
drop_one_more bytes i within = rw (add-one, drop-cons bytes i 0 within) refl

pub after_byte : (s : ReadingState) (b n : ℕ) → b ≢ 10 → with_byte s b n ≡ record { lines = s.lines; batch = s.batch; line = s.line ++ b ∷ []; whole = s.whole }
after_byte s b n inner = grind (arith, nat_tests)

pub after_end : (s : ReadingState) (b n : ℕ) → b ≡ 10 → is_nil s.line ≡ true → with_byte s b n ≡ record { lines = s.lines ++ s.batch; batch = []; line = []; whole = n }
after_end s b n newline none = grind (arith, nat_tests)

pub after_line : (s : ReadingState) (b n : ℕ) → b ≡ 10 → is_nil s.line ≡ false → with_byte s b n ≡ record { lines = s.lines; batch = s.batch ++ s.line ∷ []; line = []; whole = s.whole }
after_line s b n newline some = grind (arith, nat_tests)

-- a step by which the rest stands for the same, with the same whole batches
same_batches : (bytes : List ℕ) (i : ℕ) (s : ReadingState) (line : List ℕ) (batch : List (List ℕ)) → i < length bytes → IsReadTo bytes i s
    → ((more : List ℕ) → read_on s.line s.batch (get_or bytes i 0 ∷ more) ≡ read_on line batch more)
    → IsReadTo bytes (i + 1) (record { lines = s.lines; batch = batch; line = line; whole = s.whole })
same_batches bytes i s line batch within read step = record {
  within = omega (arith, read.within);
  front = read.front;
  rest = read.rest ∙ ap (read_on s.line s.batch) (drop_one_more bytes i within) ∙ step (drop (i + 1) bytes);
  so_far = λ more. ap recovered_lines (take_one_more bytes i more within) ∙ read.so_far (get_or bytes i 0 ∷ more) ∙ ap (λ l. s.lines ++ l) (step more);
}

-- the step by which a batch ends
one_batch_more : (bytes : List ℕ) (i : ℕ) (s : ReadingState) → i < length bytes → IsReadTo bytes i s
    → ((more : List ℕ) → read_on s.line s.batch (get_or bytes i 0 ∷ more) ≡ s.batch ++ recovered_lines more)
    → IsReadTo bytes (i + 1) (record { lines = s.lines ++ s.batch; batch = []; line = []; whole = i + 1 })
one_batch_more bytes i s within read step =
    let stands : (more : List ℕ) → recovered_lines (take (i + 1) bytes ++ more) ≡ (s.lines ++ s.batch) ++ recovered_lines more = λ more.
    ap recovered_lines (take_one_more bytes i more within) ∙ read.so_far (get_or bytes i 0 ∷ more) ∙ ap (λ l. s.lines ++ l) (step more) ∙ sym (append_assoc s.lines s.batch (recovered_lines more)) in
    record { within = omega arith; front = record { stand_for = stands }; rest = refl; so_far = stands }

nil_line : (line : List ℕ) (batch : List (List ℕ)) (b : ℕ) (more : List ℕ) → is_nil line ≡ true → b ≡ 10 → read_on line batch (b ∷ more) ≡ batch ++ recovered_lines more
nil_line [] batch b more none newline = as_newline [] batch b more newline ∙ read_end batch more
nil_line (x ∷ line) batch b more none newline = cc

pub nil_cases : (line : List ℕ) → (is_nil line ≡ true) ⊎ (is_nil line ≡ false)
nil_cases [] = inl refl
nil_cases (x ∷ line) = inr refl

pub read_step : (bytes : List ℕ) (i : ℕ) (s : ReadingState) → i < length bytes → get_or bytes i 0 ≢ 0 → IsReadTo bytes i s → IsReadTo bytes (i + 1) (with_byte s (get_or bytes i 0) (i + 1))
read_step bytes i s within some read =
    let b = get_or bytes i 0 in
    elim (cases_eq b 10) [
      | inr inner ↦ subst (IsReadTo bytes (i + 1)) (sym (after_byte s b (i + 1) inner)) (same_batches bytes i s (s.line ++ b ∷ []) s.batch within read (λ more. read_byte s.line s.batch b more some inner))
      | inl newline ↦ elim (nil_cases s.line) [
        | inl none ↦ subst (IsReadTo bytes (i + 1)) (sym (after_end s b (i + 1) newline none)) (one_batch_more bytes i s within read (λ more. nil_line s.line s.batch b more none newline))
        | inr line ↦ subst (IsReadTo bytes (i + 1)) (sym (after_line s b (i + 1) newline line)) (same_batches bytes i s [] (s.batch ++ s.line ∷ []) within read (λ more. as_newline s.line s.batch b more newline ∙ read_newline s.line s.batch more line))
      ]
    ]

-- what was read up to the index from which on nothing counts
pub read_found : (bytes : List ℕ) (i : ℕ) (s : ReadingState) (torn : Bool) → i ≤ length bytes → IsReadTo bytes i s → ((line : List ℕ) (batch : List (List ℕ)) → read_on line batch (drop i bytes) ≡ []) → torn ≡ is_torn true (drop s.whole bytes) → HasWholeBatches bytes s.lines s.whole torn
read_found bytes i s torn within read nothing rest = record { within = omega (arith, read.within); front = read.front; nothing = read.rest ∙ nothing s.line s.batch; rest = rest }
