-- What a journal gives while it is read.
use Rattle.std.proofs.Common.{◌≡◌, ◌⊎◌, inl, inr, ℕ, ◌+◌, ◌-◌, ◌≤◌, ◌<◌, ◌&&◌, Bool, true, false, List, [], ◌∷◌, ◌++◌, length, take, drop, refl, sym, ◌∙◌, ap, subst, arith}
use Rattle.std.specs.Prelude.{◌^◌}
use Rattle.std.proofs.lemmas.Bool.{cases_eq, cases_lt, false≢true}
use Rattle.std.proofs.lemmas.List.{append-nil, append_cancel_left, append_assoc, take-append-drop, take-append-le, drop-append-le, drop-drop, length-append, length-drop}
use Rattle.std.proofs.Math.Seq.{take-add, take-append_seam, drop-append_seam}
use Rattle.journal.specs.Lines.{is_nil, read_on, recovered_lines, AreWhole, is_torn, HasWholeBatches, IsNeverLeft, text_lines}
use Rattle.journal.specs.Journals.{IsSplit, IsDamage, fault_of_read}
use Rattle.journal.specs.declared.reader.JournalFault.{JournalFault}
use Rattle.log_file.specs.declared.reader.ReadFault.{ReadFault}
use Rattle.log_file.specs.declared.reader.ReadFault.TheVariants as read_fault
use Rattle.journal.proofs.LineLemmas.{nil_is, read_none, read_hole, read_newline, read_byte, torn_more, torn_newline, torn_end, torn_none, both_whole, none_whole, grown_some, as_newline}
use Rattle.journal.proofs.EndLemmas.{not_begun, one_line, apart}
use Rattle.journal.proofs.ReadLemmas.{nil_cases}
use Rattle.journal.proofs.JournalLemmas.{whole_recovered}
use Rattle.journal.proofs.TextLemmas.{whole_lines}

-- ---- whole batches with what is behind them

no_lines : (lines : List (List ℕ)) → [] ≡ lines ++ recovered_lines [] → lines ≡ []
no_lines lines e = sym (e ∙ ap (λ l. lines ++ l) (read_none [] []) ∙ append-nil lines)

some_batch : (batch : List (List ℕ)) (line : List ℕ) → is_nil (batch ++ line ∷ []) ≡ false
some_batch [] line = refl
some_batch (b ∷ batch) line = refl

not_begun_here : (line : List ℕ) (batch : List (List ℕ)) → is_nil line ≡ false → (is_nil line && is_nil batch) ≡ false
not_begun_here line batch some = ap (λ x. x && is_nil batch) some

back_nil : (front back : List ℕ) → front ++ back ≡ [] → back ≡ []
back_nil [] back e = e
back_nil (x ∷ front) back e = cc

-- a batch has begun, or the text has a byte: the text ends a batch
abbrev Ends : List ℕ → List ℕ → List (List ℕ) → List (List ℕ) → Type 0
Ends text line batch lines = (more : List ℕ) → read_on line batch (text ++ more) ≡ lines ++ recovered_lines more

-- where a batch ends at the end of the text, and at most at the end of all, nothing follows the text
nothing_follows : (text rest line : List ℕ) (batch lines : List (List ℕ)) → Ends text line batch lines → ((is_nil line && is_nil batch) ≡ false) ⊎ (is_nil text ≡ false) → is_torn (is_nil line) (text ++ rest) ≡ true → rest ≡ []
nothing_follows [] rest line batch lines ends (inr some) torn = absurd (false≢true (sym some))
nothing_follows [] rest line batch lines ends (inl begun) torn =
    let none : lines ≡ [] = no_lines lines (sym (read_none line batch) ∙ ends []) in
    absurd (false≢true (sym begun ∙ not_begun line batch (λ more. ends more ∙ ap (λ l. l ++ recovered_lines more) none)))
nothing_follows (b ∷ text) rest line batch lines ends some torn = elim (cases_eq b 0) [
  | inl hole ↦
      let hidden : (more : List ℕ) → [] ≡ lines ++ recovered_lines more = λ more. sym (ap (λ x. read_on line batch (x ∷ (text ++ more))) hole ∙ read_hole line batch (text ++ more)) ∙ ends more in
      let none : lines ≡ [] = no_lines lines (hidden []) in
      absurd (apart (hidden (1 ∷ 10 ∷ 10 ∷ []) ∙ ap (λ l. l ++ recovered_lines (1 ∷ 10 ∷ 10 ∷ [])) none ∙ one_line))
  | inr kept ↦ elim (cases_eq b 10) [
    | inr inner ↦
        nothing_follows text rest (line ++ b ∷ []) batch lines (λ more. sym (read_byte line batch b (text ++ more) kept inner) ∙ ends more)
        (inl (not_begun_here (line ++ b ∷ []) batch (grown_some line b)))
        (ap (λ e. is_torn e (text ++ rest)) (grown_some line b) ∙ sym (torn_more (is_nil line) b (text ++ rest) inner) ∙ torn)
    | inl newline ↦ elim (nil_cases line) [
      | inl none ↦
          let last : is_nil (text ++ rest) ≡ true = sym (ap (λ e. is_torn e (b ∷ (text ++ rest))) none ∙ torn_end b (text ++ rest) newline) ∙ torn in
          back_nil text rest (nil_is (text ++ rest) last)
      | inr line_some ↦
          nothing_follows text rest [] (batch ++ line ∷ []) lines
          (λ more. sym (as_newline line batch b (text ++ more) newline ∙ read_newline line batch (text ++ more) line_some) ∙ ends more)
          (inl (some_batch batch line))
          (sym (ap (λ e. is_torn e (b ∷ (text ++ rest))) line_some ∙ torn_newline b (text ++ rest) newline) ∙ torn)
    ]
  ]
]

some_nil : (text : List ℕ) → 0 < length text → is_nil text ≡ false
some_nil [] lt = absurd (omega (arith, lt))
some_nil (b ∷ text) lt = refl

-- what stands behind whole batches within whole batches is whole batches
rest_whole : (front back : List ℕ) (lines all : List (List ℕ)) → AreWhole front lines → AreWhole (front ++ back) all → AreWhole back (recovered_lines back)
rest_whole front back lines all f a = record {
  stand_for = λ more.
      let both : lines ++ recovered_lines (back ++ more) ≡ all ++ recovered_lines more =
      sym (f.stand_for (back ++ more)) ∙ sym (ap recovered_lines (append_assoc front back more)) ∙ a.stand_for more in
      let split : all ≡ lines ++ recovered_lines back = sym (whole_recovered (front ++ back) all a) ∙ f.stand_for back in
      append_cancel_left lines (recovered_lines (back ++ more)) (recovered_lines back ++ recovered_lines more)
      (both ∙ ap (λ l. l ++ recovered_lines more) split ∙ append_assoc lines (recovered_lines back) (recovered_lines more));
}

-- what no crash leaves behind whole batches, no crash leaves with them
module _ (given rest : List ℕ) (lines : List (List ℕ)) (are : AreWhole given lines) (never : IsNeverLeft rest) (not_torn : is_torn true rest ≡ false) where
  -- the batches would end within those that were given
  ends_within : (k : ℕ) (left : List (List ℕ)) → k < length given → HasWholeBatches (given ++ rest) left k true → ⊥
  ends_within k left below found =
      let t : List ℕ = drop k given in
      let whole : AreWhole (take k given) left = subst (λ b. AreWhole b left) (take-append-le k given rest (omega (arith, below))) found.front in
      let split : given ≡ take k given ++ t = sym (take-append-drop k given) in
      let behind : AreWhole t (recovered_lines t) = rest_whole (take k given) t left lines whole (subst (λ b. AreWhole b lines) split are) in
      let torn : is_torn true (t ++ rest) ≡ true = ap (is_torn true) (sym (drop-append-le k given rest (omega (arith, below)))) ∙ sym found.rest in
      let some : is_nil t ≡ false = some_nil t (omega (arith, length-drop k given, below)) in
      let none : rest ≡ [] = nothing_follows t rest [] [] (recovered_lines t) behind.stand_for (inr some) torn in
      false≢true (sym not_torn ∙ ap (is_torn true) none ∙ torn_none true)

  -- or behind them
  ends_behind_them : (k : ℕ) (left : List (List ℕ)) → length given ≤ k → HasWholeBatches (given ++ rest) left k true → ⊥
  ends_behind_them k left le found =
      let n : ℕ = k - length given in
      let far : k ≡ length given + n = omega (arith, le) in
      let front : take k (given ++ rest) ≡ given ++ take n rest = front_at n far in
      let back : drop k (given ++ rest) ≡ drop n rest = back_at n far in
      let whole : AreWhole (take n rest) (recovered_lines (take n rest)) = rest_whole given (take n rest) lines left are (subst (λ b. AreWhole b left) front found.front) in
      never (recovered_lines (take n rest)) (
        n,
        record {
          within = omega (arith, found.within, far, length-append given rest);
          front = whole;
          nothing = ap recovered_lines (sym back) ∙ found.nothing;
          rest = found.rest ∙ ap (is_torn true) back;
        },
      )
    where
      front_at : (n : ℕ) → k ≡ length given + n → take k (given ++ rest) ≡ given ++ take n rest
      front_at n far =
          ap (λ m. take m (given ++ rest)) far
          ∙ take-add (length given) n (given ++ rest)
          ∙ ap (λ l. l ++ take n (drop (length given) (given ++ rest))) (take-append_seam given rest)
          ∙ ap (λ l. given ++ take n l) (drop-append_seam given rest)

      back_at : (n : ℕ) → k ≡ length given + n → drop k (given ++ rest) ≡ drop n rest
      back_at n far =
          ap (λ m. drop m (given ++ rest)) far
          ∙ sym (drop-drop n (length given) (given ++ rest))
          ∙ ap (drop n) (drop-append_seam given rest)

  pub still_never : IsNeverLeft (given ++ rest)
  still_never left stands = elim (cases_lt stands.0 (length given)) [
    | inl below ↦ ends_within stands.0 left below stands.1
    | inr le ↦ ends_behind_them stands.0 left le stands.1
  ]

-- ---- a reader's steps

-- nothing was read
pub split_none : IsSplit [] 0 []
split_none = record { within = omega arith; few = omega arith; rest_is = refl; front = subst (AreWhole []) (sym (read_none [] [])) none_whole }

module _ (bytes : List ℕ) (whole : ℕ) (rest : List ℕ) (s : IsSplit bytes whole rest) where
  pub split_is : bytes ≡ take whole bytes ++ rest
  split_is = sym (take-append-drop whole bytes) ∙ ap (λ r. take whole bytes ++ r) (sym s.rest_is)

  pub split_len : whole + length rest ≡ length bytes
  split_len = omega (arith, s.within, ap length s.rest_is, length-drop whole bytes)

  -- what the bytes stand for is what was given, and what stands behind it
  pub recovered_is : recovered_lines bytes ≡ recovered_lines (take whole bytes) ++ recovered_lines rest
  recovered_is = ap recovered_lines split_is ∙ s.front.stand_for rest

  -- a piece more
  pub split_more : (piece : List ℕ) → length (bytes ++ piece) ≤ 2 ^ 40 → IsSplit (bytes ++ piece) whole (rest ++ piece)
  split_more piece few = record {
    within = omega (arith, s.within, length-append bytes piece);
    few = few;
    rest_is = ap (λ r. r ++ piece) s.rest_is ∙ sym (drop-append-le whole bytes piece s.within);
    front = subst (λ b. AreWhole b (recovered_lines b)) (sym (take-append-le whole bytes piece s.within)) s.front;
  }

  -- the same lines were given
  pub same_given : (piece : List ℕ) → recovered_lines (take whole (bytes ++ piece)) ≡ recovered_lines (take whole bytes)
  same_given piece = ap recovered_lines (take-append-le whole bytes piece s.within)

  -- whole batches of the rest are given
  module _ (len : ℕ) (le : len ≤ length rest) (are : AreWhole (take len rest) (recovered_lines rest)) where
    front_more : take (whole + len) bytes ≡ take whole bytes ++ take len rest
    front_more = take-add whole len bytes ∙ ap (λ r. take whole bytes ++ take len r) (sym s.rest_is)

    both : AreWhole (take whole bytes ++ take len rest) (recovered_lines (take whole bytes) ++ recovered_lines rest)
    both = both_whole (take whole bytes) (take len rest) (recovered_lines (take whole bytes)) (recovered_lines rest) s.front are

    pub lines_more : recovered_lines (take (whole + len) bytes) ≡ recovered_lines (take whole bytes) ++ text_lines (take len rest)
    lines_more = ap recovered_lines front_more ∙ whole_recovered (take whole bytes ++ take len rest) (recovered_lines (take whole bytes) ++ recovered_lines rest) both
        ∙ ap (λ l. recovered_lines (take whole bytes) ++ l) (sym (whole_lines (take len rest) (recovered_lines rest) are))

    pub split_given : IsSplit bytes (whole + len) (drop len rest)
    split_given = record {
      within = omega (arith, split_len, le);
      few = s.few;
      rest_is = ap (drop len) s.rest_is ∙ drop-drop len whole bytes;
      front = subst (λ b. AreWhole b (recovered_lines b)) (sym front_more) (subst (AreWhole (take whole bytes ++ take len rest)) (sym (whole_recovered (take whole bytes ++ take len rest) (recovered_lines (take whole bytes) ++ recovered_lines rest) both)) both);
    }

  -- no batch is left: what the bytes stand for was given
  pub all_given : (torn : Bool) → HasWholeBatches rest (recovered_lines rest) 0 torn → HasWholeBatches bytes (recovered_lines bytes) whole torn
  all_given torn found =
      let none : recovered_lines rest ≡ [] = found.nothing in
      let all : recovered_lines bytes ≡ recovered_lines (take whole bytes) =
      recovered_is ∙ ap (λ l. recovered_lines (take whole bytes) ++ l) none ∙ append-nil (recovered_lines (take whole bytes)) in
      record {
        within = s.within;
        front = subst (AreWhole (take whole bytes)) (sym all) s.front;
        nothing = ap recovered_lines (sym s.rest_is) ∙ none;
        rest = found.rest ∙ ap (is_torn true) s.rest_is;
      }

  pub never_left_with : is_torn true rest ≡ false → IsNeverLeft rest → IsNeverLeft bytes
  never_left_with not_torn never = subst IsNeverLeft (sym split_is) (still_never (take whole bytes) rest (recovered_lines (take whole bytes)) s.front never not_torn)

-- a piece that is not read is no damage
pub no_damage : (read : ReadFault) (fault : JournalFault) (bytes : List ℕ) → fault ≡ fault_of_read read → IsDamage fault bytes
no_damage read_fault.Memory fault bytes is = subst (λ f. IsDamage f bytes) (sym is) tt
no_damage read_fault.Failed fault bytes is = subst (λ f. IsDamage f bytes) (sym is) tt
