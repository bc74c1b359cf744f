-- What whole batches, and torn ones, stand for.
use Rattle.std.proofs.Common.{◌≡◌, ◌≢◌, ◌⊎◌, inl, inr, ℕ, zero, suc, ◌+◌, ◌≤◌, Bool, true, false, not, ◌&&◌, ◌==◌, List, [], ◌∷◌, ◌++◌, length, length-append, ◌-◌, take, refl, sym, ◌∙◌, ap, subst, arith, append_assoc, if◌then◌else◌}
use Rattle.std.specs.List.{list_all}
use Rattle.std.proofs.lemmas.Bool.{cases_eq}
use Rattle.std.proofs.lemmas.Bool.Decides.{nat_tests}
use Rattle.std.proofs.lemmas.List.{append-nil}
use Rattle.std.proofs.Math.Seq.{take-append_seam}
use Rattle.log_file.specs.Crashes.{IsTornFront}
use Rattle.journal.specs.Lines.{is_nil, is_line, are_lines, lines_text, IsLinesText, batch_text, read_on, recovered_lines, AreWhole, is_torn, HasLast}

-- ---- a byte more

pub read_hole : (line : List ℕ) (batch : List (List ℕ)) (bytes : List ℕ) → read_on line batch (0 ∷ bytes) ≡ []
unfolding read_on
read_hole line batch bytes = refl

pub read_none : (line : List ℕ) (batch : List (List ℕ)) → read_on line batch [] ≡ []
unfolding read_on
read_none line batch = refl

pub read_end : (batch : List (List ℕ)) (bytes : List ℕ) → read_on [] batch (10 ∷ bytes) ≡ batch ++ recovered_lines bytes
unfolding read_on
read_end batch bytes = refl

pub read_newline : (line : List ℕ) (batch : List (List ℕ)) (bytes : List ℕ) → is_nil line ≡ false → read_on line batch (10 ∷ bytes) ≡ read_on [] (batch ++ line ∷ []) bytes
unfolding read_on
read_newline [] batch bytes some = cc
read_newline (x ∷ line) batch bytes some = refl

pub read_byte : (line : List ℕ) (batch : List (List ℕ)) (b : ℕ) (bytes : List ℕ) → b ≢ 0 → b ≢ 10 → read_on line batch (b ∷ bytes) ≡ read_on (line ++ b ∷ []) batch bytes
unfolding read_on
read_byte line batch b bytes whole on = grind (arith, nat_tests)

-- ---- a line more

-- a byte of a line
abbrev pub is_kept : ℕ → Bool
is_kept b = not (b == 0) && not (b == 10)

not_hole : (b : ℕ) → is_kept b ≡ true → b ≢ 0
not_hole b kept = grind (arith, nat_tests)

not_newline : (b : ℕ) → is_kept b ≡ true → b ≢ 10
not_newline b kept = grind (arith, nat_tests)

both_left : (a b : Bool) → (a && b) ≡ true → a ≡ true
both_left true b e = refl
both_left false b e = cc

both_right : (a b : Bool) → (a && b) ≡ true → b ≡ true
both_right true b e = e
both_right false b e = cc

pub read_front : (front line : List ℕ) (batch : List (List ℕ)) (bytes : List ℕ) → list_all is_kept line ≡ true → read_on front batch (line ++ bytes) ≡ read_on (front ++ line) batch bytes
read_front front [] batch bytes kept = ap (λ l. read_on l batch bytes) (sym (append-nil front))
read_front front (b ∷ line) batch bytes kept =
    let here = both_left (is_kept b) (list_all is_kept line) kept in
    read_byte front batch b (line ++ bytes) (not_hole b here) (not_newline b here)
    ∙ read_front (front ++ b ∷ []) line batch bytes (both_right (is_kept b) (list_all is_kept line) kept)
    ∙ ap (λ l. read_on l batch bytes) (append_assoc front (b ∷ []) line)

not_nil : (line : List ℕ) → is_line line ≡ true → is_nil line ≡ false
not_nil [] is = cc
not_nil (b ∷ line) is = refl

line_kept : (line : List ℕ) → is_line line ≡ true → list_all is_kept line ≡ true
line_kept line is = both_right (not (is_nil line)) (list_all is_kept line) is

read_line : (line : List ℕ) (batch : List (List ℕ)) (bytes : List ℕ) → is_line line ≡ true → read_on [] batch (line ++ 10 ∷ bytes) ≡ read_on [] (batch ++ line ∷ []) bytes
read_line line batch bytes is =
    read_front [] line batch (10 ∷ bytes) (line_kept line is)
    ∙ read_newline line batch bytes (not_nil line is)

pub read_lines : (lines : List (List ℕ)) (batch : List (List ℕ)) (bytes : List ℕ) → are_lines lines ≡ true → read_on [] batch (lines_text lines ++ bytes) ≡ read_on [] (batch ++ lines) bytes
read_lines [] batch bytes are = ap (λ b. read_on [] b bytes) (sym (append-nil batch))
read_lines (line ∷ lines) batch bytes are =
    ap (read_on [] batch) (append_assoc line (10 ∷ lines_text lines) bytes)
    ∙ read_line line batch (lines_text lines ++ bytes) (both_left (is_line line) (are_lines lines) are)
    ∙ read_lines lines (batch ++ line ∷ []) bytes (both_right (is_line line) (are_lines lines) are)
    ∙ ap (λ b. read_on [] b bytes) (append_assoc batch (line ∷ []) lines)

-- a whole batch stands for its lines, whatever follows it
pub batch_whole : (lines : List (List ℕ)) → are_lines lines ≡ true → AreWhole (batch_text lines) lines
batch_whole lines are = record {
  stand_for = λ more.
      ap recovered_lines (append_assoc (lines_text lines) (10 ∷ []) more)
      ∙ read_lines lines [] (10 ∷ more) are
      ∙ read_end lines more;
}

-- nothing stands for nothing
pub none_whole : AreWhole [] []
none_whole = record { stand_for = λ more. refl }

-- whole batches behind whole batches
pub both_whole : (front back : List ℕ) (lines more_lines : List (List ℕ)) → AreWhole front lines → AreWhole back more_lines → AreWhole (front ++ back) (lines ++ more_lines)
both_whole front back lines more_lines f b = record {
  stand_for = λ more.
      ap recovered_lines (append_assoc front back more)
      ∙ f.stand_for (back ++ more)
      ∙ ap (λ l. lines ++ l) (b.stand_for more)
      ∙ sym (append_assoc lines more_lines (recovered_lines more));
}

-- ---- a torn batch

-- a batch ends at the end of the bytes, and nowhere else
unfoldable pub ends_once : Bool → List ℕ → Bool
ends_once empty [] = false
ends_once empty (b ∷ bytes) = if b == 10 then (if empty then is_nil bytes else ends_once true bytes) else ends_once false bytes

ends_behind : (empty : Bool) (line : List ℕ) (bytes : List ℕ) → is_nil line ≡ false → list_all is_kept line ≡ true → ends_once empty (line ++ bytes) ≡ ends_once false bytes
unfolding ends_once
ends_behind empty [] bytes some kept = cc
ends_behind empty (b ∷ []) bytes some kept =
    let here = not_newline b (both_left (is_kept b) true kept) in
    grind (arith, nat_tests)
ends_behind empty (b ∷ c ∷ line) bytes some kept =
    let here = not_newline b (both_left (is_kept b) (list_all is_kept (c ∷ line)) kept) in
    let more = ends_behind false (c ∷ line) bytes refl (both_right (is_kept b) (list_all is_kept (c ∷ line)) kept) in
    grind (arith, nat_tests, more)

pub batch_ends_once : (lines : List (List ℕ)) → are_lines lines ≡ true → ends_once true (batch_text lines) ≡ true
unfolding ends_once
batch_ends_once [] are = refl
batch_ends_once (line ∷ lines) are =
    let is = both_left (is_line line) (are_lines lines) are in
    ap (ends_once true) (append_assoc line (10 ∷ lines_text lines) (10 ∷ []))
    ∙ ends_behind true line (10 ∷ (lines_text lines ++ 10 ∷ [])) (not_nil line is) (line_kept line is)
    ∙ batch_ends_once lines (both_right (is_line line) (are_lines lines) are)

both_same : {x y : ℕ} {xs ys : List ℕ} → x ≡ y → xs ≡ ys → x ∷ xs ≡ y ∷ ys
both_same e f = cc

pub nil_is : {A : Type 0} (xs : List A) → is_nil xs ≡ true → xs ≡ []
nil_is [] e = refl
nil_is (x ∷ xs) e = cc

torn_nil : (torn : List ℕ) → IsTornFront torn [] → torn ≡ []
torn_nil [] part = refl
torn_nil (t ∷ torn) part = absurd part

pub grown_some : (line : List ℕ) (b : ℕ) → is_nil (line ++ b ∷ []) ≡ false
grown_some [] b = refl
grown_some (x ∷ line) b = refl

-- all of the bytes, or nothing of them counts
abbrev Counts : List ℕ → List (List ℕ) → List ℕ → List ℕ → Type 0
Counts line batch torn bytes = (torn ≡ bytes) ⊎ (read_on line batch torn ≡ [])

at_hole : (line : List ℕ) (batch : List (List ℕ)) (t b : ℕ) (torn bytes : List ℕ) → t ≡ 0 → Counts line batch (t ∷ torn) (b ∷ bytes)
at_hole line batch t b torn bytes hole = inr (ap (λ x. read_on line batch (x ∷ torn)) hole ∙ read_hole line batch torn)

at_byte : (line : List ℕ) (batch : List (List ℕ)) (t b : ℕ) (torn bytes : List ℕ) → t ≡ b → b ≢ 0 → b ≢ 10 → Counts (line ++ b ∷ []) batch torn bytes → Counts line batch (t ∷ torn) (b ∷ bytes)
at_byte line batch t b torn bytes same some inner (inl e) = inl (both_same same e)
at_byte line batch t b torn bytes same some inner (inr e) = inr (ap (λ x. read_on line batch (x ∷ torn)) same ∙ read_byte line batch b torn some inner ∙ e)

at_newline : (line : List ℕ) (batch : List (List ℕ)) (t b : ℕ) (torn bytes : List ℕ) → t ≡ b → b ≡ 10 → is_nil line ≡ false → Counts [] (batch ++ line ∷ []) torn bytes → Counts line batch (t ∷ torn) (b ∷ bytes)
at_newline line batch t b torn bytes same newline some (inl e) = inl (both_same same e)
at_newline line batch t b torn bytes same newline some (inr e) = inr (ap (λ x. read_on line batch (x ∷ torn)) (same ∙ newline) ∙ read_newline line batch torn some ∙ e)

ends_on : (empty : Bool) (b : ℕ) (bytes : List ℕ) → b ≢ 10 → ends_once empty (b ∷ bytes) ≡ true → ends_once false bytes ≡ true
unfolding ends_once
ends_on empty b bytes inner ends = grind (arith, nat_tests)

ends_here : (b : ℕ) (bytes : List ℕ) → b ≡ 10 → ends_once true (b ∷ bytes) ≡ true → is_nil bytes ≡ true
unfolding ends_once
ends_here b bytes newline ends = grind (arith, nat_tests)

ends_later : (b : ℕ) (bytes : List ℕ) → b ≡ 10 → ends_once false (b ∷ bytes) ≡ true → ends_once true bytes ≡ true
unfolding ends_once
ends_later b bytes newline ends = grind (arith, nat_tests)

ends_some : (empty : Bool) → ends_once empty [] ≡ true → ⊥
unfolding ends_once
ends_some empty ends = cc

-- What is left of a batch is all of it, or nothing of it counts.
pub torn_counts : (empty : Bool) (line : List ℕ) (batch : List (List ℕ)) (torn bytes : List ℕ) → ends_once empty bytes ≡ true → is_nil line ≡ empty → IsTornFront torn bytes → Counts line batch torn bytes
torn_counts empty line batch [] bytes ends is part = inr (read_none line batch)
torn_counts empty line batch (t ∷ torn) [] ends is part = absurd part
torn_counts true line batch (t ∷ torn) (b ∷ bytes) ends is part = elim part.0 [
  | inr hole ↦ at_hole line batch t b torn bytes hole
  | inl same ↦ elim (cases_eq b 0) [
    | inl none ↦ at_hole line batch t b torn bytes (same ∙ none)
    | inr some ↦ elim (cases_eq b 10) [
      | inl newline ↦
          let last : bytes ≡ [] = nil_is bytes (ends_here b bytes newline ends) in
          let none : torn ≡ [] = torn_nil torn (subst (IsTornFront torn) last part.1) in
          inl (both_same same (none ∙ sym last))
      | inr inner ↦ at_byte line batch t b torn bytes same some inner (torn_counts false (line ++ b ∷ []) batch torn bytes (ends_on true b bytes inner ends) (grown_some line b) part.1)
    ]
  ]
]
torn_counts false line batch (t ∷ torn) (b ∷ bytes) ends is part = elim part.0 [
  | inr hole ↦ at_hole line batch t b torn bytes hole
  | inl same ↦ elim (cases_eq b 0) [
    | inl none ↦ at_hole line batch t b torn bytes (same ∙ none)
    | inr some ↦ elim (cases_eq b 10) [
      | inl newline ↦ at_newline line batch t b torn bytes same newline is (torn_counts true [] (batch ++ line ∷ []) torn bytes (ends_later b bytes newline ends) refl part.1)
      | inr inner ↦ at_byte line batch t b torn bytes same some inner (torn_counts false (line ++ b ∷ []) batch torn bytes (ends_on false b bytes inner ends) (grown_some line b) part.1)
    ]
  ]
]

-- ---- nor is what is left of one taken for damage

pub torn_more : (empty : Bool) (b : ℕ) (bytes : List ℕ) → b ≢ 10 → is_torn empty (b ∷ bytes) ≡ is_torn false bytes
unfolding is_torn
torn_more empty b bytes inner = grind (arith, nat_tests)

pub torn_newline : (b : ℕ) (bytes : List ℕ) → b ≡ 10 → is_torn false (b ∷ bytes) ≡ is_torn true bytes
unfolding is_torn
torn_newline b bytes newline = grind (arith, nat_tests)

pub torn_end : (b : ℕ) (bytes : List ℕ) → b ≡ 10 → is_torn true (b ∷ bytes) ≡ is_nil bytes
unfolding is_torn
torn_end b bytes newline = grind (arith, nat_tests)

pub torn_none : (empty : Bool) → is_torn empty [] ≡ true
unfolding is_torn
torn_none empty = refl

one_byte : (seems : Bool) (t : ℕ) → is_torn seems (t ∷ []) ≡ true
one_byte true t = elim (cases_eq t 10) [ inl newline ↦ torn_end t [] newline | inr inner ↦ torn_more true t [] inner ∙ torn_none false ]
one_byte false t = elim (cases_eq t 10) [ inl newline ↦ torn_newline t [] newline ∙ torn_none true | inr inner ↦ torn_more false t [] inner ∙ torn_none false ]

apart : false ≡ true → ⊥
apart e = cc

-- `seems` is what the torn bytes look like so far: where they look empty, the line is
abbrev Seems : Bool → Bool → Type 0
Seems seems empty = seems ≡ true → empty ≡ true

pub torn_front : (seems empty : Bool) (torn bytes : List ℕ) → Seems seems empty → ends_once empty bytes ≡ true → IsTornFront torn bytes → is_torn seems torn ≡ true
torn_front seems empty [] bytes is ends part = torn_none seems
torn_front seems empty (t ∷ torn) [] is ends part = absurd part
torn_front seems true (t ∷ torn) (b ∷ bytes) is ends part = elim (cases_eq b 10) [
  | inl newline ↦
      let last : bytes ≡ [] = nil_is bytes (ends_here b bytes newline ends) in
      let none : torn ≡ [] = torn_nil torn (subst (IsTornFront torn) last part.1) in
      ap (λ l. is_torn seems (t ∷ l)) none ∙ one_byte seems t
  | inr inner ↦ elim part.0 [
    | inl same ↦ torn_more seems t torn (λ e. inner (sym same ∙ e)) ∙ torn_front false false torn bytes (λ e. e) (ends_on true b bytes inner ends) part.1
    | inr hole ↦ torn_more seems t torn (λ e. absurd (omega (arith, hole, e))) ∙ torn_front false false torn bytes (λ e. e) (ends_on true b bytes inner ends) part.1
  ]
]
torn_front true false (t ∷ torn) (b ∷ bytes) is ends part = absurd (apart (is refl))
torn_front false false (t ∷ torn) (b ∷ bytes) is ends part = elim (cases_eq b 10) [
  | inl newline ↦ elim part.0 [
    | inl same ↦ torn_newline t torn (same ∙ newline) ∙ torn_front true true torn bytes (λ e. refl) (ends_later b bytes newline ends) part.1
    | inr hole ↦ torn_more false t torn (λ e. absurd (omega (arith, hole, e))) ∙ torn_front false true torn bytes (λ e. absurd (apart e)) (ends_later b bytes newline ends) part.1
  ]
  | inr inner ↦ elim part.0 [
    | inl same ↦ torn_more false t torn (λ e. inner (sym same ∙ e)) ∙ torn_front false false torn bytes (λ e. e) (ends_on false b bytes inner ends) part.1
    | inr hole ↦ torn_more false t torn (λ e. absurd (omega (arith, hole, e))) ∙ torn_front false false torn bytes (λ e. e) (ends_on false b bytes inner ends) part.1
  ]
]

-- ---- a front of what counts for nothing counts for nothing

nil_left : {A : Type 0} (xs ys : List A) → xs ++ ys ≡ [] → xs ≡ []
nil_left [] ys e = refl
nil_left (x ∷ xs) ys e = cc

nil_right : {A : Type 0} (xs ys : List A) → xs ++ ys ≡ [] → ys ≡ []
nil_right [] ys e = e
nil_right (x ∷ xs) ys e = cc

nil_both : {A : Type 0} (xs ys : List A) → xs ≡ [] → ys ≡ [] → xs ++ ys ≡ []
nil_both [] ys e f = f
nil_both (x ∷ xs) ys e f = cc

pub as_newline : (line : List ℕ) (batch : List (List ℕ)) (b : ℕ) (bytes : List ℕ) → b ≡ 10 → read_on line batch (b ∷ bytes) ≡ read_on line batch (10 ∷ bytes)
as_newline line batch b bytes newline = ap (λ x. read_on line batch (x ∷ bytes)) newline

pub front_nothing : (n : ℕ) (line : List ℕ) (batch : List (List ℕ)) (bytes : List ℕ) → read_on line batch bytes ≡ [] → read_on line batch (take n bytes) ≡ []
front_nothing zero line batch bytes none = read_none line batch
front_nothing (suc n) line batch [] none = read_none line batch
front_nothing (suc n) [] batch (b ∷ bytes) none = elim (cases_eq b 0) [
  | inl hole ↦ ap (λ x. read_on [] batch (x ∷ take n bytes)) hole ∙ read_hole [] batch (take n bytes)
  | inr some ↦ elim (cases_eq b 10) [
    | inl newline ↦
        let ended : batch ++ recovered_lines bytes ≡ [] = sym (as_newline [] batch b bytes newline ∙ read_end batch bytes) ∙ none in
        as_newline [] batch b (take n bytes) newline ∙ read_end batch (take n bytes)
        ∙ nil_both batch (recovered_lines (take n bytes)) (nil_left batch (recovered_lines bytes) ended) (front_nothing n [] [] bytes (nil_right batch (recovered_lines bytes) ended))
    | inr inner ↦ read_byte [] batch b (take n bytes) some inner ∙ front_nothing n (b ∷ []) batch bytes (sym (read_byte [] batch b bytes some inner) ∙ none)
  ]
]
front_nothing (suc n) (l ∷ line) batch (b ∷ bytes) none = elim (cases_eq b 0) [
  | inl hole ↦ ap (λ x. read_on (l ∷ line) batch (x ∷ take n bytes)) hole ∙ read_hole (l ∷ line) batch (take n bytes)
  | inr some ↦ elim (cases_eq b 10) [
    | inl newline ↦
        as_newline (l ∷ line) batch b (take n bytes) newline ∙ read_newline (l ∷ line) batch (take n bytes) refl
        ∙ front_nothing n [] (batch ++ (l ∷ line) ∷ []) bytes (sym (as_newline (l ∷ line) batch b bytes newline ∙ read_newline (l ∷ line) batch bytes refl) ∙ none)
    | inr inner ↦ read_byte (l ∷ line) batch b (take n bytes) some inner ∙ front_nothing n (l ∷ line ++ b ∷ []) batch bytes (sym (read_byte (l ∷ line) batch b bytes some inner) ∙ none)
  ]
]

take_none : (n : ℕ) → take n (let none : List ℕ = [] in none) ≡ []
take_none zero = refl
take_none (suc n) = refl

pub front_torn : (n : ℕ) (empty : Bool) (bytes : List ℕ) → is_torn empty bytes ≡ true → is_torn empty (take n bytes) ≡ true
front_torn zero empty bytes torn = torn_none empty
front_torn (suc n) empty [] torn = torn_none empty
front_torn (suc n) true (b ∷ bytes) torn = elim (cases_eq b 10) [
  | inl newline ↦
      let last : bytes ≡ [] = nil_is bytes (sym (torn_end b bytes newline) ∙ torn) in
      torn_end b (take n bytes) newline ∙ ap is_nil (ap (take n) last ∙ take_none n)
  | inr inner ↦ torn_more true b (take n bytes) inner ∙ front_torn n false bytes (sym (torn_more true b bytes inner) ∙ torn)
]
front_torn (suc n) false (b ∷ bytes) torn = elim (cases_eq b 10) [
  | inl newline ↦ torn_newline b (take n bytes) newline ∙ front_torn n true bytes (sym (torn_newline b bytes newline) ∙ torn)
  | inr inner ↦ torn_more false b (take n bytes) inner ∙ front_torn n false bytes (sym (torn_more false b bytes inner) ∙ torn)
]

-- ---- the text of a batch

lines_text-push : (lines : List (List ℕ)) (line : List ℕ) → lines_text (lines ++ line ∷ []) ≡ lines_text lines ++ (line ++ 10 ∷ [])
lines_text-push [] line = refl
lines_text-push (l ∷ lines) line = ap (λ t. l ++ 10 ∷ t) (lines_text-push lines line) ∙ sym (append_assoc l (10 ∷ lines_text lines) (line ++ 10 ∷ []))

are_lines-push : (lines : List (List ℕ)) (line : List ℕ) → are_lines lines ≡ true → is_line line ≡ true → are_lines (lines ++ line ∷ []) ≡ true
are_lines-push [] line are is = both_true is refl
  where
    both_true : {a b : Bool} → a ≡ true → b ≡ true → (a && b) ≡ true
    both_true {a} {b} e f = ap (λ x. x && b) e ∙ f
are_lines-push (l ∷ lines) line are is = ap (λ x. x && are_lines (lines ++ line ∷ [])) (both_left (is_line l) (are_lines lines) are) ∙ are_lines-push lines line (both_right (is_line l) (are_lines lines) are) is

-- a text of lines, and an empty line, stand for the lines
pub recovered_of_text : (text : List ℕ) (lines : List (List ℕ)) → IsLinesText text lines → recovered_lines (text ++ 10 ∷ []) ≡ lines
recovered_of_text text lines is =
    ap (λ t. recovered_lines (t ++ 10 ∷ [])) is.text_is
    ∙ ap recovered_lines (sym (append-nil (batch_text lines)))
    ∙ (batch_whole lines is.are).stand_for []
    ∙ ap (λ l. lines ++ l) (read_none [] [])
    ∙ append-nil lines

pub lines_pushed : (text : List ℕ) (lines : List (List ℕ)) (line new : List ℕ) → IsLinesText text lines → is_line line ≡ true → new ≡ text ++ (line ++ 10 ∷ []) → IsLinesText new (lines ++ line ∷ [])
lines_pushed text lines line new is line_is grown = record {
  text_is = grown ∙ ap (λ t. t ++ (line ++ 10 ∷ [])) is.text_is ∙ sym (lines_text-push lines line);
  are = are_lines-push lines line is.are line_is;
}

pub lines_kept : (text : List ℕ) (lines : List (List ℕ)) → IsLinesText text lines → IsLinesText text (recovered_lines (text ++ 10 ∷ []))
lines_kept text lines is = subst (IsLinesText text) (sym (recovered_of_text text lines is)) is

pub no_lines : (text : List ℕ) → text ≡ [] → IsLinesText text []
no_lines text none = record { text_is = none; are = refl }

-- ---- without its last line

are_lines-front : (front : List (List ℕ)) (last : List ℕ) → are_lines (front ++ last ∷ []) ≡ true → are_lines front ≡ true
are_lines-front [] last are = refl
are_lines-front (line ∷ front) last are =
    ap (λ x. x && are_lines front) (both_left (is_line line) (are_lines (front ++ last ∷ [])) are)
    ∙ are_lines-front front last (both_right (is_line line) (are_lines (front ++ last ∷ [])) are)

pub record WithoutLast (text : List ℕ) (lines : List (List ℕ)) (len : ℕ) : Type 0 where
  pub room : len + 1 ≤ length text
  pub front : List (List ℕ)
  pub last : List ℕ
  pub split : lines ≡ front ++ last ∷ []
  pub left : IsLinesText (take (length text - len - 1) text) front

pub without_last : (text : List ℕ) (lines : List (List ℕ)) (len : ℕ) → IsLinesText text lines → HasLast lines len → WithoutLast text lines len
without_last text lines len is has =
    let split : text ≡ lines_text has.front ++ (has.last ++ 10 ∷ []) = is.text_is ∙ ap lines_text has.split ∙ lines_text-push has.front has.last in
    let long : length text ≡ length (lines_text has.front) + (len + 1) = ap length split ∙ length-append (lines_text has.front) (has.last ++ 10 ∷ []) ∙ ap (λ n. length (lines_text has.front) + n) (length-append has.last (10 ∷ []) ∙ ap (λ n. n + 1) has.size) in
    let place : length text - len - 1 ≡ length (lines_text has.front) = omega (arith, long) in
    record {
      room = omega (arith, long);
      front = has.front;
      last = has.last;
      split = has.split;
      left = record {
        text_is = ap (λ n. take n text) place ∙ ap (take (length (lines_text has.front))) split ∙ take-append_seam (lines_text has.front) (has.last ++ 10 ∷ []);
        are = are_lines-front has.front has.last (sym (ap are_lines has.split) ∙ is.are);
      };
    }
