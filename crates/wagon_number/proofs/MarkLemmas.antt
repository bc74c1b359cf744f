-- The marked form, letter by letter.
use Rattle.wagon_number.proofs.Common.{◌≡◌, ℕ, ◌<◌, true, List, [], ◌∷◌, length, get_or, refl, sym, ◌∙◌, ap, lit<, ◌==◌, slice_index, cond-true, and_parts, eqb-true, IsAscii, AllByRecursion, IsAscii-from_all, All-from_recursion, fill_by_all, with_marks, without_marks, has_marks, text_of, number_of, marked_number_of, MarkedTextIsRead, MarkedReadingIsExact}
use Rattle.wagon_number.proofs.TextLemmas.{ok_from_if, text_is_read, reading_is_exact, length-text_of}

-- a list of twelve numbers, one by one
twelve_are : (ls : List ℕ) → length ls ≡ 12 → ls ≡ get_or ls 0 0 ∷ get_or ls 1 0 ∷ get_or ls 2 0 ∷ get_or ls 3 0 ∷ get_or ls 4 0 ∷ get_or ls 5 0 ∷ get_or ls 6 0 ∷ get_or ls 7 0 ∷ get_or ls 8 0 ∷ get_or ls 9 0 ∷ get_or ls 10 0 ∷ get_or ls 11 0 ∷ []
twelve_are ls long = fill_by_all (λ k. get_or ls k 0) ls 12 0 long (λ k h. refl)

-- and one of sixteen
sixteen_are : (ls : List ℕ) → length ls ≡ 16 → ls ≡ get_or ls 0 0 ∷ get_or ls 1 0 ∷ get_or ls 2 0 ∷ get_or ls 3 0 ∷ get_or ls 4 0 ∷ get_or ls 5 0 ∷ get_or ls 6 0 ∷ get_or ls 7 0 ∷ get_or ls 8 0 ∷ get_or ls 9 0 ∷ get_or ls 10 0 ∷ get_or ls 11 0 ∷ get_or ls 12 0 ∷ get_or ls 13 0 ∷ get_or ls 14 0 ∷ get_or ls 15 0 ∷ []
sixteen_are ls long = fill_by_all (λ k. get_or ls k 0) ls 16 0 long (λ k h. refl)

-- the marked form, written out
abbrev pub spaced : List ℕ → List ℕ
spaced ls = get_or ls 0 0 ∷ get_or ls 1 0 ∷ 32 ∷ get_or ls 2 0 ∷ get_or ls 3 0 ∷ 32 ∷ get_or ls 4 0 ∷ get_or ls 5 0 ∷ get_or ls 6 0 ∷ get_or ls 7 0 ∷ 32 ∷ get_or ls 8 0 ∷ get_or ls 9 0 ∷ get_or ls 10 0 ∷ 45 ∷ get_or ls 11 0 ∷ []

pub marked_is : (ls : List ℕ) → length ls ≡ 12 → with_marks ls ≡ spaced ls
marked_is ls long = ap with_marks (twelve_are ls long)

-- twelve letters in the marked form have the marks, and come back without them
with_marks-has_marks : (ls : List ℕ) → length ls ≡ 12 → has_marks (with_marks ls) ≡ true
with_marks-has_marks ls long = ap has_marks (marked_is ls long)

without_marks-with_marks : (ls : List ℕ) → length ls ≡ 12 → without_marks (with_marks ls) ≡ ls
without_marks-with_marks ls long = ap without_marks (marked_is ls long) ∙ sym (twelve_are ls long)

-- a text with the marks has sixteen letters
length-with_marks : (text : List ℕ) → has_marks text ≡ true → length text ≡ 16
length-with_marks text marks =
    let parts = and_parts _ _ (and_parts _ _ (and_parts _ (slice_index text 10 == 32) (and_parts _ (slice_index text 14 == 45) marks).0).0).0 in
    eqb-true _ _ parts.0

-- its letters without the marks, written out
abbrev pub unspaced : List ℕ → List ℕ
unspaced text = get_or text 0 0 ∷ get_or text 1 0 ∷ get_or text 3 0 ∷ get_or text 4 0 ∷ get_or text 6 0 ∷ get_or text 7 0 ∷ get_or text 8 0 ∷ get_or text 9 0 ∷ get_or text 11 0 ∷ get_or text 12 0 ∷ get_or text 13 0 ∷ get_or text 15 0 ∷ []

pub marked_number_of-unspaced : (text : List ℕ) → has_marks text ≡ true → marked_number_of text ≡ number_of (unspaced text)
marked_number_of-unspaced text marks = cond-true _ _ _ marks ∙ ap (λ l. number_of (without_marks l)) (sixteen_are text (length-with_marks text marks))

-- a text with the marks is the marked form of its letters
with_marks-without_marks : (text : List ℕ) → has_marks text ≡ true → with_marks (without_marks text) ≡ text
with_marks-without_marks text marks =
    let last = and_parts _ (slice_index text 14 == 45) marks in
    let third = and_parts _ (slice_index text 10 == 32) last.0 in
    let second = and_parts _ (slice_index text 5 == 32) third.0 in
    let first = and_parts (length text == 16) (slice_index text 2 == 32) second.0 in
    let hyphen : get_or text 14 0 ≡ 45 = eqb-true _ _ last.1 in
    let blank_3 : get_or text 10 0 ≡ 32 = eqb-true _ _ third.1 in
    let blank_2 : get_or text 5 0 ≡ 32 = eqb-true _ _ second.1 in
    let blank_1 : get_or text 2 0 ≡ 32 = eqb-true _ _ first.1 in
    let letters = sixteen_are text (eqb-true _ _ first.0) in
    ap (λ l. with_marks (without_marks l)) letters ∙ rw (blank_1, blank_2, blank_3, hyphen) refl ∙ sym letters

pub marked_text_is_read : MarkedTextIsRead
marked_text_is_read n vehicle =
    let long = length-text_of n in
    cond-true _ _ _ (with_marks-has_marks (text_of n) long) ∙ ap number_of (without_marks-with_marks (text_of n) long) ∙ text_is_read n vehicle

pub marked_reading_is_exact : MarkedReadingIsExact
marked_reading_is_exact text n h =
    let marks = ok_from_if (has_marks text) (number_of (without_marks text)) _ n h in
    let is = reading_is_exact (without_marks text) n marks.1 in
    (is.0, sym (with_marks-without_marks text marks.0) ∙ ap with_marks is.1)

-- the marked form of ASCII letters is ASCII
ascii_cells : (bs : List ℕ) → AllByRecursion (λ b. b < 128) bs → IsAscii bs
ascii_cells bs each = IsAscii-from_all bs (All-from_recursion (λ b. b < 128) bs each)

pub IsAscii-spaced : (ls : List ℕ) → IsAscii ls → IsAscii (spaced ls)
IsAscii-spaced ls a =
    ascii_cells (spaced ls)
    (a 0, (a 1, (lit< tt, (a 2, (a 3, (lit< tt, (a 4, (a 5, (a 6, (a 7, (lit< tt, (a 8, (a 9, (a 10, (lit< tt, (a 11, tt))))))))))))))))
