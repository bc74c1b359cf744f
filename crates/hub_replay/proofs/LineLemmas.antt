-- How lines begin and end.
use Rattle.hub_replay.proofs.Common.{◌≡◌, ℕ, ◌+◌, ◌-◌, ◌<◌, ◌≤◌, ◌==◌, true, false, cond, Bool, List, [], ◌∷◌, ◌++◌, length, get_or, take, drop, map, refl, ap, ◌∙◌, sym, arith, append_assoc, append-nil, length-drop, length-append, slice_range, take-add, drop-drop, drop-take, drop_all, length-take-le, drop_split, common_steps, ParsedLine, TooLong, has_no_newline, parsed_line, not_newline, rest_unbroken, line_split, too_long, onto_first, lines_of, after_newline, after_skipping, parsed_lines, IsTaken, IsCut}

-- what stands before the first newline
abbrev pub upto : List ℕ → List ℕ
upto [] = []
upto (b ∷ bytes) = cond (b == 10) [] (b ∷ upto bytes)

onto_lines : (b : ℕ) (more : List ℕ) → onto_first b (lines_of more) ≡ (b ∷ upto more) ∷ lines_of (after_newline more)
onto_lines b [] = refl
onto_lines b (m ∷ more) =
    elim (m == 10) as (λ t. onto_first b (cond t ([] ∷ lines_of more) (onto_first m (lines_of more))) ≡ (b ∷ cond t [] (m ∷ upto more)) ∷ lines_of (cond t more (after_newline more)))
    [ true ↦ refl | false ↦ ap (onto_first b) (onto_lines m more) ]

-- a beginning of a line, whatever follows it
pub first_line : (x : ℕ) (line more : List ℕ) → has_no_newline (x ∷ line) ≡ true → lines_of ((x ∷ line) ++ more) ≡ ((x ∷ line) ++ upto more) ∷ lines_of (after_newline more)
first_line x [] more h = rw (not_newline x [] h) (onto_lines x more)
first_line x (y ∷ line) more h =
    rw (not_newline x (y ∷ line) h) (ap (onto_first x) (first_line y line more (rest_unbroken x (y ∷ line) h)))

-- a whole line with its newline
pub whole_line : (line more : List ℕ) → has_no_newline line ≡ true → lines_of (line ++ (10 ∷ more)) ≡ line ∷ lines_of more
whole_line [] more h = refl
whole_line (x ∷ line) more h =
    rw (not_newline x line h) (ap (onto_first x) (whole_line line more (rest_unbroken x line h)))

pub past_unbroken : (line more : List ℕ) → has_no_newline line ≡ true → after_newline (line ++ more) ≡ after_newline more
past_unbroken [] more h = refl
past_unbroken (x ∷ line) more h = rw (not_newline x line h) (past_unbroken line more (rest_unbroken x line h))

pub past_newline : (line more : List ℕ) → has_no_newline line ≡ true → after_newline (line ++ (10 ∷ more)) ≡ more
past_newline line more h = past_unbroken line (10 ∷ more) h

pub unbroken_join : (xs ys : List ℕ) → has_no_newline xs ≡ true → has_no_newline ys ≡ true → has_no_newline (xs ++ ys) ≡ true
unbroken_join [] ys h k = k
unbroken_join (x ∷ xs) ys h k = rw (not_newline x xs h) (unbroken_join xs ys (rest_unbroken x xs h) k)

pub one_line : (line : List ℕ) → has_no_newline line ≡ true → 0 < length line → parsed_lines line ≡ parsed_line line ∷ []
one_line [] h lt = absurd (omega arith)
one_line (x ∷ line) h lt =
    let e : lines_of ((x ∷ line) ++ []) ≡ ((x ∷ line) ++ []) ∷ [] = first_line x line [] h in
    let same : (x ∷ line) ++ [] ≡ x ∷ line = append-nil (x ∷ line) in
    ap (map parsed_line) (sym (ap lines_of same) ∙ e ∙ ap (λ l. l ∷ []) same)

pub parsed_long : (line more : List ℕ) → has_no_newline line ≡ true → 65536 < length line → parsed_lines (line ++ more) ≡ TooLong ∷ parsed_lines (after_newline more)
parsed_long [] more h lt = absurd (omega arith)
parsed_long (x ∷ line) more h lt =
    let long : 65536 < length ((x ∷ line) ++ upto more) = omega (arith, lt, length-append (x ∷ line) (upto more)) in
    ap (map parsed_line) (first_line x line more h) ∙ ap (λ t. t ∷ parsed_lines (after_newline more)) (too_long ((x ∷ line) ++ upto more) long)

pub IsTaken-none : (bytes : List ℕ) → IsTaken bytes [] bytes
IsTaken-none bytes = record { says = λ more. refl }

-- one more line of a piece
pub IsTaken-line : (bytes w : List ℕ) (hs : List ParsedLine) (from end : ℕ) (h : ParsedLine) → IsTaken bytes hs (drop from w) → from ≤ end → end < length w → get_or w end 0 ≡ 10 → has_no_newline (slice_range w from end) ≡ true → h ≡ parsed_line (slice_range w from end) → IsTaken bytes (hs ++ h ∷ []) (drop (end + 1) w)
IsTaken-line bytes w hs from end h t le lt is whole e = record {
  says = λ more.
      let line : List ℕ = slice_range w from end in
      let split : drop from w ++ more ≡ line ++ (10 ∷ (drop (end + 1) w ++ more)) = ap (λ l. l ++ more) (line_split w from end le lt is) ∙ append_assoc line (10 ∷ drop (end + 1) w) more in
      let one : parsed_lines (drop from w ++ more) ≡ h ∷ parsed_lines (drop (end + 1) w ++ more) = ap parsed_lines split ∙ ap (map parsed_line) (whole_line line (drop (end + 1) w ++ more) whole) ∙ ap (λ x. x ∷ parsed_lines (drop (end + 1) w ++ more)) (sym e) in
      t.says more ∙ ap (λ l. hs ++ l) one ∙ sym (append_assoc hs (h ∷ []) (parsed_lines (drop (end + 1) w ++ more)));
}

-- lines after lines
pub IsTaken-append : (bytes next rest : List ℕ) (hs more : List ParsedLine) → IsTaken bytes hs next → IsTaken next more rest → IsTaken bytes (hs ++ more) rest
IsTaken-append bytes next rest hs more t u = record {
  says = λ after. t.says after ∙ ap (λ l. hs ++ l) (u.says after) ∙ sym (append_assoc hs more (parsed_lines (rest ++ after)));
}

pub parsed_taken : (bytes : List ℕ) (hs : List ParsedLine) (rest : List ℕ) → IsTaken bytes hs rest → parsed_lines bytes ≡ hs ++ parsed_lines rest
parsed_taken bytes hs rest t = sym (ap parsed_lines (append-nil bytes)) ∙ t.says [] ∙ ap (λ l. hs ++ parsed_lines l) (append-nil rest)

-- a piece that is skipped as a whole
pub IsCut-skipped : (chunk : List ℕ) → has_no_newline chunk ≡ true → IsCut chunk true [] true (drop (length chunk) chunk)
IsCut-skipped chunk h =
    let none : drop (length chunk) chunk ≡ [] = drop_all (length chunk) chunk (omega arith) in
    rw none (record { whole = refl; bare = λ e. refl; says = λ more. ap parsed_lines (past_unbroken chunk more h) })

-- a piece of which the rest is too long for a line
pub IsCut-long : (chunk : List ℕ) (skipping : Bool) (hs : List ParsedLine) (start end : ℕ) → ((more : List ℕ) → after_skipping skipping (chunk ++ more) ≡ drop start chunk ++ more) → IsTaken (drop start chunk) hs (drop end chunk) → has_no_newline (drop end chunk) ≡ true → 65536 < length (drop end chunk) → IsCut chunk skipping (hs ++ TooLong ∷ []) true (drop (length chunk) chunk)
IsCut-long chunk skipping hs start end begins t h lt =
    let none : drop (length chunk) chunk ≡ [] = drop_all (length chunk) chunk (omega arith) in
    rw none (record {
      whole = refl;
      bare = λ e. refl;
      says = λ more. ap parsed_lines (begins more) ∙ t.says more ∙ ap (λ l. hs ++ l) (parsed_long (drop end chunk) more h lt) ∙ sym (append_assoc hs (TooLong ∷ []) (parsed_lines (after_newline more)));
    })

-- one more piece
pub IsCut-more : (read kept new chunk : List ℕ) (hs hs' : List ParsedLine) (skips skips' : Bool) (kept' : List ℕ) → IsCut read false hs skips kept → chunk ≡ kept ++ new → IsCut chunk skips hs' skips' kept' → IsCut (read ++ new) false (hs ++ hs') skips' kept'
IsCut-more read kept new chunk hs hs' skips skips' kept' a e b = record {
  whole = b.whole;
  bare = b.bare;
  says = λ more.
      let joined : kept ++ (new ++ more) ≡ chunk ++ more = sym (append_assoc kept new more) ∙ ap (λ l. l ++ more) (sym e) in
      ap parsed_lines (append_assoc read new more) ∙ a.says (new ++ more) ∙ ap (λ l. hs ++ parsed_lines (after_skipping skips l)) joined ∙ ap (λ l. hs ++ l) (b.says more) ∙ sym (append_assoc hs hs' (parsed_lines (after_skipping skips' (kept' ++ more))));
}

-- what the bytes say that were read so far and a piece more
pub parsed_more : (read kept new chunk : List ℕ) (hs : List ParsedLine) (skips : Bool) → IsCut read false hs skips kept → chunk ≡ kept ++ new → parsed_lines (read ++ new) ≡ hs ++ parsed_lines (after_skipping skips chunk)
parsed_more read kept new chunk hs skips a e = a.says new ∙ ap (λ l. hs ++ parsed_lines (after_skipping skips l)) (sym e)

-- what all bytes say
pub parsed_all : (read kept : List ℕ) (hs : List ParsedLine) (skips : Bool) → IsCut read false hs skips kept → parsed_lines read ≡ hs ++ parsed_lines kept
parsed_all read kept hs true a =
    let none : kept ≡ [] = a.bare refl in
    sym (ap parsed_lines (append-nil read)) ∙ a.says [] ∙ ap (λ l. hs ++ parsed_lines (after_newline (l ++ []))) none ∙ ap (λ l. hs ++ parsed_lines l) (sym none)
parsed_all read kept hs false a = sym (ap parsed_lines (append-nil read)) ∙ a.says [] ∙ ap (λ l. hs ++ parsed_lines l) (append-nil kept)

pub IsCut-none : IsCut [] false [] false []
IsCut-none = record { whole = refl; bare = λ e. refl; says = λ more. refl }

pub parsed_none : (line : List ℕ) → (length line == 0) ≡ true → parsed_lines line ≡ []
parsed_none [] h = refl
parsed_none (x ∷ line) h = absurd (grind (arith, common_steps))

pub nonempty : (line : List ℕ) → (length line == 0) ≡ false → 0 < length line
nonempty [] h = absurd (grind (arith, common_steps))
nonempty (x ∷ line) h = omega arith

pub unbroken_nothing : (w : List ℕ) (j : ℕ) → has_no_newline (slice_range w j j) ≡ true
unbroken_nothing w j = let z : j - j ≡ 0 = omega arith in rw z refl

slice_join : (w : List ℕ) (from place end : ℕ) → from ≤ place → place ≤ end → slice_range w from end ≡ slice_range w from place ++ slice_range w place end
slice_join w from place end le more =
    let size : end - from ≡ (place - from) + (end - place) = omega arith in
    let at : from + (place - from) ≡ place = omega arith in
    ap (λ n. take n (drop from w)) size ∙ take-add (place - from) (end - place) (drop from w) ∙ ap (λ l. take (place - from) (drop from w) ++ take (end - place) l) (drop-drop (place - from) from w ∙ ap (λ n. drop n w) at)

pub unbroken_slices : (w : List ℕ) (from place end : ℕ) → from ≤ place → place ≤ end → has_no_newline (slice_range w from place) ≡ true → has_no_newline (slice_range w place end) ≡ true → has_no_newline (slice_range w from end) ≡ true
unbroken_slices w from place end le more h k = ap has_no_newline (slice_join w from place end le more) ∙ unbroken_join (slice_range w from place) (slice_range w place end) h k

pub unbroken_rest : (w : List ℕ) (from place : ℕ) → from ≤ place → has_no_newline (slice_range w from place) ≡ true → has_no_newline (drop place w) ≡ true → has_no_newline (drop from w) ≡ true
unbroken_rest w from place le h k = ap has_no_newline (drop_split w from place le) ∙ unbroken_join (slice_range w from place) (drop place w) h k

-- where the lines of a piece begin that comes while the rest of a line is skipped
pub begins_after_newline : (chunk : List ℕ) (end : ℕ) → end < length chunk → get_or chunk end 0 ≡ 10 → has_no_newline (slice_range chunk 0 end) ≡ true → (more : List ℕ) → after_newline (chunk ++ more) ≡ drop (end + 1) chunk ++ more
begins_after_newline chunk end lt is h more =
    let split : chunk ≡ slice_range chunk 0 end ++ (10 ∷ drop (end + 1) chunk) = line_split chunk 0 end (omega arith) lt is in
    ap (λ l. after_newline (l ++ more)) split ∙ ap after_newline (append_assoc (slice_range chunk 0 end) (10 ∷ drop (end + 1) chunk) more) ∙ past_newline (slice_range chunk 0 end) (drop (end + 1) chunk ++ more) h

pub parsed_from : (chunk : List ℕ) (skipping : Bool) (start : ℕ) → ((more : List ℕ) → after_skipping skipping (chunk ++ more) ≡ drop start chunk ++ more) → parsed_lines (after_skipping skipping chunk) ≡ parsed_lines (drop start chunk)
parsed_from chunk skipping start begins = ap parsed_lines (sym (ap (after_skipping skipping) (append-nil chunk)) ∙ begins [] ∙ append-nil (drop start chunk))

pub parsed_rest : (line : List ℕ) → has_no_newline line ≡ true → 65536 < length line → parsed_lines line ≡ TooLong ∷ []
parsed_rest line h lt = sym (ap parsed_lines (append-nil line)) ∙ parsed_long line [] h lt

pub chunk_split : (buffer : List ℕ) (kept_len n : ℕ) → take (kept_len + n) buffer ≡ take kept_len buffer ++ slice_range buffer kept_len (kept_len + n)
chunk_split buffer kept_len n =
    let size : kept_len + n - kept_len ≡ n = omega arith in
    take-add kept_len n buffer ∙ ap (λ k. take kept_len buffer ++ take k (drop kept_len buffer)) (sym size)

pub length-chunk : (buffer : List ℕ) (kept_len n : ℕ) → kept_len + n ≤ length buffer → length (slice_range buffer kept_len (kept_len + n)) ≡ n
length-chunk buffer kept_len n le =
    let size : kept_len + n - kept_len ≡ n = omega arith in
    ap (λ k. length (take k (drop kept_len buffer))) size ∙ length-take-le n (drop kept_len buffer) (omega (arith, length-drop kept_len buffer))

pub nothing_kept : (buffer : List ℕ) (kept_len : ℕ) → kept_len ≤ length buffer → take kept_len buffer ≡ [] → kept_len ≡ 0
nothing_kept buffer kept_len le e = omega (arith, length-take-le kept_len buffer le, ap length e)

pub nothing_more : (xs ys : List ℕ) → length ys ≡ 0 → xs ++ ys ≡ xs
nothing_more xs [] h = append-nil xs
nothing_more xs (y ∷ ys) h = absurd (omega (arith, h))

pub rest_kept : (buffer : List ℕ) (start end : ℕ) → start ≤ end → slice_range buffer start end ≡ drop start (take end buffer)
rest_kept buffer start end le =
    let size : start + (end - start) ≡ end = omega arith in
    sym (drop-take start (end - start) buffer) ∙ ap (λ n. drop start (take n buffer)) size
