-- Whole lines, and the beginning of a line.
use Rattle.std.proofs.Common.{◌≡◌, ℕ, ◌+◌, ◌<◌, ◌≤◌, ◌==◌, true, false, cond, List, [], ◌∷◌, ◌++◌, length, get_or, take, drop, map, refl, sym, ap, ◌∙◌, subst, append_assoc, arith, suc, zero}
use Rattle.std.proofs.lemmas.List.{map-append, take_more, get_or-drop}
use Rattle.std.proofs.lemmas.Grind.{common_steps}
use Rattle.std.proofs.Common.{length-drop, take-append-drop, eqb-true, min}
use Rattle.std.proofs.lemmas.List.{take_all, length-take-le}
use Rattle.std.proofs.Math.Decide.{dec_le}
use Rattle.call_lines.proofs.LineLemmas.{not_newline, rest_unbroken}
use mathlib.Core.Logic.{dite}
use Rattle.call_lines.specs.Lines.{has_no_newline, parsed_line}
use Rattle.call_lines.specs.declared.parsed.ParsedLine.{ParsedLine}
use Rattle.hub_replay.specs.Lines.{onto_first, lines_of, parsed_lines, IsTaken}
use Rattle.hub_replay.proofs.LineLemmas.{parsed_long}

-- lines that a byte goes onto are not none, so more lines may follow
onto_more : (b : ℕ) (line : List ℕ) (lines more : List (List ℕ)) → onto_first b ((line ∷ lines) ++ more) ≡ onto_first b (line ∷ lines) ++ more
onto_more b line lines more = refl

-- there is a first line
first_of : (front : List ℕ) → (line : List ℕ) × ((lines : List (List ℕ)) × (lines_of (front ++ 10 ∷ []) ≡ line ∷ lines))
first_of [] = ([], ([], refl))
first_of (b ∷ front) =
    let rest = first_of front in
    elim (b == 10) as (λ t. (line : List ℕ) × ((lines : List (List ℕ)) × (cond t ([] ∷ lines_of (front ++ 10 ∷ [])) (onto_first b (lines_of (front ++ 10 ∷ []))) ≡ line ∷ lines)))
    [ true ↦ ([], (lines_of (front ++ 10 ∷ []), refl)) | false ↦ (b ∷ rest.0, (rest.1.0, ap (onto_first b) rest.1.1)) ]

-- lines that end with a newline, and then others
pub whole_lines : (front more : List ℕ) → lines_of ((front ++ 10 ∷ []) ++ more) ≡ lines_of (front ++ 10 ∷ []) ++ lines_of more
whole_lines [] more = refl
whole_lines (b ∷ front) more =
    let next = whole_lines front more in
    let first = first_of front in
    let onto : onto_first b (lines_of (front ++ 10 ∷ []) ++ lines_of more) ≡ onto_first b (lines_of (front ++ 10 ∷ [])) ++ lines_of more =
    subst (λ l. onto_first b (l ++ lines_of more) ≡ onto_first b l ++ lines_of more) (sym first.1.1) refl in
    elim (b == 10) as (λ t. cond t ([] ∷ lines_of ((front ++ 10 ∷ []) ++ more)) (onto_first b (lines_of ((front ++ 10 ∷ []) ++ more))) ≡ cond t ([] ∷ lines_of (front ++ 10 ∷ [])) (onto_first b (lines_of (front ++ 10 ∷ []))) ++ lines_of more)
    [ true ↦ ap (λ l. [] ∷ l) next | false ↦ ap (onto_first b) next ∙ onto ]

pub whole_taken : (front rest : List ℕ) → IsTaken ((front ++ 10 ∷ []) ++ rest) (parsed_lines (front ++ 10 ∷ [])) rest
whole_taken front rest = record {
  says = λ more.
      ap parsed_lines (append_assoc (front ++ 10 ∷ []) rest more)
      ∙ ap (map parsed_line) (whole_lines front (rest ++ more))
      ∙ map-append parsed_line (lines_of (front ++ 10 ∷ [])) (lines_of (rest ++ more));
}

-- of a line that is too long, a beginning that is too long says the same
pub long_taken : (bytes kept : List ℕ) (lines : List ParsedLine) (n : ℕ) → IsTaken bytes lines kept → has_no_newline kept ≡ true → has_no_newline (take n kept) ≡ true → 65536 < length kept → 65536 < length (take n kept) → IsTaken bytes lines (take n kept)
long_taken bytes kept lines n t whole front long still = record {
  says = λ more. t.says more ∙ ap (λ l. lines ++ l) (parsed_long kept more whole long ∙ sym (parsed_long (take n kept) more front still));
}

-- no byte is a newline, seen by index
unbroken_from : (bytes : List ℕ) → ((k : ℕ) → k < length bytes → (get_or bytes k 0 == 10) ≡ true → ⊥) → has_no_newline bytes ≡ true
unbroken_from [] h = refl
unbroken_from (x ∷ bytes) h =
    let here : (x == 10) ≡ false = grind (arith, common_steps, h 0) in
    let rest : has_no_newline bytes ≡ true = unbroken_from bytes (λ k lt. h (suc k) (omega arith)) in
    rw (here, rest) refl

-- no newline from a place on
pub unbroken_after : (bytes : List ℕ) (from : ℕ) → ((k : ℕ) → from ≤ k → k < length bytes → (get_or bytes k 0 == 10) ≡ true → ⊥) → has_no_newline (drop from bytes) ≡ true
unbroken_after bytes from h =
    let size = length-drop from bytes in
    unbroken_from (drop from bytes) (λ k lt is. h (from + k) (omega arith) (omega (arith, size, lt)) (subst (λ b. (b == 10) ≡ true) (get_or-drop from bytes k 0) is))

-- and what stands before is whole lines, where a newline stands there
pub whole_before : (bytes : List ℕ) (at : ℕ) → at < length bytes → (get_or bytes at 0 == 10) ≡ true → IsTaken bytes (parsed_lines (take (at + 1) bytes)) (drop (at + 1) bytes)
whole_before bytes at lt is =
    let newline : get_or bytes at 0 ≡ 10 = eqb-true (get_or bytes at 0) 10 is in
    let front : take (at + 1) bytes ≡ take at bytes ++ 10 ∷ [] = take_more bytes at 0 lt ∙ ap (λ b. take at bytes ++ b ∷ []) newline in
    let all : take (at + 1) bytes ++ drop (at + 1) bytes ≡ bytes = take-append-drop (at + 1) bytes in
    let taken : IsTaken (take (at + 1) bytes ++ drop (at + 1) bytes) (parsed_lines (take (at + 1) bytes)) (drop (at + 1) bytes) =
    subst (λ l. IsTaken (l ++ drop (at + 1) bytes) (parsed_lines l) (drop (at + 1) bytes)) (sym front) (whole_taken (take at bytes) (drop (at + 1) bytes)) in
    subst (λ l. IsTaken l (parsed_lines (take (at + 1) bytes)) (drop (at + 1) bytes)) all taken

pub none_before : (bytes : List ℕ) → IsTaken bytes (parsed_lines (take 0 bytes)) (drop 0 bytes)
none_before bytes = record { says = λ more. refl }

-- the lines of what was read, and then those of what is behind it
pub taken_more : (read kept new chunk rest : List ℕ) (lines more : List ParsedLine) → IsTaken read lines kept → chunk ≡ kept ++ new → IsTaken chunk more rest → IsTaken (read ++ new) (lines ++ more) rest
taken_more read kept new chunk rest lines more a e b = record {
  says = λ after.
      ap parsed_lines (append_assoc read new after) ∙ a.says (new ++ after)
      ∙ ap (λ l. lines ++ parsed_lines l) (sym (append_assoc kept new after) ∙ ap (λ l. l ++ after) (sym e))
      ∙ ap (λ l. lines ++ l) (b.says after) ∙ sym (append_assoc lines more (parsed_lines (rest ++ after)));
}

unbroken_take : (n : ℕ) (bytes : List ℕ) → has_no_newline bytes ≡ true → has_no_newline (take n bytes) ≡ true
unbroken_take zero bytes h = refl
unbroken_take (suc n) [] h = refl
unbroken_take (suc n) (x ∷ bytes) h = rw (not_newline x bytes h) (unbroken_take n bytes (rest_unbroken x bytes h))

-- of the beginning of a line so much is kept as tells that it is too long
pub kept_taken : (bytes rest : List ℕ) (lines : List ParsedLine) (n : ℕ) → IsTaken bytes lines rest → has_no_newline rest ≡ true → n ≡ min (length rest) 65537
    → IsTaken bytes lines (take n rest) × (has_no_newline (take n rest) ≡ true)
kept_taken bytes rest lines n t whole is =
    let front = unbroken_take n rest whole in
    dite (dec_le (length rest) 65537)
    (λ short.
    let all : take n rest ≡ rest = take_all n rest (omega (arith, is, short)) in
    (subst (IsTaken bytes lines) (sym all) t, front))
    (λ long.
    let size = length-take-le n rest (omega (arith, is, long)) in
    (long_taken bytes rest lines n t whole front (omega (arith, long)) (omega (arith, size, is, long)), front))
