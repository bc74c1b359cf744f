-- Where newlines stand, and a line that is too long.
use Rattle.std.proofs.Common.{◌≡◌, ℕ, ◌+◌, ◌-◌, ◌<◌, ◌≤◌, ◌==◌, nat_lt, true, false, List, [], ◌∷◌, ◌++◌, length, get_or, take, drop, refl, ap, ◌∙◌, sym, arith, suc, length-drop}
use Rattle.std.specs.List.{slice_range}
use Rattle.std.proofs.lemmas.List.{take_all, get_or-drop, get_or-take, length-take-le, drop_more}
use Rattle.std.proofs.lemmas.List.Folds.{drop_split}
use Rattle.std.proofs.lemmas.Bool.{eqb-true, lt-ltb}
use Rattle.std.proofs.lemmas.Grind.{common_steps}
use Rattle.call_lines.specs.declared.parsed.ParsedLine.TheVariants.{TooLong}
use Rattle.call_lines.specs.Lines.{parsed_line, has_no_newline}

pub not_newline : (b : ℕ) (bytes : List ℕ) → has_no_newline (b ∷ bytes) ≡ true → (b == 10) ≡ false
not_newline b bytes h = grind (arith, common_steps)

pub rest_unbroken : (b : ℕ) (bytes : List ℕ) → has_no_newline (b ∷ bytes) ≡ true → has_no_newline bytes ≡ true
rest_unbroken b bytes h = grind (arith, common_steps)

-- no byte is a newline, seen by index
unbroken_from : (bytes : List ℕ) → ((k : ℕ) → k < length bytes → (get_or bytes k 0 == 10) ≡ true → ⊥) → has_no_newline bytes ≡ true
unbroken_from [] h = refl
unbroken_from (x ∷ bytes) h =
    let here : (x == 10) ≡ false = grind (arith, common_steps, h 0) in
    let rest : has_no_newline bytes ≡ true = unbroken_from bytes (λ k lt. h (suc k) (omega arith)) in
    rw (here, rest) refl

-- What a search from some place on found. `w` is what it looked through.
pub searched_none : (bytes w : List ℕ) (from : ℕ) → from ≤ length bytes → w ≡ take (length bytes - from) (drop from bytes) → ((k : ℕ) → 0 ≤ k → k < length w → (get_or w k 0 == 10) ≡ true → ⊥) → has_no_newline (drop from bytes) ≡ true
searched_none bytes w from le e h =
    let all : length (drop from bytes) ≤ length bytes - from = omega (arith, length-drop from bytes) in
    let same : w ≡ drop from bytes = e ∙ take_all (length bytes - from) (drop from bytes) all in
    sym (ap has_no_newline same) ∙ unbroken_from w (λ k lt. h k (omega arith) lt)

pub searched_some : (bytes w : List ℕ) (from at : ℕ) → from ≤ length bytes → w ≡ take (length bytes - from) (drop from bytes) → at < length w → (get_or w at 0 == 10) ≡ true → ((k : ℕ) → 0 ≤ k → k < at → (get_or w k 0 == 10) ≡ true → ⊥) → (from ≤ from + at) × (from + at < length bytes) × (get_or bytes (from + at) 0 ≡ 10) × (has_no_newline (slice_range bytes from (from + at)) ≡ true)
searched_some bytes w from at le e lt here before =
    let all : length (drop from bytes) ≤ length bytes - from = omega (arith, length-drop from bytes) in
    let same : w ≡ drop from bytes = e ∙ take_all (length bytes - from) (drop from bytes) all in
    let len : length w ≡ length bytes - from = ap length same ∙ length-drop from bytes in
    let range : slice_range bytes from (from + at) ≡ take at w = grind (arith, common_steps) in
    let short : length (take at w) ≡ at = length-take-le at w (omega arith) in (
      omega arith,
      omega (arith, len),
      sym (get_or-drop from bytes at 0) ∙ sym (ap (λ l. get_or l at 0) same) ∙ eqb-true (get_or w at 0) 10 here,
      ap has_no_newline range ∙ unbroken_from (take at w) (λ k k_lt is. before k (omega arith) (omega (arith, short)) (rw (← get_or-take at w k 0 (omega (arith, short))) is)),
    )

-- a line that stands among bytes, with its newline and what follows
pub line_split : (w : List ℕ) (from end : ℕ) → from ≤ end → end < length w → get_or w end 0 ≡ 10 → drop from w ≡ slice_range w from end ++ (10 ∷ drop (end + 1) w)
line_split w from end le lt is = drop_split w from end le ∙ ap (λ l. slice_range w from end ++ l) (drop_more w end 0 lt ∙ ap (λ b. b ∷ drop (end + 1) w) is)

pub too_long : (line : List ℕ) → 65536 < length line → parsed_line line ≡ TooLong
unfolding parsed_line
too_long line lt = let t : nat_lt 65536 (length line) ≡ true = lt-ltb 65536 (length line) lt in rw t refl
