-- The parts of a line, where they stand.
use Rattle.journal_lines.proofs.Common.{◌≡◌, ℕ, ◌<◌, true, List, [], ◌∷◌, ◌++◌, length, take, drop, sym, ap, ◌∙◌, arith, codes, ◌==◌, list_all, and_parts}
use Rattle.std.proofs.Common.{take-append-drop}
use Rattle.std.proofs.lemmas.Bool.{eqb-true}
use Rattle.std.proofs.lemmas.List.{drop-drop, drop_at, length-take, length-drop}
use Rattle.journal_lines.specs.Sums.{are_sum_digits, is_sum_digit}
use Rattle.journal_lines.specs.CallLines.{digits_in_front}

-- what stands before the digits of a sum
abbrev pub front : List ℕ
front = 123 ∷ 34 ∷ codes "_sum" ++ 34 ∷ 58 ∷ 34 ∷ []

-- what stands behind them
abbrev pub behind : List ℕ
behind = 34 ∷ 44 ∷ []

sixteen : (digits : List ℕ) → are_sum_digits digits ≡ true → length digits ≡ 16
sixteen digits h = eqb-true (length digits) 16 (and_parts (length digits == 16) (list_all is_sum_digit digits) h).0

module _ (line text : List ℕ) where
  abbrev pub IsItsLine : Type 0
  IsItsLine = line ≡ digits_in_front (take 16 (drop 9 line)) text

  -- a line of these parts
  pub of_parts : take 9 line ≡ front → take 2 (drop 25 line) ≡ behind → drop 27 line ≡ drop 1 text → IsItsLine
  of_parts begins goes_on ends =
      let digits = take 16 (drop 9 line) in
      let tail : drop 25 line ≡ behind ++ drop 1 text = sym (take-append-drop 2 (drop 25 line)) ∙ (λ i. goes_on i ++ (drop-drop 2 25 line ∙ ends) i) in
      let rest : drop 9 line ≡ digits ++ (behind ++ drop 1 text) = sym (take-append-drop 16 (drop 9 line)) ∙ ap (λ l. digits ++ l) (drop-drop 16 9 line ∙ tail) in
      sym (take-append-drop 9 line) ∙ (λ i. begins i ++ rest i)

  module _ (digits : are_sum_digits (take 16 (drop 9 line)) ≡ true) (is : IsItsLine) where
    pub its_front : take 9 line ≡ front
    its_front = ap (take 9) is

    its_rest : drop 25 line ≡ behind ++ drop 1 text
    its_rest = ap (drop 25) is ∙ drop_at (take 16 (drop 9 line)) (behind ++ drop 1 text) 16 (sixteen (take 16 (drop 9 line)) digits)

    pub its_behind : take 2 (drop 25 line) ≡ behind
    its_behind = ap (take 2) its_rest

    pub its_text : drop 27 line ≡ drop 1 text
    its_text = sym (drop-drop 2 25 line) ∙ ap (drop 2) its_rest

    pub long_enough : length line < 27 → ⊥
    long_enough short =
        let two : length (take 2 (drop 25 line)) ≡ 2 = ap length its_behind in
        omega (arith, short, two, length-take 2 (drop 25 line), length-drop 25 line)
