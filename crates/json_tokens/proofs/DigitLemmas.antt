-- Digits of numbers: where they stand, and how many there are.
use Rattle.json_tokens.proofs.Common.{◌≡◌, ℕ, ◌+◌, ◌≤◌, ◌<◌, ◌^◌, decimal, length-decimal-le, List, ◌++◌, length, take, drop, sym, ap, subst, ◌∙◌, arith, append_assoc, length-append, length-drop, length-take-le, take-append-drop, take-append_seam, Placed}

-- digits that were written from their end backwards stand where they had to begin
pub placed_from_end : (old new text : List ℕ) (at start : ℕ) → at + length text ≤ length old → start + length text ≡ at + length text → take start new ≡ take start old → drop start new ≡ text ++ drop (at + length text) old → Placed old new at text (at + length text)
placed_from_end old new text at start fits is before written =
    let same : start ≡ at = omega (arith, is) in
    let rest = drop (at + length text) old in
    let front = take at old ++ text in
    let first : length (take at old) ≡ at = length-take-le at old (omega (arith, fits)) in
    let long : length front ≡ at + length text = omega (arith, length-append (take at old) text, first) in
    let head : take at new ≡ take at old = subst (λ k. take k new ≡ take k old) same before in
    let tail : drop at new ≡ text ++ rest = subst (λ k. drop k new ≡ text ++ rest) same written in
    let whole : new ≡ front ++ rest =
    sym (take-append-drop at new) ∙ (λ i. head i ++ tail i) ∙ sym (append_assoc (take at old) text rest)
    in
    record {
      bytes = ap (take (at + length text)) whole ∙ subst (λ k. take k (front ++ rest) ≡ front) long (take-append_seam front rest);
      moved = omega arith;
      len = ap length whole ∙ omega (arith, fits, length-append front rest, long, length-drop (at + length text) old);
    }

-- a number of 64 bits has twenty digits at most
pub twenty_digits : (n : ℕ) → n < 2 ^ 64 → length (decimal n) ≤ 20
twenty_digits n fits = length-decimal-le 20 n (omega arith) (omega arith) (omega arith)
