-- What the first bytes of a connection tell of its first line.
use Rattle.std.proofs.Common.{◌≡◌, ℕ, ◌+◌, ◌-◌, ◌≤◌, true, List, [], ◌∷◌, ◌++◌, length, take, fold, refl, ap, ◌∙◌, arith}
use Rattle.std.proofs.Math.Seq.{take-append-add}
use Rattle.std.proofs.lemmas.List.Sums.{fold-append}
use Rattle.railway_keys.specs.FirstLines.{LineRead, no_line, with_byte, line_read}

-- a line that is whole stays as it is
whole-kept : (line : LineRead) (b : ℕ) → line.is_whole ≡ true → with_byte line b ≡ line
whole-kept line b whole = rw whole refl

whole-stays : (line : LineRead) (bytes : List ℕ) → line.is_whole ≡ true → fold with_byte line bytes ≡ line
whole-stays line [] whole = refl
whole-stays line (b ∷ bytes) whole = ap (λ l. fold with_byte l bytes) (whole-kept line b whole) ∙ whole-stays line bytes whole

-- whatever follows
pub line_read-whole : (held more : List ℕ) → (line_read held).is_whole ≡ true → line_read (held ++ more) ≡ line_read held
line_read-whole held more whole = fold-append with_byte no_line held more ∙ whole-stays (line_read held) more whole

-- the first 65,537 bytes, by those that were held
pub take-held : (held left : List ℕ) → length held ≤ 65537 → take 65537 (held ++ left) ≡ held ++ take (65537 - length held) left
take-held held left few =
    let sum : 65537 ≡ length held + (65537 - length held) = omega arith in
    ap (λ n. take n (held ++ left)) sum ∙ take-append-add held left (65537 - length held)
