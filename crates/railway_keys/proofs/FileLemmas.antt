-- The lines of a keys file, one after another.
use Rattle.std.proofs.Common.{◌≡◌, ◌≢◌, ℕ, suc, ◌+◌, ◌<◌, ◌==◌, false, List, [], ◌∷◌, length, get_or, Result, Ok, Err, inl, inr, refl, sym, ap, ◌∙◌, arith, ne_eqb, MatchResult}
use Rattle.std.specs.List.{All, after_first, before_first, position_or_len}
use Rattle.std.proofs.lemmas.List.Elements.{All-nil, All-cons}
use Rattle.std.proofs.lemmas.List.Splits.{slice_split_first, slice_split_none}
use Rattle.railway_keys.specs.KeyFiles.{IsFaultOf, Takes, lines_of, with_line, table_of, after_line}
use Rattle.railway_keys.specs.declared.fault.KeyLineFault.{KeyLineFault}
use Rattle.railway_keys.specs.declared.fault.KeyFileFault.{KeyFileFault}
use Rattle.railway_keys.specs.declared.fault.KeyFileFault.TheVariants.{Line, Memory}
use Rattle.railway_keys.specs.declared.table.RailwayKey.{RailwayKey}

-- no newline, seen by index
all-lacking : (text : List ℕ) → ((i : ℕ) → i < length text → get_or text i 0 ≢ 10) → All (λ b. (b == 10) ≡ false) text
all-lacking [] lacks = All-nil (λ b. (b == 10) ≡ false)
all-lacking (b ∷ text) lacks = All-cons (λ x. (x == 10) ≡ false) b text (ne_eqb b 10 (lacks 0 (omega arith))) (all-lacking text (λ i less. lacks (suc i) (omega arith)))

-- the fault of a line is the first of all
pub first-fault : (number : ℕ) (made : Result (List RailwayKey) KeyLineFault) (all : Result (List RailwayKey) KeyFileFault) (fault : KeyFileFault) (new : List RailwayKey)
    → Takes number made (Err fault) new → ((f : KeyLineFault) → made ≡ Err f → all ≡ Err (Line number f)) → IsFaultOf all fault
first-fault number made all (Line at f) new takes then = inl (then f takes.1 ∙ ap (λ n. Err (Line n f)) (sym takes.0))
first-fault number made all Memory new takes then = inr refl

module _ (keys : List RailwayKey) (number : ℕ) where
  -- a line with a newline, and those behind it
  first-line : (text line others : List ℕ) → position_or_len (λ b. b == 10) text < length text → line ≡ before_first (λ b. b == 10) text → others ≡ after_first (λ b. b == 10) text
      → table_of keys number (lines_of text) ≡ after_line number (with_line keys line) (λ more. table_of more (number + 1) (lines_of others))
  unfolding table_of
  first-line text line others there is rest =
      ap (table_of keys number) (slice_split_first (λ b. b == 10) text 0 there)
      ∙ ap (λ l. after_line number (with_line keys l) (λ more. table_of more (number + 1) (lines_of (after_first (λ b. b == 10) text)))) (sym is)
      ∙ ap (λ o. after_line number (with_line keys line) (λ more. table_of more (number + 1) (lines_of o))) (sym rest)

  pub line-taken : (text line others : List ℕ) (more : List RailwayKey) → position_or_len (λ b. b == 10) text < length text → line ≡ before_first (λ b. b == 10) text → others ≡ after_first (λ b. b == 10) text
      → with_line keys line ≡ Ok more → table_of keys number (lines_of text) ≡ table_of more (number + 1) (lines_of others)
  line-taken text line others more there is rest made =
      first-line text line others there is rest ∙ ap (λ m. after_line number m (λ n. table_of n (number + 1) (lines_of others))) made

  pub line-refused : (text line others : List ℕ) (fault : KeyLineFault) → position_or_len (λ b. b == 10) text < length text → line ≡ before_first (λ b. b == 10) text → others ≡ after_first (λ b. b == 10) text
      → with_line keys line ≡ Err fault → table_of keys number (lines_of text) ≡ Err (Line number fault)
  line-refused text line others fault there is rest made =
      first-line text line others there is rest ∙ ap (λ m. after_line number m (λ n. table_of n (number + 1) (lines_of others))) made

  -- the last line
  last-line : (text : List ℕ) → All (λ b. (b == 10) ≡ false) text → table_of keys number (lines_of text) ≡ after_line number (with_line keys text) (λ more. Ok more)
  unfolding table_of
  last-line text none = ap (table_of keys number) (slice_split_none (λ b. b == 10) text none)

  -- so it decides
  pub by-last : (text : List ℕ) (result : Result (Unit {0}) KeyFileFault) (new : List RailwayKey) → ((i : ℕ) → i < length text → get_or text i 0 ≢ 10) → Takes number (with_line keys text) result new
      → MatchResult result (λ done. table_of keys number (lines_of text) ≡ Ok new) (IsFaultOf (table_of keys number (lines_of text)))
  by-last text (Ok done) new lacks takes = last-line text (all-lacking text lacks) ∙ ap (λ m. after_line number m (λ n. Ok n)) takes
  by-last text (Err fault) new lacks takes =
      first-fault number (with_line keys text) (table_of keys number (lines_of text)) fault new takes (λ f is. last-line text (all-lacking text lacks) ∙ ap (λ m. after_line number m (λ n. Ok n)) is)
