-- What a crash leaves in each step.
use Rattle.std.proofs.Common.{◌≡◌, ◌⊎◌, inl, inr, ⊎_elim, ℕ, ◌+◌, ◌-◌, Bool, true, List, [], ◌++◌, length, take, drop, refl, sym, ◌∙◌, ap, subst, arith, length-append}
use Rattle.std.proofs.lemmas.List.{append-nil, drop_all, take-append-drop}
use Rattle.std.proofs.Math.Seq.{take-length, take-append_seam, drop-append_seam, take-add}
use Rattle.log_file.specs.Crashes.{IsPartlyAppended, IsPartlyCut}
use Rattle.journal.specs.Lines.{are_lines, batch_text, read_on, recovered_lines, AreWhole, is_torn, HasWholeBatches, StandsFor}
use Rattle.journal.proofs.LineLemmas.{batch_whole, both_whole, read_none, torn_none, batch_ends_once, torn_counts, torn_front, front_nothing, front_torn}

-- what bytes stand for is what they are read as
pub is_recovered : (bytes : List ℕ) (lines : List (List ℕ)) (whole : ℕ) (torn : Bool) → HasWholeBatches bytes lines whole torn → recovered_lines bytes ≡ lines
is_recovered bytes lines whole torn found =
    ap recovered_lines (sym (take-append-drop whole bytes))
    ∙ found.front.stand_for (drop whole bytes)
    ∙ ap (λ l. lines ++ l) found.nothing
    ∙ append-nil lines

-- whole batches, and nothing behind them
pub whole_stands : (bytes : List ℕ) (lines : List (List ℕ)) → AreWhole bytes lines → StandsFor bytes lines
whole_stands bytes lines are = (
  length bytes,
  record {
    within = omega arith;
    front = subst (λ b. AreWhole b lines) (sym (take-length bytes)) are;
    nothing = ap recovered_lines (none_left bytes) ∙ read_none [] [];
    rest = sym (ap (is_torn true) (none_left bytes) ∙ torn_none true);
  },
)
  where
    none_left : (bytes : List ℕ) → drop (length bytes) bytes ≡ []
    none_left bytes = drop_all (length bytes) bytes (omega arith)

-- whole batches, and then what is left of one
torn_stands : (bytes torn : List ℕ) (lines : List (List ℕ)) → AreWhole bytes lines → recovered_lines torn ≡ [] → is_torn true torn ≡ true → StandsFor (bytes ++ torn) lines
torn_stands bytes torn lines are none is = (
  length bytes,
  record {
    within = omega (arith, length-append bytes torn);
    front = subst (λ b. AreWhole b lines) (sym (take-append_seam bytes torn)) are;
    nothing = ap recovered_lines (drop-append_seam bytes torn) ∙ none;
    rest = sym (ap (is_torn true) (drop-append_seam bytes torn) ∙ is);
  },
)

-- a crash while a batch is appended leaves the lines before it, or all with those of the batch
pub grown_stands : (bytes : List ℕ) (lines batch : List (List ℕ)) (c : List ℕ) → AreWhole bytes lines → are_lines batch ≡ true → IsPartlyAppended (batch_text batch) bytes c → StandsFor c lines ⊎ StandsFor c (lines ++ batch)
grown_stands bytes lines batch c whole are grown =
    ⊎_elim (λ (all : grown.0 ≡ batch_text batch). inr (subst (λ b. StandsFor b (lines ++ batch)) (sym (grown.2 ∙ ap (λ l. bytes ++ l) all)) (whole_stands (bytes ++ batch_text batch) (lines ++ batch) (both_whole bytes (batch_text batch) lines batch whole (batch_whole batch are)))))
    (λ (none : read_on [] [] grown.0 ≡ []). inl (subst (λ b. StandsFor b lines) (sym grown.2) (torn_stands bytes grown.0 lines whole none (torn_front true true grown.0 (batch_text batch) (λ e. e) (batch_ends_once batch are) grown.1))))
    (torn_counts true [] [] grown.0 (batch_text batch) (batch_ends_once batch are) refl grown.1)

-- a crash while the end is cut off leaves the same lines
pub shrunk_stands : (bytes : List ℕ) (lines : List (List ℕ)) (whole : ℕ) (c : List ℕ) → HasWholeBatches bytes lines whole true → IsPartlyCut whole bytes c → StandsFor c lines
shrunk_stands bytes lines whole c found shrunk =
    let more = shrunk.0 - whole in
    let to : shrunk.0 ≡ whole + more = omega (arith, shrunk.1) in
    let cut : c ≡ take (whole + more) bytes = shrunk.2 ∙ ap (λ n. take n bytes) to in
    let front : take (whole + more) bytes ≡ take whole bytes ++ take more (drop whole bytes) = take-add whole more bytes in
    subst (λ b. StandsFor b lines) (sym (cut ∙ front)) (torn_stands (take whole bytes) (take more (drop whole bytes)) lines found.front
    (front_nothing more [] [] (drop whole bytes) found.nothing)
    (front_torn more true (drop whole bytes) (sym found.rest)))
