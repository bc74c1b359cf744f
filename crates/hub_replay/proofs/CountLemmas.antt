-- What is counted.
use Rattle.hub_replay.proofs.Common.{◌≡◌, ℕ, ◌+◌, nat_lt, true, false, cond, List, [], ◌∷◌, ◌++◌, length, length-append, arith, codes, refl, subst, ap, ◌∙◌, sum_by-cons, count_by, Call, Entry, Counts, ParsedLine, Blank, TooLong, Fault, Called, fault_text, parsed_lines, Outcome, outcome, with_fault_line, with_reply_line, entry_of, is_answered, Answers, start_of}

-- lines that lead from one outcome to another
record IsCounted (o p : Outcome) (hs : List ParsedLine) : Type 0 where
  lines : p.counts.lines ≡ o.counts.lines + count_by is_answered hs
  calls : length p.entries + o.counts.calls ≡ length o.entries + p.counts.calls
  sum : p.counts.lines + (o.counts.calls + o.counts.faults) ≡ o.counts.lines + (p.counts.calls + p.counts.faults)

answered_more : (h : ParsedLine) (hs : List ParsedLine) → is_answered h ≡ true → count_by is_answered (h ∷ hs) ≡ 1 + count_by is_answered hs
answered_more h hs e = sum_by-cons (λ x. cond (is_answered x) 1 0) h hs ∙ ap (λ t. cond t 1 0 + count_by is_answered hs) e

fault_more : (o p : Outcome) (text : List ℕ) (h : ParsedLine) (hs : List ParsedLine) → is_answered h ≡ true → IsCounted (with_fault_line o text) p hs → IsCounted o p (h ∷ hs)
unfolding with_fault_line
fault_more o p text h hs e c = record {
  lines = omega (arith, c.lines, answered_more h hs e);
  calls = c.calls;
  sum = omega (arith, c.sum);
}

call_more : (o p : Outcome) (call : Call) (hs : List ParsedLine) → IsCounted (with_reply_line o call) p hs → IsCounted o p (Called call ∷ hs)
unfolding with_reply_line
call_more o p call hs c =
    let grown : length (o.entries ++ entry_of o.entries call ∷ []) ≡ length o.entries + 1 = length-append o.entries (entry_of o.entries call ∷ []) in
    record {
      lines = omega (arith, c.lines, answered_more (Called call) hs refl);
      calls = omega (arith, c.calls, grown);
      sum = omega (arith, c.sum);
    }

counted : (o : Outcome) (hs : List ParsedLine) → IsCounted o (outcome o hs) hs
counted o [] = record { lines = omega arith; calls = refl; sum = refl }
counted o (Blank ∷ hs) = let c = counted o hs in record { lines = c.lines; calls = c.calls; sum = c.sum }
counted o (TooLong ∷ hs) = fault_more o _ _ TooLong hs refl (counted (with_fault_line o (codes "{\"fault\":\"line_too_long\"}")) hs)
counted o (Fault fault ∷ hs) = fault_more o _ _ (Fault fault) hs refl (counted (with_fault_line o (fault_text fault)) hs)
counted o (Called call ∷ hs) =
    elim (nat_lt (length o.entries) 1000000) as (λ t. IsCounted o (outcome (cond t (with_reply_line o call) (with_fault_line o (codes "{\"fault\":\"hub_full\"}"))) hs) (Called call ∷ hs)) [
      | true ↦ call_more o _ call hs (counted (with_reply_line o call) hs)
      | false ↦ fault_more o _ _ (Called call) hs refl (counted (with_fault_line o (codes "{\"fault\":\"hub_full\"}")) hs)
    ]

whole : (old : List Entry) (read : List ℕ) (new : List Entry) (written : List ℕ) (counts : Counts) → Answers old read new written counts → IsCounted (start_of old) (record { entries = new; output = written; counts = counts }) (parsed_lines read)
whole old read new written counts a = subst (λ p. IsCounted (start_of old) p (parsed_lines read)) a (counted (start_of old) (parsed_lines read))

-- the counts of a whole run
pub counts_lines : (old : List Entry) (read : List ℕ) (new : List Entry) (written : List ℕ) (counts : Counts) → Answers old read new written counts → counts.lines ≡ count_by is_answered (parsed_lines read)
counts_lines old read new written counts a = let c = whole old read new written counts a in omega (arith, c.lines)

pub counts_calls : (old : List Entry) (read : List ℕ) (new : List Entry) (written : List ℕ) (counts : Counts) → Answers old read new written counts → length new ≡ length old + counts.calls
counts_calls old read new written counts a = let c = whole old read new written counts a in omega (arith, c.calls)

pub counts_sum : (old : List Entry) (read : List ℕ) (new : List Entry) (written : List ℕ) (counts : Counts) → Answers old read new written counts → counts.lines ≡ counts.calls + counts.faults
counts_sum old read new written counts a = let c = whole old read new written counts a in omega (arith, c.sum)
