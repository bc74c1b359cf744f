-- Lines tell of which calls they are.
use Rattle.journal_lines.proofs.Common.{◌≡◌, ℕ, true, List, [], ◌∷◌, refl, sym, ap, subst, ◌∙◌, Result, Ok, Err, All, All-head, All-tail}
use Rattle.serde_json.specs.Read.{read}
use Rattle.taf_messages.specs.declared.fault.RecordFault.{RecordFault}
use Rattle.taf_messages.specs.declared.call.Call.{Call}
use Rattle.call_reader.specs.Reading.{call_read}
use Rattle.reply_writer.specs.Laws.{IsCall}
use Rattle.journal_lines.specs.Sums.{are_sum_digits, digits_of}
use Rattle.journal_lines.specs.CallLines.{call_sum, line_with, line_text, lines_after}
use Rattle.journal_lines.proofs.DigitLemmas.{sum_digits_are}
use Rattle.journal_lines.proofs.ReadLemmas.{line_is_read}

abbrev call_or : Call → Result Call RecordFault → Call
call_or call (Ok x) = x
call_or call (Err e) = call

pub same_line : (digits more : List ℕ) (call other : Call) → are_sum_digits digits ≡ true → are_sum_digits more ≡ true → IsCall call → IsCall other → line_with digits call ≡ line_with more other → call ≡ other
same_line digits more call other p q h g e =
    let both : Ok call ≡ Ok other = sym (line_is_read digits call p h).1 ∙ ap (λ line. call_read (read line)) e ∙ (line_is_read more other q g).1 in
    ap (call_or call) both

heads : (x y : List ℕ) (xs ys : List (List ℕ)) → x ∷ xs ≡ y ∷ ys → x ≡ y
heads x y xs ys e = cc

tails : (x y : List ℕ) (xs ys : List (List ℕ)) → x ∷ xs ≡ y ∷ ys → xs ≡ ys
tails x y xs ys e = cc

-- the same lines tell the same calls
pub same_calls : (before : ℕ) (calls others : List Call) → All IsCall calls → All IsCall others → lines_after before calls ≡ lines_after before others → calls ≡ others
same_calls before [] [] h g e = refl
same_calls before [] (y ∷ others) h g e = absurd (cc)
same_calls before (x ∷ calls) [] h g e = absurd (cc)
same_calls before (x ∷ calls) (y ∷ others) h g e =
    let one = heads (line_text (call_sum before x) x) (line_text (call_sum before y) y) (lines_after (call_sum before x) calls) (lines_after (call_sum before y) others) e in
    let same : x ≡ y = same_line (digits_of (call_sum before x)) (digits_of (call_sum before y)) x y (sum_digits_are (call_sum before x)) (sum_digits_are (call_sum before y)) (All-head IsCall x calls h) (All-head IsCall y others g) one in
    let rest = tails (line_text (call_sum before x) x) (line_text (call_sum before y) y) (lines_after (call_sum before x) calls) (lines_after (call_sum before y) others) e in
    let moved : lines_after (call_sum before y) calls ≡ lines_after (call_sum before y) others = subst (λ (z : Call). lines_after (call_sum before z) calls ≡ lines_after (call_sum before y) others) same rest in
    ap (λ (z : Call). z ∷ calls) same ∙ ap (λ (l : List Call). y ∷ l) (same_calls (call_sum before y) calls others (All-tail IsCall x calls h) (All-tail IsCall y others g) moved)
