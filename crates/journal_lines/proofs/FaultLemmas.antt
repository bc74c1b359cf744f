-- When a line is the line of no call.
use Rattle.journal_lines.proofs.Common.{◌≡◌, ℕ, ◌<◌, Bool, true, false, List, ◌∷◌, ◌++◌, length, take, drop, refl, sym, ap, subst, ◌∙◌, arith, Result, Ok, Err, IsUtf8, ◌==◌, ◌&&◌, list_all, and_parts, nat_tests}
use Rattle.std.proofs.Common.{length-take, length-drop}
use Rattle.std.specs.Str.{is_utf8}
use Rattle.std.proofs.lemmas.Bool.{false≢true, eqb-true}
use Rattle.std.proofs.Math.Seq.{take-append_seam}
use Rattle.std.proofs.lemmas.Str.{IsUtf8-from_is_utf8, is_utf8-from_IsUtf8}
use Rattle.serde_json.specs.Read.{read}
use Rattle.taf_messages.specs.declared.fault.RecordFault.{RecordFault}
use Rattle.taf_messages.specs.declared.fault.RecordFault.TheVariants.{BadJson, BadKind, MissingField, BadField, BadPlan, Memory}
use Rattle.taf_messages.specs.declared.call.Call.{Call}
use Rattle.call_reader.specs.Reading.{Fails, call_read}
use Rattle.reply_writer.specs.Laws.{IsReadAs, IsCall}
use Rattle.reply_writer.proofs.CallKeptLemmas.{call_kept}
use Rattle.journal_lines.specs.Sums.{are_sum_digits, is_sum_digit}
use Rattle.journal_lines.specs.CallLines.{call_text, line_with, digits_in_front}
use Rattle.journal_lines.specs.LineFaults.{fault_of_record, IsNoCall}
use Rattle.journal_lines.specs.declared.fault.LineFault.TheVariants as faults
use Rattle.journal_lines.proofs.ReadLemmas.{line_is_read, line_with-is}

-- ---- where the digits of a sum stand

too_few : (n : ℕ) (b : Bool) → n < 16 → ((n == 16) && b) ≡ false
too_few n b h = grind (arith, nat_tests)

-- a line that is too short for them
pub too_short : (line : List ℕ) → length line < 25 → are_sum_digits (take 16 (drop 9 line)) ≡ false
too_short line h = too_few (length (take 16 (drop 9 line))) _ (omega (arith, length-take 16 (drop 9 line), length-drop 9 line))

pub front_digits : (digits text : List ℕ) → are_sum_digits digits ≡ true → take 16 (drop 9 (digits_in_front digits text)) ≡ digits
front_digits digits text h =
    let count : length digits ≡ 16 = eqb-true (length digits) 16 (and_parts (length digits == 16) (list_all is_sum_digit digits) h).0 in
    ap (λ n. take n (digits ++ 34 ∷ 44 ∷ drop 1 text)) (sym count) ∙ take-append_seam digits (34 ∷ 44 ∷ drop 1 text)

stated_in : (line digits : List ℕ) (call : Call) → are_sum_digits digits ≡ true → line ≡ line_with digits call → take 16 (drop 9 line) ≡ digits
stated_in line digits call sum is = ap (λ l. take 16 (drop 9 l)) (is ∙ line_with-is digits call sum) ∙ front_digits digits (call_text call) sum

-- a line that has none there
pub no_digits : (line : List ℕ) → are_sum_digits (take 16 (drop 9 line)) ≡ false → IsNoCall line
no_digits line none digits call sum limits is = false≢true (sym none ∙ ap are_sum_digits (stated_in line digits call sum is) ∙ sum)

-- ---- a line that is read as no call

never : (e : RecordFault) (call : Call) → Fails e (Ok call) → fault_of_record e ≡ faults.NoCall → ⊥
never BadJson call h none = absurd (cc)
never BadKind call h none = absurd (cc)
never (MissingField field) call h none = absurd (cc)
never (BadField field) call h none = absurd (cc)
never (BadPlan code) call h none = absurd (cc)
never Memory call h none = absurd (cc)

pub not_read : (line : List ℕ) (e : RecordFault) → (IsUtf8 line → Fails e (call_read (read line))) → fault_of_record e ≡ faults.NoCall → IsNoCall line
not_read line e text none digits call sum limits is =
    let reads : IsReadAs (line_with digits call) call = line_is_read digits call sum limits in
    let utf8 : IsUtf8 line = subst IsUtf8 (sym is) reads.0 in
    let ok : call_read (read line) ≡ Ok call = ap (λ l. call_read (read l)) is ∙ reads.1 in
    never e call (subst (Fails e) ok (text utf8)) none

-- the fault of a record tells of no sum
pub no_sum : (e : RecordFault) → fault_of_record e ≡ faults.OtherSum → ⊥
no_sum BadJson h = absurd (cc)
no_sum BadKind h = absurd (cc)
no_sum (MissingField field) h = absurd (cc)
no_sum (BadField field) h = absurd (cc)
no_sum (BadPlan code) h = absurd (cc)
no_sum Memory h = absurd (cc)

abbrev call_or : Call → Result Call RecordFault → Call
call_or call (Ok x) = x
call_or call (Err e) = call

-- a line that is read as a call, and is not its line with the digits that it states
pub not_its_line : (line text : List ℕ) (call : Call) → (IsUtf8 line → call_read (read line) ≡ Ok call) → text ≡ call_text call →
    (line ≡ digits_in_front (take 16 (drop 9 line)) text → ⊥) → IsNoCall line
not_its_line line text call reads spelt differ other_digits other sum limits is =
    let back : IsReadAs (line_with other_digits other) other = line_is_read other_digits other sum limits in
    let utf8 : IsUtf8 line = subst IsUtf8 (sym is) back.0 in
    let both : Ok call ≡ Ok other = sym (reads utf8) ∙ ap (λ l. call_read (read l)) is ∙ back.1 in
    let same : call ≡ other = ap (call_or call) both in
    let whole : line ≡ digits_in_front other_digits (call_text other) = is ∙ line_with-is other_digits other sum in
    let as_stated : take 16 (drop 9 line) ≡ other_digits = stated_in line other_digits other sum is in
    let as_written : digits_in_front (take 16 (drop 9 line)) text ≡ digits_in_front other_digits (call_text other) = λ i. digits_in_front (as_stated i) ((spelt ∙ ap call_text same) i) in
    differ (whole ∙ sym as_written)

-- ---- a line that is read as a call

by_test : (line : List ℕ) (call : Call) (b : Bool) → is_utf8 line ≡ b → (IsUtf8 line → call_read (read line) ≡ Ok call) → ((IsUtf8 line → ⊥) → Err BadJson ≡ Ok call) → call_read (read line) ≡ Ok call
by_test line call true is text no_text = text (IsUtf8-from_is_utf8 line is)
by_test line call false is text no_text = let never = no_text (λ u. false≢true (sym is ∙ is_utf8-from_IsUtf8 line u)) in absurd (cc)

-- its parts keep their limits
pub limits_kept : (line : List ℕ) (call : Call) → (IsUtf8 line → call_read (read line) ≡ Ok call) → ((IsUtf8 line → ⊥) → Err BadJson ≡ Ok call) → IsCall call
limits_kept line call text no_text = call_kept (read line) call (by_test line call (is_utf8 line) refl text no_text)
