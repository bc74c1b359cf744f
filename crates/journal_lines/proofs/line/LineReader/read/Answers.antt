use Rattle.journal_lines.proofs.Common.{◌≡◌, refl, ◌∙◌, sym, ap}
use Rattle.std.proofs.lemmas.Bool.{false≢true}
use Rattle.journal_lines.specs.Sums.{sum_after, digits_of, are_sum_digits}
use Rattle.journal_lines.specs.CallLines.{digits_in_front, call_sum}
use Rattle.journal_lines.proofs.DigitLemmas.{sum_digits_are}
use Rattle.journal_lines.proofs.FaultLemmas.{no_digits}
use Rattle.journal_lines.proofs.ReadLemmas.{line_with-is}
use Rattle.journal_lines.proofs.line.LineReader.read.Goals as goal

pub returns-in_default-clause-fault : goal.returns-in_default-clause-fault
returns-in_default-clause-fault c = no_digits c.args.line.now c.in_default.ensures.none

pub read_text-requires : goal.read_text-requires
read_text-requires c = ap are_sum_digits (sym c.in-Some.ensures.stated) ∙ c.in-Some.ensures.digits

pub returns-then-not-are_digits_of-clause-fault : goal.returns-then-not-are_digits_of-clause-fault
returns-then-not-are_digits_of-clause-fault c =
    let sum : c.sum_after-sum.result ≡ call_sum c.args.before c.in_ok-call.call = c.sum_after-sum.ensures ∙ ap (sum_after c.args.before) (c.as_slice.ensures.value ∙ c.in_ok-call.ensures.text) in
    record {
      digits = c.in-Some.digits.now;
      call = c.in_ok-call.call;
      is_sum = c.in-Some.ensures.digits;
      is_line = c.in_ok-call.ensures.line
          ∙ (λ i. digits_in_front (sym c.in-Some.ensures.stated i) (c.in_ok-call.ensures.text i))
          ∙ sym (line_with-is c.in-Some.digits.now c.in_ok-call.call c.in-Some.ensures.digits);
      other = λ same. false≢true (c.if-not-are_digits_of.ensures.1 (same ∙ ap digits_of (sym sum)));
    }

pub returns-clause-text : goal.returns-clause-text
returns-clause-text c =
    c.in_ok-call.ensures.line
    ∙ (λ i. digits_in_front ((sym c.in-Some.ensures.stated ∙ c.if-not-are_digits_of.ensures.0 refl) i) (c.in_ok-call.ensures.text i))
    ∙ sym (line_with-is (digits_of c.sum_after-sum.result) c.in_ok-call.call (sum_digits_are c.sum_after-sum.result))
