use Rattle.reply_writer.proofs.Common.{◌∙◌, ◌++◌, ◌<◌, ◌≤◌, ◌^◌, ap, sym, arith, List, ℕ, codes, decimal, length}
use Rattle.std.proofs.lemmas.Fmt.{length-decimal-le}
use Rattle.reply_writer.proofs.AcceptedLemmas.{accepted_text, accepted_read}
use Rattle.reply_writer.proofs.accepted.append_accepted.Goals as goal

-- a message's number has at most twelve digits
twelve_digits : (n : ℕ) → n < 10 ^ 12 → length (decimal n) ≤ 12
twelve_digits n small = length-decimal-le 12 n (omega arith) small (omega (arith, small))

pub put_number-requires : goal.put_number-requires
put_number-requires c = omega (arith, c.in_ok-reserve.ensures.ready, twelve_digits c.get.result (omega (arith, c.get.ensures.high)))

pub returns-clause-ok : goal.returns-clause-ok
returns-clause-ok c =
    let old = c.args.out.now.items in
    let front : List ℕ = codes "{\"no\":" in
    let back : List ℕ = codes ",\"reply\":\"accepted\"}" in
    let digits = ap decimal c.get.ensures.value in
    c.put_number.ensures ∙ (λ i. c.in_ok-reserve.ensures.items i ++ (front ++ (digits i ++ back))) ∙ ap (λ (l : List ℕ). old ++ l) (sym (accepted_text c.args.no))

pub returns-clause-read_back : goal.returns-clause-read_back
returns-clause-read_back c = accepted_read c.args.no (omega (arith, c.get.ensures.high))
