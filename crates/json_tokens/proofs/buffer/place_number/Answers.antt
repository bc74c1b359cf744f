use Rattle.json_tokens.proofs.Common.{◌+◌, ◌≡◌, length, decimal, arith}
use Rattle.json_tokens.proofs.DigitLemmas.{placed_from_end}
use Rattle.json_tokens.proofs.buffer.place_number.Goals as goal

pub returns : goal.returns
returns c =
    let old = c.args.buf.now in
    let text = decimal c.args.number in
    let at = c.args.at in
    let put = c.write_digits-start in
    let count = c.digit_count.ensures in
    let counted : at + c.digit_count.result ≡ at + length text = omega (arith, count) in
    rw counted (placed_from_end old put.new.buf text at put.result c.requires (omega (arith, put.ensures.start, count)) put.ensures.before
    (rw counted at put.ensures.written))
