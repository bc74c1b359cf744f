use Rattle.json_tokens.proofs.Common.{◌/◌, ◌≤◌, sym, arith}
use Rattle.itoa.proofs.Decimal.{length_one, length_two, length_pair}
use Rattle.json_tokens.proofs.buffer.short_digit_count.Goals as goal

pub returns-in-0-to-9 : goal.returns-in-0-to-9
returns-in-0-to-9 c = sym (length_one c.args.number (omega (arith, c.in-0-to-9)))

pub returns-in-10-to-99 : goal.returns-in-10-to-99
returns-in-10-to-99 c =
    sym (length_two c.args.number (omega (arith, c.in-10-to-99)) (omega (arith, c.in-10-to-99)))

pub returns-in-100-to-999 : goal.returns-in-100-to-999
returns-in-100-to-999 c =
    let n = c.args.number in
    omega (arith, length_pair n (omega (arith, c.in-100-to-999)) c.ranges.number.fits, length_one (n / 100) (omega (arith, c.in-100-to-999)))

pub returns-in_default : goal.returns-in_default
returns-in_default c =
    let n = c.args.number in
    let long : 1000 ≤ n = omega (arith, c.in_default) in
    let small = c.requires in
    omega (arith, length_pair n (omega arith) c.ranges.number.fits, length_two (n / 100) (omega arith) (omega arith))
