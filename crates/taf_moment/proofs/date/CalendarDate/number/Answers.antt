use Rattle.taf_moment.proofs.Common.{rules, arith, Some, sym, ◌∙◌, ap, ints, cond-true}
use Rattle.taf_moment.proofs.DateLemmas.{epoch_day-is, day_number-bound, test_from_calendar_date}
use Rattle.taf_moment.proofs.date.CalendarDate.number.Goals as goal

pub overflow_cast-result : goal.overflow_cast-result
overflow_cast-result c =
    let is = epoch_day-is c.in-Ok.date c.args.self (omega (arith, ints, c.in-Ok.ensures.value.0)) (omega (arith, ints, c.in-Ok.ensures.value.1)) (omega (arith, ints, c.in-Ok.ensures.value.2)) (omega arith) (omega arith) in
    search (rules, arith, ints, is.1, c.to_unix_epoch_day.ensures.value)

pub returns-in-Ok-clause-value : goal.returns-in-Ok-clause-value
returns-in-Ok-clause-value c =
    let is = epoch_day-is c.in-Ok.date c.args.self (omega (arith, ints, c.in-Ok.ensures.value.0)) (omega (arith, ints, c.in-Ok.ensures.value.1)) (omega (arith, ints, c.in-Ok.ensures.value.2)) (omega arith) (omega arith) in
    ap Some (omega (arith, ints, is.1, day_number-bound c.args.self is.0, c.to_unix_epoch_day.ensures.value)) ∙ sym (cond-true _ _ _ (test_from_calendar_date c.args.self is.0))

pub returns-in-Ok-clause-bound : goal.returns-in-Ok-clause-bound
returns-in-Ok-clause-bound c =
    let is = epoch_day-is c.in-Ok.date c.args.self (omega (arith, ints, c.in-Ok.ensures.value.0)) (omega (arith, ints, c.in-Ok.ensures.value.1)) (omega (arith, ints, c.in-Ok.ensures.value.2)) (omega arith) (omega arith) in
    omega (arith, ints, is.1, day_number-bound c.args.self is.0, c.to_unix_epoch_day.ensures.value)
