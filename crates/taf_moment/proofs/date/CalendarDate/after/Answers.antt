use Rattle.taf_moment.proofs.Common.{◌≡◌, pos, unsigned_abs, to_z, of_z, w16, rules, arith, ints, epoch_day, date_after}
use Rattle.taf_moment.proofs.DateLemmas.{date_after-epoch_day, date_after-is}
use Rattle.taf_moment.proofs.date.CalendarDate.after.Goals as goal

pub overflow_cast-result : goal.overflow_cast-result
overflow_cast-result c =
    let here = rw c.unwrap-date.ensures at c.from_unix_epoch_day.ensures.value in
    let e : epoch_day c.unwrap-date.result ≡ pos c.args.days = omega (arith, ints, here, c.from.ensures) in
    let is = date_after-epoch_day c.unwrap-date.result c.args.days e c.requires in
    let real = date_after-is c.args.days c.requires in
    search (rules, arith, ints, is.0, real.0.last_year)

pub returns-clause-value : goal.returns-clause-value
returns-clause-value c =
    let here = rw c.unwrap-date.ensures at c.from_unix_epoch_day.ensures.value in
    let e : epoch_day c.unwrap-date.result ≡ pos c.args.days = omega (arith, ints, here, c.from.ensures) in
    let is = date_after-epoch_day c.unwrap-date.result c.args.days e c.requires in
    let real = date_after-is c.args.days c.requires in
    let year : unsigned_abs (to_z w16 (of_z w16 c.unwrap-date.result.year)) ≡ (date_after c.args.days).year = omega (arith, ints, is.0, real.0.last_year) in
    λ i. record { year = year i; month = is.1 i; day = is.2 i }

pub returns-clause-year : goal.returns-clause-year
returns-clause-year c =
    let here = rw c.unwrap-date.ensures at c.from_unix_epoch_day.ensures.value in
    let e : epoch_day c.unwrap-date.result ≡ pos c.args.days = omega (arith, ints, here, c.from.ensures) in
    let is = date_after-epoch_day c.unwrap-date.result c.args.days e c.requires in
    let real = date_after-is c.args.days c.requires in
    omega (arith, ints, is.0, real.0.last_year)
