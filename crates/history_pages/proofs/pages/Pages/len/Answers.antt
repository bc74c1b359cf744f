use Rattle.std.proofs.Common.{arith, ap, length}
use Rattle.history_pages.proofs.EntryLemmas.{length-entries_in}
use Rattle.history_pages.proofs.pages.Pages.len.Goals as goal

pub overflow_mul-result : goal.overflow_mul-result
overflow_mul-result g c =
    omega (arith, length-entries_in c.self.inside c.self.invariant, c.self.invariant.few)

pub overflow_add-result : goal.overflow_add-result
overflow_add-result g c =
    omega (arith, length-entries_in c.self.inside c.self.invariant, c.self.invariant.few)

pub returns-clause-value : goal.returns-clause-value
returns-clause-value g c =
    let e = length-entries_in c.self.inside c.self.invariant in
    let h = ap (λ v. length v.entries) c.self.view_is in omega (arith, e, h)

pub returns-clause-few : goal.returns-clause-few
returns-clause-few g c =
    omega (arith, length-entries_in c.self.inside c.self.invariant, c.self.invariant.few)
