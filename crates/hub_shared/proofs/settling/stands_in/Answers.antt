use Rattle.hub_shared.proofs.Common.{Some, sym, ap, ◌∙◌, slice_get_within}
use Rattle.hub_shared.proofs.settling.stands_in.Goals as goal

pub returns-in-Some-clause-exactly : goal.returns-in-Some-clause-exactly
returns-in-Some-clause-exactly c = (
  (λ told. sym c.in-Some.ensures ∙ ap Some (c.is_entry_of.ensures.0 told)),
  (λ stands. c.is_entry_of.ensures.1 (let same = c.in-Some.ensures ∙ stands in cc)),
)

pub returns-in-Some-clause-within : goal.returns-in-Some-clause-within
returns-in-Some-clause-within c = λ _. slice_get_within c.args.hub.now _ _ (sym c.in-Some.ensures)

pub returns-in-None-clause-exactly : goal.returns-in-None-clause-exactly
returns-in-None-clause-exactly c = (
  (λ never. absurd (cc)),
  (λ stands. absurd (let none = c.in-None.ensures ∙ stands in cc)),
)
