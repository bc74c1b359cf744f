use Rattle.hub_tables.proofs.Common.{or_none_left, ◌++◌, ◌∷◌, [], List, refl, ◌∙◌, sym, ap, Journey, Event, fits, Change, table_state, subst, IsStateBefore}
use Rattle.hub_tables.proofs.ContinuationLemmas.{either_by}
use Rattle.hub_tables.proofs.NextEventLemmas.{comes_last}
use Rattle.hub_tables.proofs.GoingOnLemmas.{one_on}
use Rattle.hub_tables.proofs.tables.Tables.go_on.Goals as goal

pub returns-in-Some-event_fault-clause-ok : goal.returns-in-Some-event_fault-clause-ok
returns-in-Some-event_fault-clause-ok c =
    let s = table_state c.args.self.now in
    let events = sym (ap (λ (j : Journey). j.events) c.in-Some.ensures.found) in (
      either_by s c.args.message.now c.args.wagon _ _ c.requires.named c.in-Some.ensures.known events (sym c.in_ok-event.ensures) ∙ sym c.event_fault.ensures ∙ c.in-Some-event_fault.is,
      refl,
      refl,
    )

pub add-requires-clause-fits : goal.add-requires-clause-fits
add-requires-clause-fits c =
    let s = table_state c.args.self.now in
    let m = c.args.message.now in
    let w = c.args.wagon in
    let events = sym (ap (λ (j : Journey). j.events) c.in-Some.ensures.found) in
    let none = either_by s m w _ _ c.requires.named c.in-Some.ensures.known events (sym c.in_ok-event.ensures) ∙ sym c.event_fault.ensures ∙ c.in_default-event_fault.is in
    ap (λ (e : Event). fits (s.journey w ++ e ∷ [])) c.in_ok-event.ensures ∙ ap fits (sym (comes_last s m w c.requires.named (or_none_left _ _ none))) ∙ c.requires.calendar none

pub returns-clause-ok : goal.returns-clause-ok
returns-clause-ok c =
    let old = c.args.self.now in
    let m = c.args.message.now in
    let w = c.args.wagon in
    let events = sym (ap (λ (j : Journey). j.events) c.in-Some.ensures.found) in
    let none = either_by (table_state old) m w _ _ c.requires.named c.in-Some.ensures.known events (sym c.in_ok-event.ensures) ∙ sym c.event_fault.ensures ∙ c.in_default-event_fault.is in
    let change : Change = record { wagon = w; position = c.in-Some.position; before = c.in_ok-before.before } in
    record {
      change = change;
      gone_on = one_on old _ m change c.in_ok-event.event c.in_ok-event.ensures (record { is_named = c.requires.named; admits = none }) c.in-Some.ensures.position
          (subst (λ (es : List Event). IsStateBefore (es ++ c.in_ok-event.event ∷ []) c.in_ok-before.before) (sym events) c.in_ok-before.ensures) c.in_default-add.ensures.ok;
      listed = c.push_reserved.ensures.items;
    }
