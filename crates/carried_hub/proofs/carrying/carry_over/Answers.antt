use Rattle.carried_hub.proofs.Common.{ap, sym, subst, state_of, state_after, names_but, calls_of, history_of, AddAcknowledgements, HaveSameItems, GoesOnWith, state_of_calls}
use Rattle.carried_hub.proofs.CarriedLemmas.{goes_on_with, on_ok}
use Rattle.carried_hub.proofs.carrying.carry_over.Goals as goal

pub returns-clause-goes_on : goal.returns-clause-goes_on
returns-clause-goes_on g c =
    let names = names_but c.args.names.now in
    let calls = calls_of c.args.old.now in
    let next = c.give_acknowledgements.new.next in
    let divided = (c.in_ok-are_closed.ensures c.if-not-branch.false).divided in
    let given = subst (λ l. AddAcknowledgements l (calls_of (history_of next))) c.in_ok-give_messages.ensures.given c.in_ok-give_acknowledgements.ensures.given in
    let before = state_of_calls c.args.old.now c.history_is_legal.ensures.legal in
    let after = state_of_calls (history_of next) c.history_is_legal-2.ensures.legal in
    let items = subst (λ t. HaveSameItems (state_after calls) t) after (subst (λ s. HaveSameItems s (state_of (history_of next))) before (subst (λ h. HaveSameItems (state_of c.args.old.now) (state_of h)) c.hub.ensures (c.in_ok-have_same_items.ensures c.if-not-branch-2.false))) in
    on_ok c.put_on_disk.result (subst (GoesOnWith names calls) (sym (ap calls_of c.put_on_disk.ensures.history)) (goes_on_with names calls (calls_of (history_of next)) divided given c.others_can_be_left_behind.ensures c.others_do_not_matter.ensures.same items))
