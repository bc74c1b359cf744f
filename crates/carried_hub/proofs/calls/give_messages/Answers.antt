use Rattle.carried_hub.proofs.Common.{[], ◌∷◌, ◌++◌, ap, ◌∙◌, sym, names_but, calls_of, messages_of, call_at}
use Rattle.carried_hub.proofs.CarriedLemmas.{messages_up_to}
use Rattle.carried_hub.proofs.calls.give_messages.Goals as goal

pub loop-i-preserved : goal.loop-i-preserved
loop-i-preserved g c =
    let history = c.args.old.now in
    let names = names_but c.args.names.now in
    let i = c.loop-i.i in
    let entry = c.in-Some.entry.now in
    let done = c.in_ok-give_if_it_stays.ensures in
    record {
      journaled = done.journaled;
      given = done.given ∙ ap (λ l. l ++ messages_of names (entry.call ∷ [])) c.loop-i.invariant.given ∙ sym (messages_up_to names (calls_of history) i entry.call (call_at history i entry (sym c.in-Some.ensures)));
    }
