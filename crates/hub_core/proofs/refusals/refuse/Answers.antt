use Rattle.hub_core.proofs.Common.{rules, ◌≡◌, ◌∷◌, [], ◌++◌, Some, ap, ◌∙◌, cond, length, transport⁻¹, same_name, position_of, outbox_state_of, verdict, table_state, Represents, entry_of}
use Rattle.hub_core.proofs.SendLemmas.{new_answer, kept_refused}
use Rattle.hub_core.proofs.refusals.refuse.Goals as goal

pub returns : goal.returns
returns c =
    let b = c.args.state.now in
    let m = c.args.message in
    let f = c.args.found in
    let entered = c.enter_send.ensures in
    let reserved = c.in_ok-reserve.ensures.entries in
    let told : c.in_ok-reply.reply ≡ verdict m.no (Some f) = c.in_ok-reply.ensures ∙ (λ i. verdict ((c.no.ensures ∙ ap (λ n. n.no) c.get.ensures) i) (Some f)) in
    let kept = transport⁻¹ (λ i. Represents ((entered.entries ∙ (λ j. reserved j ++ entry_of (record { message = m; reply = told j }) ∷ [])) i) (table_state (entered.tables i))
    (λ by n. (entered.seen by n ∙ (λ j. cond (same_name m.by m.no by n) (Some (length (reserved j))) (position_of b.seen by n))) i) (outbox_state_of (entered.outboxes i)))
    (kept_refused c.requires.ready.0 c.requires.ready.1 m c.requires.new.1 c.requires.new.0 f c.requires.fault) in
    let answered = c.in_ok-reply_copy.ensures ∙ told ∙ new_answer c.requires.ready.0 c.requires.ready.1 m c.requires.new.1 c.requires.new.0 (Some f) c.requires.fault in
    search (rules, kept, answered)
