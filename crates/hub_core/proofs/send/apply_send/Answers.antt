use Rattle.hub_core.proofs.Common.{ap, ◌∙◌, sym, subst, Message, has_room, position_of, KeepsLimits}
use Rattle.hub_core.proofs.send.apply_send.Goals as goal

pub apply_repeat-requires-clause-sent_before : goal.apply_repeat-requires-clause-sent_before
apply_repeat-requires-clause-sent_before c =
    let sender = c.by.ensures ∙ ap (λ (m : Message). m.by) c.get-sent.ensures in
    let name = c.no.ensures ∙ ap (λ (m : Message). m.no) c.get-sent.ensures in
    (λ i. c.find_or_make_room.ensures.positions i c.args.message.by c.args.message.no) ∙ sym (λ i. position_of c.args.state.now.seen (sender i) (name i)) ∙ sym c.in_ok-position.ensures.found ∙ c.in-Some.is

pub apply_new-requires-clause-new : goal.apply_new-requires-clause-new
apply_new-requires-clause-new c =
    let sender = c.by.ensures ∙ ap (λ (m : Message). m.by) c.get-sent.ensures in
    let name = c.no.ensures ∙ ap (λ (m : Message). m.no) c.get-sent.ensures in (
      (λ i. c.find_or_make_room.ensures.positions i c.args.message.by c.args.message.no) ∙ sym (λ i. position_of c.args.state.now.seen (sender i) (name i)) ∙ sym c.in_ok-position.ensures.found ∙ c.in-None.is,
      subst KeepsLimits c.get-sent.ensures c.note_limits.ensures,
      sym (λ i. has_room c.find_or_make_room.new.self (sender i) (name i)) ∙ c.in_ok-position.ensures.room c.in-None.is,
    )
