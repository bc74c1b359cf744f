use Rattle.wimo.proofs.Common.{◌≡◌, ◌+◌, [], ◌∷◌, ◌++◌, drop, ap, sym, ◌∙◌, arith, append-nil, at_drop_all, at_drop_more}
use Rattle.wimo.proofs.RecordEventLemmas.{shown_more, room_more}
use Rattle.wimo.proofs.record.events_of.Goals as goal

pub shown_as-what-requires : goal.shown_as-what-requires
shown_as-what-requires c =
    let events = c.args.events.now in
    let i = c.loop-event.event-index in
    let event = c.event-item.result in
    let behind : drop i events ≡ event ∷ drop (i + 1) events = at_drop_more (λ l. l) events i event c.loop-event-test.true ∙ ap (λ e. e ∷ drop (i + 1) events) (sym c.event-item.is) in
    let room = rw behind at c.loop-event.invariant.room in
    room.0

pub loop-event-preserved : goal.loop-event-preserved
loop-event-preserved c =
    let events = c.args.events.now in
    let i = c.loop-event.event-index in
    let current = c.loop-event.current in
    let event = c.event-item.result in
    let rest = drop (i + 1) events in
    let behind : drop i events ≡ event ∷ rest = at_drop_more (λ l. l) events i event c.loop-event-test.true ∙ ap (λ e. e ∷ rest) (sym c.event-item.is) in
    let here = c.recorded.ensures ∙ ap (λ what. record { by = event.by; no = event.no; at = event.at; what = what }) c.shown_as-what.ensures in
    let next = c.leg_index_after-current.ensures in
    record {
      shown = shown_more c.loop-event.shown.items c.push_reserved.new.self.items current c.leg_index_after-current.result event rest _ (c.push_reserved.ensures.items ∙ ap (λ r. c.loop-event.shown.items ++ r ∷ []) (here)) next.value (rw behind at c.loop-event.invariant.shown);
      room = room_more current c.leg_index_after-current.result event rest next.value (rw behind at c.loop-event.invariant.room);
      small = omega arith;
      space = omega (arith, c.loop-event-test.true);
    }

pub returns : goal.returns
returns c =
    let none : drop c.loop-event.event-index c.args.events.now ≡ [] = at_drop_all (λ l. l) c.args.events.now c.loop-event.event-index (omega arith) in
    c.from_vec.ensures ∙ sym (append-nil c.loop-event.shown.items) ∙ (rw none at c.loop-event.invariant.shown)
