use Rattle.wimo.proofs.Common.{◌≡◌, ◌+◌, ◌-◌, ◌≤◌, ◌++◌, length, drop, vec_len, vec_capacity, HaveRoom}
use Rattle.wimo.specs.Records as records
use Rattle.wimo.proofs.record.events_of.Given as goal

abbrev pub invariant-loop-event : goal.invariant-loop-event
invariant-loop-event l = record {
  shown : l.shown.items ++ records.record_events l.current (drop l.event-index l.events) ≡ records.record_events 0 l.events;
  room : HaveRoom l.current (drop l.event-index l.events);
  small : l.current ≤ l.event-index;
  space : vec_len l.shown + (length l.events - l.event-index) ≤ vec_capacity l.shown;
}
