use Rattle.carried_hub.proofs.Common.{calls_of, history_of, IsJournaled, AddAcknowledgements}
use Rattle.carried_hub.proofs.calls.give_acknowledgements.Given as goal

abbrev pub invariant-loop-railway : goal.invariant-loop-railway
invariant-loop-railway g l = record {
  journaled : IsJournaled l.next;
  given : AddAcknowledgements (calls_of (history_of l.initial.next)) (calls_of (history_of l.next));
}
