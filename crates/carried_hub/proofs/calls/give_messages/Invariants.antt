use Rattle.carried_hub.proofs.Common.{◌≡◌, take, messages_of, names_but, calls_of, history_of, IsJournaled}
use Rattle.carried_hub.proofs.calls.give_messages.Given as goal

abbrev pub invariant-loop-i : goal.invariant-loop-i
invariant-loop-i g l = record {
  journaled : IsJournaled l.next;
  given : calls_of (history_of l.next) ≡ messages_of (names_but l.names) (take l.i (calls_of l.old));
}
