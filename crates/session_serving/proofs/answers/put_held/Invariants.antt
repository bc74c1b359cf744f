use Rattle.session_serving.proofs.Common.{◌≡◌, ◌≤◌, true, length, output_of, Says, HasRoom}
use Rattle.session_serving.proofs.answers.put_held.Given as goal

abbrev pub invariant-loop-line : goal.invariant-loop-line
invariant-loop-line g l = record {
  says : Says l.initial.session (output_of (g.K.Sink.contents l.initial.writer) l.initial.out.items) l.session (output_of (g.K.Sink.contents l.writer) l.out.items) true;
  kept : g.K.Sink.failures l.writer ≡ g.K.Sink.failures l.initial.writer;
  sound : l.session.has_failed ≡ l.initial.session.has_failed;
  fewer : length l.session.slots ≤ length l.initial.session.slots;
  fits : HasRoom l.out;
}

abbrev pub decreases-loop-line : goal.decreases-loop-line
decreases-loop-line g l = length l.session.slots
