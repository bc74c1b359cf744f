use Rattle.hub_replay.proofs.Common.{refl}
use Rattle.hub_replay.proofs.RunLemmas.{Advances-said, Advances-blank, StopsWithin-here, answers-lines, blames_memory, on_ok, on_err}
use Rattle.hub_replay.proofs.answer_line.answer_line.Goals as goal

pub returns-in-Blank-clause-answers : goal.returns-in-Blank-clause-answers
returns-in-Blank-clause-answers g c = rw (c.in-Blank.is) (Advances-blank _ c.args.hub.now c.args.output.now)

pub returns-in-TooLong-clause-answers : goal.returns-in-TooLong-clause-answers
returns-in-TooLong-clause-answers g c =
    answers-lines c.push_fault_text.result _ _ _
    (on_ok c.push_fault_text.result c.push_fault_text.ensures.pending c.push_fault_text.ensures.counts
    (λ pending counts. rw (c.in-TooLong.is) (Advances-said _ c.args.hub.now c.args.output.now c.push_fault_text.new.self _ _ (λ o q. refl) pending counts)))
    (on_err c.push_fault_text.result (StopsWithin-here _ c.args.hub.now c.args.output.now _))

pub returns-in-TooLong-clause-blames : goal.returns-in-TooLong-clause-blames
returns-in-TooLong-clause-blames g c = blames_memory c.push_fault_text.result (g.W.Sink.failures c.args.writer.now) c.push_fault_text.ensures.err

pub returns-in-Fault-clause-answers : goal.returns-in-Fault-clause-answers
returns-in-Fault-clause-answers g c =
    answers-lines c.push_fault.result _ _ _
    (on_ok c.push_fault.result c.push_fault.ensures.pending c.push_fault.ensures.counts
    (λ pending counts. rw (c.in-Fault.is) (Advances-said _ c.args.hub.now c.args.output.now c.push_fault.new.self _ _ (λ o q. refl) pending counts)))
    (on_err c.push_fault.result (StopsWithin-here _ c.args.hub.now c.args.output.now _))

pub returns-in-Fault-clause-blames : goal.returns-in-Fault-clause-blames
returns-in-Fault-clause-blames g c = blames_memory c.push_fault.result (g.W.Sink.failures c.args.writer.now) c.push_fault.ensures.err
