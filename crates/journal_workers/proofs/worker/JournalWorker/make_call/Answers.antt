use Rattle.std.proofs.Common.{refl}
use Rattle.session_lines.specs.declared.session.Done.{Done}
use Rattle.journaled_hub.specs.JournaledHubs.{history_of}
use Rattle.journal_workers.proofs.AnswerLemmas.{step_of}
use Rattle.journal_workers.proofs.worker.JournalWorker.make_call.Goals as goal

pub returns-clause-answer : goal.returns-clause-answer
returns-clause-answer g c =
    let done : Done = record { session = c.args.job.session; index = c.args.job.index; answer = c.apply-answer.result } in
    let known = c.apply-answer.ensures in (
      done,
      (refl, refl, step_of (history_of c.args.self.now.hub) (history_of c.apply-answer.new.self) c.args.job.call c.apply-answer.result known.answered known.grows known.fault known.unchanged),
      c.push_back_reserved.ensures.items,
    )
