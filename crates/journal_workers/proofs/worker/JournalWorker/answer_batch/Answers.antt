use Rattle.std.proofs.Common.{refl, sym, subst, ◌∙◌, ◌∷◌}
use Rattle.std.proofs.lemmas.Bool.{false≢true}
use Rattle.inbox.specs.States.{PassState}
use Rattle.session_lanes.specs.Arrivals.{HasArrived}
use Rattle.session_lanes.specs.declared.queues.Arrival.{Arrival}
use Rattle.journaled_hub.specs.JournaledHubs.{history_of}
use Rattle.journal_workers.specs.Work.{AreAnswers, HasWorked}
use Rattle.journal_workers.specs.declared.worker.JournalWorker.{JournalWorker}
use Rattle.journal_workers.proofs.WorkLemmas.{not_worked, batch_worked}
use Rattle.journal_workers.proofs.worker.JournalWorker.answer_batch.Goals as goal

pub returns-in-End-clause-worked : goal.returns-in-End-clause-worked
returns-in-End-clause-worked g c =
    let began = c.args.self.now in
    let same = subst (λ (a : Arrival). HasArrived a began.pass c.next.new.pass) c.in-End.is c.next.ensures.arrived in
    subst (λ (p : PassState). HasWorked {F = g.row.F.Denot} began (record { pass = p; hub = began.hub; refused = began.refused; dones = began.dones })) (sym same) (not_worked began c.requires.ready.on_disk)

pub returns-in-Signal-clause-worked : goal.returns-in-Signal-clause-worked
returns-in-Signal-clause-worked g c =
    let began = c.args.self.now in
    let same = subst (λ (a : Arrival). HasArrived a began.pass c.next.new.pass) c.in-Signal.is c.next.ensures.arrived in
    subst (λ (p : PassState). HasWorked {F = g.row.F.Denot} began (record { pass = p; hub = began.hub; refused = began.refused; dones = began.dones })) (sym same) (not_worked began c.requires.ready.on_disk)

pub returns-in-Err-clause-worked : goal.returns-in-Err-clause-worked
returns-in-Err-clause-worked g c =
    let began = c.args.self.now in
    let calls = c.make_calls.new.self in
    let mid : JournalWorker g.row.F.Denot = record { pass = c.next.new.pass; hub = began.hub; refused = began.refused; dones = began.dones } in
    batch_worked began mid calls (record { pass = calls.pass; hub = c.sync.new.self; refused = calls.refused; dones = calls.dones }) c.in-Job.job
    c.requires.ready.on_disk refl refl (subst (λ (a : Arrival). HasArrived a began.pass c.next.new.pass) c.in-Job.is c.next.ensures.arrived) c.make_calls.ensures.made refl c.sync.ensures.history refl
    (λ sound. c.sync.ensures.any_moment sound)
    (λ sound. absurd (false≢true (sym sound ∙ c.in-Err.ensures.failed)))

-- the answers are those to jobs whose calls are on the disk
pub answer_sessions-requires : goal.answer_sessions-requires
answer_sessions-requires g c =
    let old = history_of c.args.self.now.hub in
    let calls = c.make_calls.new.self in
    let made = c.make_calls.ensures.made in
    let jobs = c.in-Job.job ∷ made.rest in
    record {
      before = old;
      jobs = jobs;
      answers = subst (AreAnswers old jobs calls.dones.items) (sym c.sync.ensures.history) made.answers;
      on_disk = record { journaled = c.sync.ensures.journaled; sound = c.in-Ok.ensures.sound; none = c.sync.ensures.none };
    }

pub returns-clause-worked : goal.returns-clause-worked
returns-clause-worked g c =
    let began = c.args.self.now in
    let calls = c.make_calls.new.self in
    let mid : JournalWorker g.row.F.Denot = record { pass = c.next.new.pass; hub = began.hub; refused = began.refused; dones = began.dones } in
    let answered : JournalWorker g.row.F.Denot = record { pass = calls.pass; hub = c.sync.new.self; refused = calls.refused; dones = c.answer_sessions.new.self.dones } in
    subst (λ (w : JournalWorker g.row.F.Denot). HasWorked {F = g.row.F.Denot} began w) (sym c.answer_sessions.ensures.kept)
    (batch_worked began mid calls answered c.in-Job.job
    c.requires.ready.on_disk refl refl (subst (λ (a : Arrival). HasArrived a began.pass c.next.new.pass) c.in-Job.is c.next.ensures.arrived) c.make_calls.ensures.made refl c.sync.ensures.history refl
    (λ sound. c.sync.ensures.any_moment sound)
    (λ sound. record { journaled = c.sync.ensures.journaled; sound = c.in-Ok.ensures.sound; none = c.sync.ensures.none }))
