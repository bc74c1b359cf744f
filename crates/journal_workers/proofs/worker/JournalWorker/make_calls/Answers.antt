use Rattle.std.proofs.Common.{◌++◌, ◌∷◌, [], List, length, arith, sym, ap, ◌∙◌, subst, append-nil, append_assoc, length-append}
use Rattle.inbox.specs.States.{PassState, after_take}
use Rattle.inbox.specs.declared.rule.Job.{Job}
use Rattle.session_lines.specs.declared.session.Done.{Done}
use Rattle.journaled_hub.specs.JournaledHubs.{history_of}
use Rattle.journal_workers.specs.Work.{AreAnswers}
use Rattle.journal_workers.proofs.AnswerLemmas.{one_answer, answers_more}
use Rattle.journal_workers.proofs.worker.JournalWorker.make_calls.Goals as goal

pub loop-more-init : goal.loop-more-init
loop-more-init g c =
    let one = c.make_call.ensures in
    let began = c.args.self.now in
    let now = c.make_call.new.self in
    let none = c.requires.room.empty in
    let done : Done = one.answer.0 in
    let answered : AreAnswers (history_of began.hub) (c.args.first ∷ []) (began.dones.items ++ done ∷ []) (history_of now.hub) = one_answer (history_of began.hub) c.args.first began.dones.items done (history_of now.hub) none one.answer.1 in (
      record {
        rest = [];
        took_only = one.pass ∙ ap (λ (l : List Job). record began.pass { taken = l }) (sym (append-nil began.pass.taken));
        answers = subst (λ l. AreAnswers (history_of began.hub) (c.args.first ∷ []) l (history_of now.hub)) (sym one.answer.2) answered;
        journaled = one.journaled;
        journal = one.journal;
        room = one.room;
        counted = λ few. let counted = one.one few in omega (arith, counted);
        before = one.before;
      },
      (let ok = now.dones.ok.0 in
          let size = ap (λ (l : List Done). length l) one.answer.2 ∙ ap (λ (l : List Done). length (l ++ done ∷ [])) none in
          omega (arith, ok, size)),
    )

pub loop-more-preserved : goal.loop-more-preserved
loop-more-preserved g c =
    let was = c.loop-more.invariant.0 in
    let one = c.make_call-in-Some.ensures in
    let began = c.args.self.now in
    let now = c.make_call-in-Some.new.self in
    let job = c.in-Some.job in
    let done : Done = one.answer.0 in
    let dones = c.loop-more.self.dones.items in
    let jobs : List Job = c.args.first ∷ was.rest ++ job ∷ [] in
    let answered : AreAnswers (history_of began.hub) jobs (dones ++ done ∷ []) (history_of now.hub) = answers_more (history_of began.hub) (c.args.first ∷ was.rest) dones (history_of c.loop-more.self.hub) job done (history_of now.hub) was.answers one.answer.1 in (
      record {
        rest = was.rest ++ job ∷ [];
        took_only = one.pass ∙ (c.in-Some.ensures.taken
            ∙ (ap (λ (p : PassState). after_take p job) was.took_only
            ∙ ap (λ (l : List Job). record began.pass { taken = l }) (append_assoc began.pass.taken was.rest (job ∷ []))));
        answers = subst (λ l. AreAnswers (history_of began.hub) jobs l (history_of now.hub)) (sym one.answer.2) answered;
        journaled = one.journaled;
        journal = one.journal ∙ was.journal;
        room = one.room ∙ was.room;
        counted = λ few.
            let counted = one.one few in
            let then = was.counted (one.before few) in
            let more = length-append was.rest (job ∷ []) in
            omega (arith, counted, then, more);
        before = λ few. was.before (one.before few);
      },
      (let ok = now.dones.ok.0 in
          let old = c.loop-more.self.dones.ok.0 in
          let size = ap (λ (l : List Done). length l) one.answer.2 in
          let more = length-append dones (done ∷ []) in
          let turn = c.loop-more.invariant.1 in
          omega (arith, ok, old, size, more, turn)),
    )
