-- The work of a worker, one batch after another.
use Rattle.inbox.specs.States.{after_take}
use Rattle.journal_workers.proofs.Common.{◌≡◌, ◌⊎◌, ◌<◌, ◌^◌, List, [], ◌∷◌, ◌++◌, length, refl, sym, ap, ◌∙◌, subst, arith, append_assoc, append-nil, length-append, false, PassState, Job, LeavesOnly, StandsFor, lines_of_history, history_of, journal_of, past_of, has_failed, durable_lines, IsOnDisk, JournaledHub, JournalWorker, AreAnswers, HasMadeCalls, HasWorked}
use Rattle.journal_workers.proofs.AnswerLemmas.{answers_append, answers_grow}
use Rattle.journaled_hub.specs.Crashes.{HasGoneOn}
use Rattle.journaled_hub.proofs.CrashLemmas.{gone_nowhere, gone_by_batch, gone_on}

-- nothing was done yet
pub not_worked : {F : Type 0} (w : JournalWorker F) → IsOnDisk w.hub → HasWorked w w
not_worked w d = record {
  jobs = [];
  dones = [];
  took_only = ap (λ (l : List Job). record w.pass { taken = l }) (sym (append-nil w.pass.taken));
  answers = refl;
  on_disk = λ sound. d;
  any_moment = (gone_nowhere w.hub d).any_moment;
  counted = λ few. omega arith;
  before = λ few. few;
}

-- the hub of a worker goes on
goes_on : {F : Type 0} (a b : JournalWorker F) → HasWorked a b → HasGoneOn a.hub b.hub
goes_on a b p =
    let more = answers_grow (history_of a.hub) p.jobs p.dones (history_of b.hub) p.answers in
    record { more = more.0; grows = more.1; any_moment = p.any_moment }

-- work, and then further work
pub works_on : {F : Type 0} (a b c : JournalWorker F) → HasWorked a b → HasWorked b c → HasWorked a c
works_on a b c p q =
    record {
      jobs = p.jobs ++ q.jobs;
      dones = p.dones ++ q.dones;
      took_only = q.took_only
          ∙ ap (λ (t : PassState). record t { taken = t.taken ++ q.jobs }) p.took_only
          ∙ ap (λ (l : List Job). record a.pass { taken = l }) (append_assoc a.pass.taken p.jobs q.jobs);
      answers = answers_append (history_of a.hub) p.jobs p.dones (history_of b.hub) q.jobs q.dones (history_of c.hub) p.answers q.answers;
      on_disk = q.on_disk;
      any_moment = (gone_on a.hub b.hub c.hub (goes_on a b p) (goes_on b c q)).any_moment;
      counted = λ few.
          let now = q.counted few in
          let then = p.counted (q.before few) in
          let jobs = length-append p.jobs q.jobs in
          omega (arith, now, then, jobs);
      before = λ few. p.before (q.before few);
    }

-- a batch of calls, and its sync
pub batch_worked : {F : Type 0} (began mid calls w : JournalWorker F) (first : Job)
    → IsOnDisk began.hub → mid.hub ≡ began.hub → mid.refused ≡ began.refused → mid.pass ≡ after_take began.pass first
    → HasMadeCalls first mid calls
    → w.pass ≡ calls.pass → history_of w.hub ≡ history_of calls.hub → w.refused ≡ calls.refused
    → (has_failed calls.hub ≡ false → LeavesOnly (past_of calls.hub) (past_of w.hub) (λ c. StandsFor c (durable_lines calls.hub) ⊎ StandsFor c (lines_of_history (history_of calls.hub))))
    → (has_failed w.hub ≡ false → IsOnDisk w.hub)
    → HasWorked began w
batch_worked {F} began mid calls w first disk same_hub same_refused took made pass history refused leaves on_disk =
    let old = history_of began.hub in
    let new = history_of w.hub in
    let jobs = first ∷ made.rest in
    let dones = calls.dones.items in
    let begun : history_of mid.hub ≡ old = ap (λ (h : JournaledHub F). history_of h) same_hub in
    let answers : AreAnswers old jobs dones new = subst (AreAnswers old jobs dones) (sym history) (subst (λ h. AreAnswers h jobs dones (history_of calls.hub)) begun made.answers) in
    let more = answers_grow old jobs dones new answers in
    let journal : journal_of calls.hub ≡ journal_of began.hub = made.journal ∙ ap (λ (h : JournaledHub F). journal_of h) same_hub in
    record {
      jobs = jobs;
      dones = dones;
      took_only = pass ∙ (made.took_only
          ∙ (ap (λ (t : PassState). record t { taken = t.taken ++ made.rest }) took
          ∙ ap (λ (l : List Job). record began.pass { taken = l }) (append_assoc began.pass.taken (first ∷ []) made.rest)));
      answers = answers;
      on_disk = on_disk;
      any_moment = (gone_by_batch began.hub calls.hub w.hub more.0 disk journal (sym history ∙ more.1) history leaves).any_moment;
      counted = λ few.
          let counted = made.counted (subst (λ n. n < 2 ^ 60) refused few) in
          let long = ap length history in
          let start = ap length begun in
          omega (arith, counted, long, start, refused, same_refused);
      before = λ few. subst (λ n. n < 2 ^ 60) same_refused (made.before (subst (λ n. n < 2 ^ 60) refused few));
    }
