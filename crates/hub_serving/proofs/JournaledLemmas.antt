-- What the worker around the hub of a journal gave back.
use Rattle.hub_serving.proofs.Common.{◌≡◌, ℕ, false, List, [], ◌∷◌, ◌++◌, length, sym, ap, subst, ◌∙◌, LeavesOnly, journal_past, has_failed, lines_of, Journal, Entry, JournaledHub, IsFrontOnDisk, lines_of_history, history_of, journal_of, past_of, all_durable, AreAnswers, HasWorked, JournalWorker, answers_grow, EachPair, IsWorkOf, Job, KeepsJournal}
use Rattle.hub_serving.proofs.OnlyLemmas.{only_item, pair_only}

-- what the only worker began with, and what it gave back
pub only_work : {F : Type 0} (workers back front : List (JournalWorker F)) (worker w : JournalWorker F) → workers ≡ worker ∷ [] → back ≡ front ++ w ∷ []
    → EachPair (λ k (s r : JournalWorker F). IsWorkOf (λ x. x.pass) HasWorked s r) workers back → IsWorkOf (λ (x : JournalWorker F). x.pass) HasWorked worker w
only_work {F} workers back front worker w is end pairs =
    pair_only (λ k (s r : JournalWorker F). IsWorkOf (λ x. x.pass) HasWorked s r) workers back worker w is
    (only_item back front w end (pairs.0 ∙ ap (λ (l : List (JournalWorker F)). length l) is)) pairs

module _ {F : Type 0} (began : JournaledHub F) (worker w : JournalWorker F) (hub : List Entry) (journal : Journal F) (same : worker.hub ≡ began) (work : HasWorked worker w) (hub_is : hub ≡ history_of w.hub) (journal_is : journal ≡ journal_of w.hub) where
  answers_back : AreAnswers (history_of began) work.jobs work.dones hub
  answers_back =
      subst (λ h. AreAnswers (history_of began) work.jobs work.dones h) (sym hub_is)
      (subst (λ (h : JournaledHub F). AreAnswers (history_of h) work.jobs work.dones (history_of w.hub)) same work.answers)

  pub grown_back : (more : List Entry) × (hub ≡ history_of began ++ more)
  grown_back = answers_grow (history_of began) work.jobs work.dones hub answers_back

  disk_back : has_failed journal ≡ false → lines_of journal ≡ lines_of_history hub
  disk_back sound =
      let there = work.on_disk (ap has_failed (sym journal_is) ∙ sound) in
      ap lines_of journal_is ∙ (all_durable w.hub there ∙ ap lines_of_history (sym hub_is))

  moments_back : LeavesOnly (past_of began) (journal_past journal) (IsFrontOnDisk (length (history_of began)) hub)
  moments_back =
      subst (λ h. LeavesOnly (past_of began) (journal_past journal) (IsFrontOnDisk (length (history_of began)) h)) (sym hub_is)
      (subst (λ p. LeavesOnly (past_of began) p (IsFrontOnDisk (length (history_of began)) (history_of w.hub))) (ap journal_past (sym journal_is))
      (subst (λ (h : JournaledHub F). LeavesOnly (past_of h) (past_of w.hub) (IsFrontOnDisk (length (history_of h)) (history_of w.hub))) same work.any_moment))

  pub keeps_back : (taken : List (List Job)) → taken ≡ work.jobs ∷ [] → KeepsJournal began hub taken journal
  keeps_back taken is = record {
    jobs = work.jobs;
    dones = work.dones;
    taken_are = is;
    answers = answers_back;
    on_disk = disk_back;
    any_moment = moments_back;
  }
