-- Answers to jobs, one part after another.
use Rattle.std.specs.Prelude.{IfOk, IfErr, OnErr}
use Rattle.hub_model.specs.Histories.{answer}
use Rattle.journaled_hub.specs.OpenFaults.{HandsBack}
use Rattle.journal_workers.proofs.Common.{length, ◌≡◌, ℕ, List, [], ◌∷◌, ◌++◌, refl, sym, ap, ◌∙◌, subst, append_assoc, append-nil, Result, Ok, Err, Call, Reply, HubFault, Entry, Job, Done, IsStep, IsAnswerTo, AreAnswers}

-- the answer to one job
pub one_answer : (before : List Entry) (job : Job) (dones : List Done) (done : Done) (after : List Entry) → dones ≡ [] → IsAnswerTo before job done after → AreAnswers before (job ∷ []) (dones ++ done ∷ []) after
one_answer before job dones done after none one = subst (λ l. AreAnswers before (job ∷ []) (l ++ done ∷ []) after) (sym none) (after, one, refl)

-- one answer more
pub answers_more : (before : List Entry) (jobs : List Job) (dones : List Done) (mid : List Entry) (job : Job) (done : Done) (after : List Entry)
    → AreAnswers before jobs dones mid → IsAnswerTo mid job done after → AreAnswers before (jobs ++ job ∷ []) (dones ++ done ∷ []) after
answers_more before [] [] mid job done after all one = (after, subst (λ h. IsAnswerTo h job done after) all one, refl)
answers_more before [] (d ∷ dones) mid job done after all one = absurd all
answers_more before (j ∷ jobs) [] mid job done after all one = absurd all
answers_more before (j ∷ jobs) (d ∷ dones) mid job done after all one = (all.0, all.1, answers_more all.0 jobs dones mid job done after all.2 one)

-- answers, and then further ones
pub answers_append : (before : List Entry) (jobs : List Job) (dones : List Done) (mid : List Entry) (more : List Job) (next : List Done) (after : List Entry)
    → AreAnswers before jobs dones mid → AreAnswers mid more next after → AreAnswers before (jobs ++ more) (dones ++ next) after
answers_append before [] [] mid more next after all rest = subst (λ h. AreAnswers h more next after) all rest
answers_append before [] (d ∷ dones) mid more next after all rest = absurd all
answers_append before (j ∷ jobs) [] mid more next after all rest = absurd all
answers_append before (j ∷ jobs) (d ∷ dones) mid more next after all rest = (all.0, all.1, answers_append all.0 jobs dones mid more next after all.2 rest)

-- a history goes on
step_grows : (before : List Entry) (call : Call) (answer : Result (ℕ × Reply) HubFault) (after : List Entry) → IsStep before call answer after → (more : List Entry) × (after ≡ before ++ more)
step_grows before call (Ok answered) after s = (record { call = call; reply = answered.1 } ∷ [], s.2)
step_grows before call (Err fault) after s = ([], s.1 ∙ sym (append-nil before))

pub answers_grow : (before : List Entry) (jobs : List Job) (dones : List Done) (after : List Entry) → AreAnswers before jobs dones after → (more : List Entry) × (after ≡ before ++ more)
answers_grow before [] [] after all = ([], all ∙ sym (append-nil before))
answers_grow before [] (d ∷ dones) after all = absurd all
answers_grow before (j ∷ jobs) [] after all = absurd all
answers_grow before (j ∷ jobs) (d ∷ dones) after all =
    let one = step_grows before j.call d.answer all.0 all.1.2 in
    let rest = answers_grow all.0 jobs dones after all.2 in
    (one.0 ++ rest.0, rest.1 ∙ ap (λ l. l ++ rest.0) one.1 ∙ append_assoc before one.0 rest.0)

-- what a call of the hub comes to
pub step_of : (before after : List Entry) (call : Call) (a : Result (ℕ × Reply) HubFault)
    → IfOk a (λ r. (r.0 ≡ length before) × (r.1 ≡ answer before call))
    → IfOk a (λ r. after ≡ before ++ record { call = call; reply = r.1 } ∷ [])
    → IfErr a (λ f. HandsBack f call (length before)) → OnErr a (after ≡ before) → IsStep before call a after
step_of before after call (Ok r) at grows fault same = (at.0, at.1, grows)
step_of before after call (Err f) at grows fault same = (fault, same)
