-- What the history has of the jobs of a session, where what the session was told stands in it.
use Rattle.hub_workers.proofs.Common.{◌≡◌, ℕ, zero, suc, ◌+◌, List, [], ◌∷◌, ◌++◌, length, get_or, slice_get, Option, Some, None, Result, Ok, Err, refl, sym, ap, ◌∙◌, subst, arith, length-append, get_or_append_left, get_or-append-add, get_or_push, All, Call, Reply, Entry, HubFault, Told, Job, Done, with_entry, tally_with, Streams, SessionEnd, HasEnded, tells_own, StandsIn, TellsHistory}

abbrev value_or : {X : Type 0} → X → Option X → X
value_or y None = y
value_or y (Some x) = x

-- what holds of all of two lists
pub first_all : {X : Type 0} (P : X → Type 0) (xs ys : List X) → All P (xs ++ ys) → All P xs
first_all P xs ys all k d low =
    let long = length-append xs ys in
    subst P (get_or_append_left xs ys d k low) (all k d (omega (arith, long, low)))

pub rest_all : {X : Type 0} (P : X → Type 0) (xs ys : List X) → All P (xs ++ ys) → All P ys
rest_all P xs ys all k d low =
    let long = length-append xs ys in
    subst P (get_or-append-add xs ys k d) (all (length xs + k) d (omega (arith, long, low)))

last_all : {X : Type 0} (P : X → Type 0) (xs : List X) (x : X) → All P (xs ++ x ∷ []) → P x
last_all P xs x all =
    let long = length-append xs (x ∷ []) in
    subst P (get_or_push xs x x (length xs) refl) (all (length xs) x (omega (arith, long)))

-- the entries that a tally has stay in it
before_entry : (P : Told → Type 0) (tally : List Told) (call : Call) (answer : Result (ℕ × Reply) HubFault) → All P (with_entry tally call answer) → All P tally
before_entry P tally call (Ok answer) all = first_all P tally (record { position = answer.0; call = call; reply = answer.1 } ∷ []) all
before_entry P tally call (Err fault) all = all

before_entries : (P : Told → Type 0) (tally : List Told) (jobs : List Job) (dones : List Done) → All P (tally_with tally jobs dones) → All P tally
before_entries P tally [] dones all = all
before_entries P tally (asked ∷ jobs) [] all = all
before_entries P tally (asked ∷ jobs) (d ∷ dones) all = before_entry P tally asked.call d.answer (before_entries P (with_entry tally asked.call d.answer) jobs dones all)

-- the entry of a job whose answer was Ok
entry_there : (P : Told → Type 0) (tally : List Told) (jobs : List Job) (dones : List Done) (k position : ℕ) (reply : Reply) (j : Job) (d : Done) → All P (tally_with tally jobs dones)
    → slice_get jobs k ≡ Some j → slice_get dones k ≡ Some d → d.answer ≡ Ok (position, reply) → P (record { position = position; call = j.call; reply = reply })
entry_there P tally [] dones k position reply j d all job done answer = absurd (cc job)
entry_there P tally (asked ∷ jobs) [] k position reply j d all job done answer = absurd (cc done)
entry_there P tally (asked ∷ jobs) (first ∷ dones) zero position reply j d all job done answer =
    let here = before_entries P (with_entry tally asked.call first.answer) jobs dones all in
    let call : asked.call ≡ j.call = ap (λ (x : Job). x.call) (ap (value_or asked) job) in
    let is : first.answer ≡ Ok (position, reply) = ap (λ (x : Done). x.answer) (ap (value_or first) done) ∙ answer in
    last_all P tally (record { position = position; call = j.call; reply = reply }) (subst (λ a. All P (with_entry tally j.call a)) is (subst (λ c. All P (with_entry tally c first.answer)) call here))
entry_there P tally (asked ∷ jobs) (first ∷ dones) (suc k) position reply j d all job done answer = entry_there P (with_entry tally asked.call first.answer) jobs dones k position reply j d all job done answer

-- a session that was served, where all that it was told stands in the history
pub tells_history : (history : List Entry) (number : ℕ) (began : Streams) (end : SessionEnd) (told : List Told) (put : List Job)
    → HasEnded number began end told put → All (StandsIn history) told → TellsHistory history number began end told put
tells_history history number began end told put ended stands =
    let own = tells_own number began end told put ended in
    record {
      own = own;
      answers = λ k position reply j d job done answer.
          entry_there (StandsIn history) [] own.serves.jobs own.dones k position reply j d (subst (All (StandsIn history)) own.own.entries stands) job done answer;
    }
