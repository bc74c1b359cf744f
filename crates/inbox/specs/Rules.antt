-- The rule of the inbox: what its queue holds, beside what each pass put and took.
use Rattle.std.specs.Prelude.{◌≡◌, ℕ, ◌+◌, ◌<◌, ◌≤◌, ◌⊎◌, ◌==◌, if◌then◌else◌, List, [], ◌∷◌, ◌++◌, map, length, slice_index_or, Option, Some, None}
use mathlib.Core.Option.{some}
use lib.ListN.{get_elem?}
use Rattle.inbox.specs.Interleavings.{items_of_label}
use Rattle.inbox.specs.declared.rule.Job.{Job}
use Rattle.inbox.specs.declared.rule.PassJobs.{PassJobs}
use Rattle.inbox.specs.declared.rule.PassView.{PassView}

-- how many parts there are, 2 ^ 20; the first pass has them all, and each split gives one away
abbrev pub ALL_PARTS : ℕ
ALL_PARTS = 1048576

abbrev pub pass_jobs : List Job → List Job → PassJobs
pass_jobs put taken = record { put = put; taken = taken }

abbrev pub pass_view : ℕ → List PassJobs → Option (List Job) → PassView
pass_view parts passes content = record { parts = parts; passes = passes; content = content }

-- what each pass put
abbrev pub put_lists : List PassJobs → List (List Job)
put_lists passes = map (λ (p : PassJobs). p.put) passes

-- what each pass took
abbrev pub taken_lists : List PassJobs → List (List Job)
taken_lists passes = map (λ (p : PassJobs). p.taken) passes

-- how often a label stands in a list
abbrev pub times : ℕ → List ℕ → ℕ
times label [] = 0
times label (l ∷ labels) = (if l == label then 1 else 0) + times label labels

-- the sum of a number of each item
abbrev pub total : {A : Type 0} → (A → ℕ) → List A → ℕ
total f [] = 0
total f (x ∷ xs) = f x + total f xs

-- each label is below n
abbrev pub AllBelow : ℕ → List ℕ → Type 0
AllBelow n [] = Unit {0}
AllBelow n (l ∷ labels) = (l < n) × AllBelow n labels

-- what the pass of this label put and took, where each job that was put and each that was taken has the label of its pass
abbrev pub jobs_of_label : List ℕ → List Job → List ℕ → List Job → ℕ → PassJobs
jobs_of_label put_labels put taken_labels taken label =
    pass_jobs (items_of_label label put_labels put) (items_of_label label taken_labels taken)

-- what a pass shows while passes share the queue: it does not know what the queue holds, and it has the jobs of the labels in its
-- row; without a part it has none
abbrev pub ShowsRow : List Job → List Job → List ℕ → List ℕ → List ℕ → PassView → Type 0
ShowsRow put taken put_labels taken_labels row v =
    (v.content ≡ None) × (v.parts ≡ 0 → v.passes ≡ [])
    × (v.passes ≡ map (jobs_of_label put_labels put taken_labels taken) row)

-- while passes share the queue: what was put is what was taken and then what the queue holds; each job has the label of the pass
-- that put it, and of the one that took it; each label stands in one row, once, and there is a row for each pass
pub record IsShared (items : List Job) (views : List PassView) : Type 0 where
  pub put : List Job
  pub taken : List Job
  pub put_labels : List ℕ
  pub taken_labels : List ℕ
  pub rows : List (List ℕ)
  pub label_count : ℕ
  pub order : put ≡ taken ++ items
  pub put_fits : length put_labels ≡ length put
  pub taken_fits : length taken_labels ≡ length taken
  pub put_below : AllBelow label_count put_labels
  pub taken_below : AllBelow label_count taken_labels
  pub row_count : length rows ≡ length views
  pub once : (a : ℕ)
      → (a < label_count → total (times a) rows ≡ 1) × (label_count ≤ a → total (times a) rows ≡ 0)
  pub shows : (number : ℕ) (v : PassView) → get_elem? views number ≡ some v
      → ShowsRow put taken put_labels taken_labels (slice_index_or rows number []) v

-- once the inbox is closed: one pass has every part, and knows what the queue holds
abbrev pub IsClosed : List Job → List PassView → Type 0
IsClosed items views =
    (number : ℕ) × (v : PassView) × (get_elem? views number ≡ some v)
    × (v.parts ≡ ALL_PARTS) × (v.content ≡ Some items)

-- the rule: no part is lost, and passes share the queue or it is closed
abbrev pub KeepsRule : List Job → List PassView → Type 0
KeepsRule items views =
    (total (λ (v : PassView). v.parts) views ≡ ALL_PARTS) × (IsShared items views ⊎ IsClosed items views)

-- the rule lets the queue hold these items, with this pass among all passes
abbrev pub CanHold : PassView → List Job → Type 0
CanHold v items =
    (views : List PassView) × (number : ℕ) × (get_elem? views number ≡ some v) × KeepsRule items views

-- the first of the passes with one job more that it put
abbrev pub add_put : List PassJobs → Job → List PassJobs
add_put [] job = []
add_put (p ∷ passes) job = pass_jobs (p.put ++ job ∷ []) p.taken ∷ passes

-- the first of the passes with one job more that it took
abbrev pub add_taken : List PassJobs → Job → List PassJobs
add_taken [] job = []
add_taken (p ∷ passes) job = pass_jobs p.put (p.taken ++ job ∷ []) ∷ passes

-- what the first of the passes put
abbrev pub own_put : List PassJobs → List Job
own_put [] = []
own_put (p ∷ passes) = p.put

-- what the first of the passes took
abbrev pub own_taken : List PassJobs → List Job
own_taken [] = []
own_taken (p ∷ passes) = p.taken

-- one pass, into which no other was joined: it has some part, and its own jobs alone
abbrev pub IsOnePass : PassView → Type 0
IsOnePass v =
    (0 < v.parts)
    × (v ≡ pass_view v.parts (pass_jobs (own_put v.passes) (own_taken v.passes) ∷ []) None)

-- what is left in a closed inbox: the job that was taken out, and then what the queue is known to hold
abbrev pub jobs_left : Option Job → Option (List Job) → List Job
jobs_left None content = []
jobs_left (Some job) None = job ∷ []
jobs_left (Some job) (Some content) = job ∷ content

-- while a job is left, the one pass knows what the queue holds
abbrev pub KnowsContent : Option Job → PassView → Type 0
KnowsContent None v = Unit {0}
KnowsContent (Some job) v = (content : List Job) × (v ≡ pass_view ALL_PARTS [] (Some content))
