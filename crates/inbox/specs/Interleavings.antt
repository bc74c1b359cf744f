-- Interleavings of lists, and what it means that a queue is kept.
use Rattle.std.specs.Prelude.{◌≡◌, ℕ, ◌==◌, if◌then◌else◌, List, [], ◌∷◌, ◌++◌, length, slice_index_or}
use Rattle.inbox.specs.declared.rule.Job.{Job}

-- the items of a list that have this label, in their order; the first list has the labels
abbrev pub items_of_label : {T : Type 0} → ℕ → List ℕ → List T → List T
items_of_label k [] items = []
items_of_label k (w ∷ labels) [] = []
items_of_label k (w ∷ labels) (x ∷ items) =
    if w == k then x ∷ items_of_label k labels items else items_of_label k labels items

-- each item has one label, and the list of each place holds the items whose label is the place, in their order
abbrev pub Interleaves : {T : Type 0} → List (List T) → List T → Type 0
Interleaves lists items =
    (labels : List ℕ) × (length labels ≡ length items)
    × ((k : ℕ) → slice_index_or lists k [] ≡ items_of_label k labels items)

-- the queue is kept: what was taken, and then what is left, is an interleaving of what each pass put, and what was taken is an
-- interleaving of what each pass took
abbrev pub IsKept : List (List Job) → List (List Job) → List Job → Type 0
IsKept puts takes left =
    (taken : List Job) × Interleaves puts (taken ++ left) × Interleaves takes taken
