-- Interleavings, and that a history that is told is one.
use Rattle.std.specs.Prelude.{◌≡◌, ℕ, ◌==◌, if◌then◌else◌, List, [], ◌∷◌, length, map, drop, slice_index_or}
use Rattle.hub_model.specs.declared.entry.Entry.{Entry}
use Rattle.tallies.specs.Tallies.{TallyState}
use Rattle.hub_shared.specs.Settling.{entry_of, IsTold}

-- the items of a list that have this label, in their order; the first list has the labels
abbrev pub items_of_label : {T : Type 0} → ℕ → List ℕ → List T → List T
items_of_label k [] items = []
items_of_label k (w ∷ labels) [] = []
items_of_label k (w ∷ labels) (x ∷ items) =
    if w == k then x ∷ items_of_label k labels items else items_of_label k labels items

-- each item has one label, and the list of each place holds the items whose label is the place, in their order
abbrev pub Interleaves : {T : Type 0} → List (List T) → List T → Type 0
Interleaves lists items =
    (labels : List ℕ) × (length labels ≡ length items)
    × ((k : ℕ) → slice_index_or lists k [] ≡ items_of_label k labels items)

-- the entries that each session was told
abbrev pub entries_of : List TallyState → List (List Entry)
entries_of tallies = map (λ (p : TallyState). map entry_of p.entries) tallies

-- in a history that is told each entry behind those that were there before is of one tally, and those of a tally stand in its
-- order, each once
abbrev pub ToldInOrder : Type 0
ToldInOrder =
    (history : List Entry) (earlier : ℕ) (tallies : List TallyState) → IsTold history earlier tallies
    → Interleaves (entries_of tallies) (drop earlier history)
