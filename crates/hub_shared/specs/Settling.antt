-- What it means that a history is told by tallies, and what each fault of settling says of them. The first entries of the history
-- may have been there before: no tally is to tell them, and `earlier` is their number.
use Rattle.std.specs.Prelude.{◌≡◌, ℕ, ◌+◌, ◌-◌, ◌<◌, ◌≤◌, ◌==◌, Some, List, length, slice_get, slice_index_or, sum_by}
use Rattle.std.specs.List.{All, count_by}
use Rattle.hub_model.specs.declared.entry.Entry.{Entry}
use Rattle.tallies.specs.declared.tally.Told.{Told}
use Rattle.hub_shared.specs.declared.settling.SettleFault.{SettleFault}
use Rattle.hub_shared.specs.declared.settling.SettleFault.TheVariants.{CountDiffers, Foreign, Earlier, Twice, OutOfOrder, Memory}
use Rattle.tallies.specs.Tallies.{TallyState}

-- the entry that a session was told
abbrev pub entry_of : Told → Entry
entry_of t = record { call = t.call; reply = t.reply }

-- the history has this call with this reply at this position
abbrev pub StandsIn : List Entry → Told → Type 0
StandsIn history t = slice_get history t.position ≡ Some (entry_of t)

-- its position comes behind so many entries that were there before
abbrev pub IsLater : ℕ → Told → Type 0
IsLater earlier t = earlier ≤ t.position

-- how often a tally has the position
abbrev pub times_told : ℕ → List Told → ℕ
times_told at entries = count_by (λ (t : Told). t.position == at) entries

-- how often all tallies have the position
abbrev pub times_told_in : ℕ → List TallyState → ℕ
times_told_in at tallies = sum_by (λ (p : TallyState). times_told at p.entries) tallies

-- how many entries all tallies have
abbrev pub entry_count : List TallyState → ℕ
entry_count tallies = sum_by (λ (p : TallyState). length p.entries) tallies

-- each position is greater than the one before it
abbrev pub IsRising : List Told → Type 0
IsRising entries =
    (k : ℕ) (d : Told) → k + 1 < length entries
    → (slice_index_or entries k d).position < (slice_index_or entries (k + 1) d).position

-- all that is told stands in the history, behind the entries that were there before, each position behind these is told once, and
-- positions rise within each tally
pub record IsTold (history : List Entry) (earlier : ℕ) (tallies : List TallyState) : Type 0 where
  pub stands : All (λ (p : TallyState). All (StandsIn history) p.entries) tallies
  pub later : All (λ (p : TallyState). All (IsLater earlier) p.entries) tallies
  pub once : (at : ℕ) → earlier ≤ at → at < length history → times_told_in at tallies ≡ 1
  pub rises : All (λ (p : TallyState). IsRising p.entries) tallies

-- the entry at this place of a tally does not stand in the history
abbrev pub HasForeign : List Entry → ℕ → List Told → Type 0
HasForeign history index entries =
    (t : Told) × (slice_get entries index ≡ Some t) × (StandsIn history t → ⊥)

-- the entry at this place of a tally stands in the history, and was there before
abbrev pub HasEarlier : List Entry → ℕ → ℕ → List Told → Type 0
HasEarlier history earlier index entries =
    (t : Told) × (slice_get entries index ≡ Some t) × StandsIn history t × (t.position < earlier)

-- the entry at this place of a tally has no greater position than the one before it
abbrev pub HasFall : ℕ → List Told → Type 0
HasFall index entries =
    (0 < index)
    × ((t u : Told) × (slice_get entries (index - 1) ≡ Some t) × (slice_get entries index ≡ Some u)
    × (u.position ≤ t.position))

-- what each fault says of the history and the tallies: its thing stands at the place that it names
abbrev pub IsSettleFault : SettleFault → List Entry → ℕ → List TallyState → Type 0
IsSettleFault (CountDiffers calls told) history earlier tallies =
    (calls + earlier ≡ length history) × (told ≡ entry_count tallies) × (calls ≡ told → ⊥)
IsSettleFault (Foreign session index) history earlier tallies =
    (p : TallyState) × (slice_get tallies session ≡ Some p) × HasForeign history index p.entries
IsSettleFault (Earlier session index) history earlier tallies =
    (p : TallyState) × (slice_get tallies session ≡ Some p)
    × HasEarlier history earlier index p.entries
IsSettleFault (Twice at) history earlier tallies =
    (earlier ≤ at) × (at < length history) × (1 < times_told_in at tallies)
IsSettleFault (OutOfOrder session index) history earlier tallies =
    (p : TallyState) × (slice_get tallies session ≡ Some p) × HasFall index p.entries
IsSettleFault Memory history earlier tallies = Unit {0}
