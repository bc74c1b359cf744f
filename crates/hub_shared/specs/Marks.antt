-- The marks of the positions that were told so far. Entries that were there before have none: `earlier` is their number.
use Rattle.std.specs.Prelude.{◌≡◌, ℕ, ◌+◌, ◌-◌, ◌<◌, ◌≤◌, if◌then◌else◌, Bool, false, List, length, slice_index_or}
use Rattle.std.specs.List.{All, count_by}
use Rattle.hub_model.specs.declared.entry.Entry.{Entry}
use Rattle.tallies.specs.declared.tally.Told.{Told}
use Rattle.hub_shared.specs.declared.settling.SettleFault.{SettleFault}
use Rattle.hub_shared.specs.declared.settling.SettleFault.TheVariants.{CountDiffers, Foreign, Earlier, Twice, OutOfOrder, Memory}
use Rattle.tallies.specs.Tallies.{TallyState}
use Rattle.hub_shared.specs.Settling.{StandsIn, IsLater, times_told, times_told_in, entry_count, IsRising, HasForeign, HasEarlier, HasFall}

-- 1 at a position that is marked, else 0
abbrev pub mark : List Bool → ℕ → ℕ → ℕ
mark seen earlier at = if slice_index_or seen (at - earlier) false then 1 else 0

-- how many positions are marked
abbrev pub mark_count : List Bool → ℕ
mark_count seen = count_by (λ b. b) seen

-- one tally is right by itself, and its positions are marked, none of which was
pub record MarksTally (history : List Entry) (earlier : ℕ) (before after : List Bool) (entries : List Told) : Type 0 where
  pub stands : All (StandsIn history) entries
  pub later : All (IsLater earlier) entries
  pub rises : IsRising entries
  pub marked : (at : ℕ) → earlier ≤ at → at < length history
      → mark after earlier at ≡ mark before earlier at + times_told at entries
  pub counted : mark_count after ≡ mark_count before + length entries

-- the tallies are right by themselves, and exactly their positions are marked
pub record MarksTallies (history : List Entry) (earlier : ℕ) (seen : List Bool) (tallies : List TallyState) : Type 0 where
  pub stands : All (λ (p : TallyState). All (StandsIn history) p.entries) tallies
  pub later : All (λ (p : TallyState). All (IsLater earlier) p.entries) tallies
  pub rises : All (λ (p : TallyState). IsRising p.entries) tallies
  pub marked : (at : ℕ) → earlier ≤ at → at < length history
      → mark seen earlier at ≡ times_told_in at tallies
  pub counted : mark_count seen ≡ entry_count tallies

-- what a fault says of one tally, beside the positions that the tallies before it marked
abbrev pub IsTallyFault : SettleFault → ℕ → List Entry → ℕ → List Bool → List Told → Type 0
IsTallyFault (CountDiffers calls told) session history earlier seen entries = ⊥
IsTallyFault (Foreign at index) session history earlier seen entries =
    (at ≡ session) × HasForeign history index entries
IsTallyFault (Earlier at index) session history earlier seen entries =
    (at ≡ session) × HasEarlier history earlier index entries
IsTallyFault (Twice at) session history earlier seen entries =
    (earlier ≤ at) × (at < length history) × (1 < mark seen earlier at + times_told at entries)
IsTallyFault (OutOfOrder at index) session history earlier seen entries =
    (at ≡ session) × HasFall index entries
IsTallyFault Memory session history earlier seen entries = ⊥
