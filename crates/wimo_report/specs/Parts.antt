-- The parts of a fleet: each begins 256 wagons after the one before it.
use Rattle.std.specs.Prelude.{◌≡◌, ℕ, ◌+◌, ◌≤◌, List, [], ◌∷◌, map, take, drop}
use Rattle.hub_model.specs.HubState.{HubState}
use Rattle.hub_model.specs.Replies.{records_of}
use Rattle.wimo_report.specs.Report.{line_of}

-- the parts of so many wagons from this place on begin at these places
abbrev pub AreStarts : ℕ → ℕ → List ℕ → Type 0
AreStarts from count [] = count ≤ from
AreStarts from count (start ∷ starts) = (start ≡ from) × AreStarts (from + 256) count starts

-- these are the lines of the part that begins at this place
abbrev pub IsPart : HubState → ℕ → List (List ℕ) → Type 0
IsPart s from lines = lines ≡ map line_of (records_of s (take 256 (drop from s.fleet)))
