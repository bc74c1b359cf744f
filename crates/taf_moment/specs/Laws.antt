-- How moments and texts go together.
use Rattle.std.specs.Prelude.{◌≡◌, ◌≤◌, ℕ, List, Ok}
use Rattle.taf_moment.specs.Calendar.{last_minute, moment_of, moment_text}

-- the text of a moment is read as that moment
abbrev pub TextIsRead : Type 0
TextIsRead = (minutes : ℕ) → minutes ≤ last_minute → moment_of (moment_text minutes) ≡ Ok minutes

-- a text that is read as a moment is the text of that moment, so no two texts denote the same minute
abbrev pub ReadingIsExact : Type 0
ReadingIsExact = (text : List ℕ) (minutes : ℕ) → moment_of text ≡ Ok minutes → (minutes ≤ last_minute) × (text ≡ moment_text minutes)
