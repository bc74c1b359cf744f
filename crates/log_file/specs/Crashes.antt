-- What a file has, and what a crash may leave of it, by what was done with it.
use Rattle.std.specs.Prelude.{◌≡◌, ◌⊎◌, ℕ, ◌+◌, ◌≤◌, ◌==◌, Bool, false, List, [], ◌∷◌, ◌++◌, length, take}
use Rattle.log_file.specs.declared.content.Content.{Content}
use Rattle.log_file.specs.declared.content.Content.TheBlock.{Nothing, Piece'}
use Rattle.log_file.specs.declared.past.Past.{Past}
use Rattle.log_file.specs.declared.past.Past.TheBlock.{Opened, Appended', Cut', Synced', Broken'}

-- ---- what one call may do to a file that a crash cuts short

-- a front of the bytes, of which any may read as zero: what was not written yet reads so
abbrev pub IsTornFront : List ℕ → List ℕ → Type 0
IsTornFront [] bytes = Unit {0}
IsTornFront (t ∷ torn) [] = ⊥
IsTornFront (t ∷ torn) (b ∷ bytes) = ((t ≡ b) ⊎ (t ≡ 0)) × IsTornFront torn bytes

-- the file, and behind it such a front
abbrev pub IsPartlyAppended : List ℕ → List ℕ → List ℕ → Type 0
IsPartlyAppended bytes old new = (torn : List ℕ) × IsTornFront torn bytes × (new ≡ old ++ torn)

-- the file up to some length, this one or a greater one
abbrev pub IsPartlyCut : ℕ → List ℕ → List ℕ → Type 0
IsPartlyCut len old new = (to : ℕ) × (len ≤ to) × (new ≡ take to old)

-- ---- files

-- the pieces that were read, one behind another
abbrev pub bytes_of : Content → List ℕ
bytes_of Nothing = []
bytes_of (Piece' marker before piece) = bytes_of before ++ piece.value.items

-- the newest piece has no byte: a read that asked for some gave none
abbrev pub has_ended : Content → Bool
has_ended Nothing = false
has_ended (Piece' marker before piece) = length piece.value.items == 0

-- what a read returns, unless a call failed
abbrev pub content_of : Past → List ℕ
content_of (Opened content) = bytes_of content.value
content_of (Appended' marker before bytes) = content_of before ++ bytes.value.items
content_of (Cut' marker before len) = take len.value (content_of before)
content_of (Synced' marker before) = content_of before
content_of (Broken' marker before) = content_of before

-- what a crash during the newest call, or since, may leave, where the calls before it left only what a read returns
abbrev pub MayLeave : Past → List ℕ → Type 0
MayLeave (Opened content) c = c ≡ bytes_of content.value
MayLeave (Appended' marker before bytes) c = IsPartlyAppended bytes.value.items (content_of before) c
MayLeave (Cut' marker before len) c = IsPartlyCut len.value (content_of before) c
MayLeave (Synced' marker before) c = c ≡ content_of before
MayLeave (Broken' marker before) c = MayLeave before c

-- a crash leaves what a read returns
abbrev pub IsSynced : Past → Type 0
IsSynced (Opened content) = Unit {0}
IsSynced (Synced' marker before) = Unit {0}
IsSynced _ = ⊥

-- no call failed, so a further one may be made
abbrev pub IsUsable : Past → Type 0
IsUsable (Broken' marker before) = ⊥
IsUsable _ = Unit {0}

-- how many calls were made: a moment is such a number
abbrev pub moment : Past → ℕ
moment (Opened content) = 0
moment (Appended' marker before bytes) = moment before + 1
moment (Cut' marker before len) = moment before + 1
moment (Synced' marker before) = moment before + 1
moment (Broken' marker before) = moment before + 1

-- what a crash at some moment from this one on may have left, during a call or between two
abbrev pub MayLeaveSince : Past → ℕ → List ℕ → Type 0
MayLeaveSince (Opened content) since c = c ≡ bytes_of content.value
MayLeaveSince (Appended' marker before bytes) since c = IsPartlyAppended bytes.value.items (content_of before) c ⊎ ((since ≤ moment before) × MayLeaveSince before since c)
MayLeaveSince (Cut' marker before len) since c = IsPartlyCut len.value (content_of before) c ⊎ ((since ≤ moment before) × MayLeaveSince before since c)
MayLeaveSince (Synced' marker before) since c = (c ≡ content_of before) ⊎ ((since ≤ moment before) × MayLeaveSince before since c)
MayLeaveSince (Broken' marker before) since c = MayLeave before c ⊎ ((since ≤ moment before) × MayLeaveSince before since c)

-- A crash at any moment since the old one leaves what has P.
pub record LeavesOnly (old new : Past) (P : List ℕ → Type 0) : Type 0 where
  pub later : moment old ≤ moment new
  pub each : (c : List ℕ) → MayLeaveSince new (moment old) c → P c
  -- for a run that began earlier
  pub before : (since : ℕ) (c : List ℕ) → since ≤ moment old → MayLeaveSince new since c → MayLeaveSince old since c ⊎ P c
