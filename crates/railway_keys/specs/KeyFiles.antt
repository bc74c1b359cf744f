-- What a keys file says.
use Rattle.std.specs.Prelude.{◌≡◌, ◌⊎◌, ℕ, ◌+◌, ◌==◌, nat_lt, nat_le, Bool, true, List, [], ◌∷◌, ◌++◌, length, Option, Some, None, Result, Ok, Err, if◌then◌else◌}
use Rattle.std.specs.List.{after_first, before_first, position_or_len, slice_split}
use Rattle.taf_codes.specs.Codes.{railway_of}
use Rattle.taf_codes.specs.declared.fault.BadCode.{BadCode}
use Rattle.railway_keys.specs.Keys.{digest_of, has_railway}
use Rattle.railway_keys.specs.declared.fault.KeyLineFault.{KeyLineFault}
use Rattle.railway_keys.specs.declared.fault.KeyLineFault.TheVariants.{NoForm, NoRailway, NoDigest, Twice, TooMany}
use Rattle.railway_keys.specs.declared.fault.KeyFileFault.{KeyFileFault}
use Rattle.railway_keys.specs.declared.fault.KeyFileFault.TheVariants.{Line, Memory}
use Rattle.railway_keys.specs.declared.table.RailwayKey.{RailwayKey}

-- the lines of a text; an empty one stands behind its last newline
abbrev pub lines_of : List ℕ → List (List ℕ)
lines_of text = slice_split (λ b. b == 10) text

-- it is empty, or begins with # (35)
abbrev pub is_passed_over : List ℕ → Bool
is_passed_over [] = true
is_passed_over (b ∷ line) = b == 35

-- there is a blank in it
abbrev pub has_blank : List ℕ → Bool
has_blank line = nat_lt (position_or_len (λ b. b == 32) line) (length line)

-- a railway with its digest
abbrev pub entry_of : Result (List ℕ) BadCode → Option (List ℕ) → Result RailwayKey KeyLineFault
entry_of (Err bad) digest = Err NoRailway
entry_of (Ok railway) None = Err NoDigest
entry_of (Ok railway) (Some digest) = Ok (record { railway = railway; digest = digest })

-- what a line says: the code of a railway, a blank and a digest
unfoldable pub entry_on : List ℕ → Result RailwayKey KeyLineFault
entry_on line =
    if has_blank line
    then entry_of (railway_of (before_first (λ b. b == 32) line)) (digest_of (after_first (λ b. b == 32) line))
    else Err NoForm

-- keys with one more, whose railway has none of them, or why it is none
abbrev pub with_entry : List RailwayKey → RailwayKey → Result (List RailwayKey) KeyLineFault
with_entry keys entry =
    if has_railway keys entry.railway then Err Twice
    else if nat_le 1000 (length keys) then Err TooMany
    else Ok (keys ++ entry ∷ [])

abbrev pub with_entry_read : List RailwayKey → Result RailwayKey KeyLineFault → Result (List RailwayKey) KeyLineFault
with_entry_read keys (Ok entry) = with_entry keys entry
with_entry_read keys (Err fault) = Err fault

-- keys with that of one more line
abbrev pub with_line : List RailwayKey → List ℕ → Result (List RailwayKey) KeyLineFault
with_line keys line = if is_passed_over line then Ok keys else with_entry_read keys (entry_on line)

-- what follows the line of this number
abbrev pub after_line : ℕ → Result (List RailwayKey) KeyLineFault → (List RailwayKey → Result (List RailwayKey) KeyFileFault) → Result (List RailwayKey) KeyFileFault
after_line number (Ok keys) next = next keys
after_line number (Err fault) next = Err (Line number fault)

-- keys with those of more lines, the first of which has this number, or the first fault of these
unfoldable pub table_of : List RailwayKey → ℕ → List (List ℕ) → Result (List RailwayKey) KeyFileFault
table_of keys number [] = Ok keys
table_of keys number (line ∷ lines) =
    after_line number (with_line keys line) (λ more. table_of more (number + 1) lines)

-- what taking the line of this number came to is what it makes of the keys, unless memory was refused
abbrev pub Takes : ℕ → Result (List RailwayKey) KeyLineFault → Result (Unit {0}) KeyFileFault → List RailwayKey → Type 0
Takes number made (Ok done) new = made ≡ Ok new
Takes number made (Err (Line at fault)) new = (at ≡ number) × (made ≡ Err fault)
Takes number made (Err Memory) new = Unit {0}

-- a fault that was reported is the first one, unless memory was refused
abbrev pub IsFaultOf : Result (List RailwayKey) KeyFileFault → KeyFileFault → Type 0
IsFaultOf made fault = (made ≡ Err fault) ⊎ (fault ≡ Memory)
