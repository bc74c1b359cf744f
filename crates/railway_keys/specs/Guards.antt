-- What a guard lets through to a session.
use Rattle.std.specs.Prelude.{◌≡◌, ◌⊎◌, ◌+◌, ℕ, true, List, [], ◌++◌, take, drop, Option, Some, None, ⊤, if◌then◌else◌}
use Rattle.std.specs.Io.KnownBytes.{Appends, prepend_known}
use Rattle.taf_codes.specs.declared.code.Railway.{Railway}
use Rattle.session_lines.specs.declared.meaning.Meaning.TheVariants.{Hello}
use Rattle.session_lines.specs.Meanings.{meaning}
use Rattle.railway_keys.specs.Admissions.{admission_of, is_admitted}
use Rattle.railway_keys.specs.FirstLines.{first_line}
use Rattle.railway_keys.specs.Hellos.{key_on}
use Rattle.railway_keys.specs.Keys.{is_key_of}
use Rattle.railway_keys.specs.declared.admission.Admission.{Admission}
use Rattle.railway_keys.specs.declared.admission.Admission.TheVariants.{NoMemory, NoLine}
use Rattle.railway_keys.specs.declared.guard.KeyGuard.{KeyGuard}
use Rattle.railway_keys.specs.declared.table.RailwayKey.{RailwayKey}

-- The bytes begin, but for blank lines, with a hello: a session without a railway takes this one from it, and the key in it is the
-- railway's.
pub record BeginWithKey (keys : List RailwayKey) (bytes : List ℕ) : Type 0 where
  pub line : List ℕ
  pub railway : Railway
  pub key : List ℕ
  pub first : first_line bytes ≡ Some line
  pub hello : meaning None line ≡ Hello railway
  pub with_key : key_on line ≡ Some key
  pub known : is_key_of keys railway key ≡ true

-- of a connection with these bytes a session is given nothing, or all of them where they begin with a hello and its key
abbrev pub MayBeGiven : List RailwayKey → List ℕ → List ℕ → Type 0
MayBeGiven keys bytes given = (given ≡ []) ⊎ ((given ≡ bytes) × BeginWithKey keys bytes)

-- the same of bytes that may be unknown
abbrev pub IsGuarded : List RailwayKey → Option (List ℕ) → Option (List ℕ) → Type 0
IsGuarded keys None given = ⊤
IsGuarded keys (Some bytes) None = ⊥
IsGuarded keys (Some bytes) (Some given) = MayBeGiven keys bytes given

-- what a session is given is not known, or is nothing, or begins with a hello and its key
abbrev pub IsBehindKey : List RailwayKey → Option (List ℕ) → Type 0
IsBehindKey keys None = ⊤
IsBehindKey keys (Some given) = (given ≡ []) ⊎ BeginWithKey keys given

-- where there is a table it is behind a key of it, and where there is none it may be anything
abbrev pub IsBehindKeyIf : Option (List RailwayKey) → Option (List ℕ) → Type 0
IsBehindKeyIf None given = ⊤
IsBehindKeyIf (Some keys) given = IsBehindKey keys given

-- what an admission lets through of these bytes
abbrev pub given_by : Admission → Option (List ℕ) → Option (List ℕ)
given_by admission known = if is_admitted admission then known else Some []

-- what a guard still lets through of a reader with these bytes
abbrev pub let_through : {S : Type 0} → (S → Option (List ℕ)) → KeyGuard S → Option (List ℕ)
let_through remaining guard =
    given_by guard.admission (prepend_known (drop guard.given guard.front.held.items) (remaining guard.source))

-- by the first 65,537 bytes, unless memory was refused or the reader failed
abbrev pub IsDecided : List RailwayKey → Option (List ℕ) → Admission → ℕ → ℕ → Type 0
IsDecided keys None admission old new = ⊤
IsDecided keys (Some bytes) admission old new =
    (admission ≡ admission_of keys (take 65537 bytes))
    ⊎ ((admission ≡ NoMemory) ⊎ ((admission ≡ NoLine) × (new ≡ old + 1)))

-- a writer took this text, or a front of it where a call of it failed
pub record Tells (text : List ℕ) (old new : Option (List ℕ)) (failed_before failed : ℕ) : Type 0 where
  pub front : List ℕ
  pub rest : List ℕ
  pub parts : text ≡ front ++ rest
  pub taken : Appends old new front
  pub all : failed ≡ failed_before → rest ≡ []
