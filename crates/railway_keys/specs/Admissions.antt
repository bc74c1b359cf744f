-- What comes of the first line of a connection.
use Rattle.std.specs.Prelude.{ℕ, nat_le, Bool, true, false, List, [], length, Option, Some, None, codes, if◌then◌else◌}
use Rattle.railway_keys.specs.Hellos.{railway_by_key}
use Rattle.railway_keys.specs.FirstLines.{first_line}
use Rattle.taf_codes.specs.declared.code.Railway.{Railway}
use Rattle.railway_keys.specs.declared.admission.Admission.{Admission}
use Rattle.railway_keys.specs.declared.admission.Admission.TheVariants.{Admitted, WrongKey, NoMemory, NoLine, NotAsked}
use Rattle.railway_keys.specs.declared.table.RailwayKey.{RailwayKey}

-- of a line that begins a session of this railway, or of none
abbrev pub admission_at : Option Railway → Admission
admission_at (Some railway) = Admitted railway
admission_at None = WrongKey

-- of a line, or of so many bytes without one: 65,537 have no line that is short enough
abbrev pub admission_by : List RailwayKey → Option (List ℕ) → ℕ → Admission
admission_by keys (Some line) count = admission_at (railway_by_key keys line)
admission_by keys None count = if nat_le 65537 count then WrongKey else NoLine

-- of a connection of which these are the first bytes
abbrev pub admission_of : List RailwayKey → List ℕ → Admission
admission_of keys bytes = admission_by keys (first_line bytes) (length bytes)

-- the session is given what the client sends
abbrev pub is_admitted : Admission → Bool
is_admitted (Admitted railway) = true
is_admitted WrongKey = false
is_admitted NoMemory = false
is_admitted NoLine = false
is_admitted NotAsked = true

-- what the client is told
abbrev pub text_for : Admission → List ℕ
text_for (Admitted railway) = []
text_for WrongKey = codes "{\"fault\":\"wrong_key\"}\n"
text_for NoMemory = codes "{\"fault\":\"no_memory\"}\n"
text_for NoLine = []
text_for NotAsked = []
