-- The hello that a session begins with, and the key in it.
use Rattle.std.specs.Prelude.{ℕ, List, Option, Some, None, codes, option_and_then, if◌then◌else◌}
use Rattle.serde_json.specs.Data.{Data}
use Rattle.serde_json.specs.Find.{get, as_str}
use Rattle.taf_codes.specs.declared.code.Railway.{Railway}
use Rattle.session_lines.specs.declared.meaning.Meaning.{Meaning}
use Rattle.session_lines.specs.declared.meaning.Meaning.TheVariants.{Blank, Hello, Wrong, Calls}
use Rattle.session_lines.specs.Meanings.{json_of_line, meaning}
use Rattle.railway_keys.specs.Keys.{is_key_of}
use Rattle.railway_keys.specs.declared.table.RailwayKey.{RailwayKey}

-- the text of a record's field `key`; of several the last stands, as for each field
abbrev pub key_in : Data → Option (List ℕ)
key_in d = option_and_then as_str (get (codes "key") d)

-- the key on a line
abbrev pub key_on : List ℕ → Option (List ℕ)
key_on line = option_and_then key_in (json_of_line line)

-- the railway, where this is its key
abbrev pub railway_if : List RailwayKey → Railway → Option (List ℕ) → Option Railway
railway_if keys railway None = None
railway_if keys railway (Some key) = if is_key_of keys railway key then Some railway else None

-- the railway whose hello a line is to a session, where this is its key
abbrev pub admitted : List RailwayKey → Meaning → Option (List ℕ) → Option Railway
admitted keys (Hello railway) key = railway_if keys railway key
admitted keys Blank key = None
admitted keys (Wrong fault) key = None
admitted keys (Calls call) key = None

-- the railway that a session without one takes from a line, where the key on this line is the railway's
unfoldable pub railway_by_key : List RailwayKey → List ℕ → Option Railway
railway_by_key keys line = admitted keys (meaning None line) (key_on line)
