-- Keys of railways, and their digests.
use Rattle.std.specs.Prelude.{ℕ, ◌&&◌, Bool, List, Option, bytes_eq}
use Rattle.std.specs.List.{list_any}
use Rattle.std.specs.Result.{result_ok}
use Rattle.sha2.specs.Sha256.{sha256}
use Rattle.hex.specs.Hex.{decode_sized}
use Rattle.taf_codes.specs.declared.code.Railway.{Railway}
use Rattle.railway_keys.specs.declared.table.RailwayKey.{RailwayKey}

-- the 32 bytes that 64 hexadecimal digits are
abbrev pub digest_of : List ℕ → Option (List ℕ)
digest_of digits = result_ok (decode_sized digits 32)

-- there is a key of this railway
abbrev pub has_railway : List RailwayKey → Railway → Bool
has_railway keys railway = list_any (λ known. bytes_eq known.railway railway) keys

-- the digest is the one of this railway
abbrev pub has_digest : List RailwayKey → Railway → List ℕ → Bool
has_digest keys railway digest =
    list_any (λ known. bytes_eq known.railway railway && bytes_eq known.digest digest) keys

-- this is the key of the railway: its SHA-256 is the railway's digest
abbrev pub is_key_of : List RailwayKey → Railway → List ℕ → Bool
is_key_of keys railway key = has_digest keys railway (sha256 key)
