-- What is read of a request, and which are answered.
use Rattle.std.specs.Prelude.{String, string_bytes, ◌≡◌, ◌≢◌, ℕ, Bool, true, false, ◌||◌, List, ◌++◌, codes, bytes_eq, take, drop, if◌then◌else◌, Option, Some, None, option_map, option_and_then}
use Rattle.std.specs.List.{list_any}
use Rattle.std.specs.declared.alloc.Global.{Global}
use Rattle.http.specs.declared.request.Request.{Request}
use Rattle.http.specs.Request.{head_of}
use Rattle.http_header.specs.HeaderMap.{get}
use Rattle.http_uri.specs.Uri.{uri_path}
use Rattle.taf_codes.specs.declared.code.Railway.{Railway}
use Rattle.railway_keys.specs.Keys.{is_key_of}
use Rattle.railway_keys.specs.declared.table.RailwayKey.{RailwayKey}
use Rattle.board_paths.specs.Paths.{path_of, IsValid}
use Rattle.board_paths.specs.declared.resource.Resource.{Resource}
use Rattle.board_paths.specs.declared.resource.Resource.TheVariants.{Wagons, Legs, Wagon, WagonLegs}
use Rattle.board_answers.specs.declared.refusal.Refusal.{Refusal}
use Rattle.board_answers.specs.declared.refusal.Refusal.TheVariants.{OtherHost, OtherOrigin, OtherMethod, NoSuchPath, NoKey}

-- the board's hosts, and the keys of railways, where they have any
pub record AccessState : Type 0 where
  pub hosts : List (String Global)
  pub keys : Option (List RailwayKey)

-- the first value of a field of the request
abbrev pub value_of : Request (List ℕ) → List ℕ → Option (List ℕ)
value_of q name = option_map (λ value. value.bytes) (get (head_of q).headers name)

-- the path that is asked for
abbrev pub asked_path : Request (List ℕ) → List ℕ
asked_path q = uri_path (head_of q).uri

-- it is one of these hosts
abbrev pub is_host_of : List (String Global) → List ℕ → Bool
is_host_of hosts host = list_any (λ own. bytes_eq (string_bytes own) host) hosts

abbrev pub is_one_of : List (String Global) → Option (List ℕ) → Bool
is_one_of hosts None = false
is_one_of hosts (Some host) = is_host_of hosts host

-- the host that is asked for is one of the board's
abbrev pub is_own_host : AccessState → Request (List ℕ) → Bool
is_own_host access q = is_one_of access.hosts (value_of q (codes "host"))

-- a page of this host, by http
abbrev pub is_page_of : List ℕ → List ℕ → Bool
is_page_of origin host = bytes_eq origin (codes "http://" ++ host)

abbrev pub is_page_of_any : List (String Global) → List ℕ → Bool
is_page_of_any hosts origin = list_any (λ own. is_page_of origin (string_bytes own)) hosts

abbrev pub is_page_of_one : List (String Global) → Option (List ℕ) → Bool
is_page_of_one hosts None = true
is_page_of_one hosts (Some origin) = is_page_of_any hosts origin

-- what asks is no page, or one of the board
abbrev pub is_own_origin : AccessState → Request (List ℕ) → Bool
is_own_origin access q = is_page_of_one access.hosts (value_of q (codes "origin"))

-- the method is GET or HEAD
abbrev pub is_reading : Request (List ℕ) → Bool
is_reading q = bytes_eq (head_of q).method (codes "GET") || bytes_eq (head_of q).method (codes "HEAD")

-- what follows `Bearer ` in a value
abbrev pub key_in : List ℕ → Option (List ℕ)
key_in value = if bytes_eq (take 7 value) (codes "Bearer ") then Some (drop 7 value) else None

-- the key that the request has
abbrev pub key_of : Request (List ℕ) → Option (List ℕ)
key_of q = option_and_then key_in (value_of q (codes "authorization"))

-- the railway to which wagons are shown by a resource
abbrev pub owner_of : Resource → Option Railway
owner_of (Wagons by) = Some by
owner_of (Legs by) = Some by
owner_of (Wagon by wagon) = Some by
owner_of (WagonLegs by wagon) = Some by
owner_of _ = None

-- a key that is the railway's
abbrev pub is_key_for : List RailwayKey → Railway → Option (List ℕ) → Bool
is_key_for keys by None = false
is_key_for keys by (Some key) = is_key_of keys by key

abbrev pub has_key : Option (List RailwayKey) → Option Railway → Option (List ℕ) → Bool
has_key (Some keys) (Some by) key = is_key_for keys by key
has_key keys by key = true

-- where railways have keys and the resource shows wagons to one, the request has its key
abbrev pub is_let_in : AccessState → Resource → Request (List ℕ) → Bool
is_let_in access resource q = has_key access.keys (owner_of resource) (key_of q)

-- the request is answered by showing this resource
pub record IsAdmitted (access : AccessState) (q : Request (List ℕ)) (resource : Resource) : Type 0 where
  pub valid : IsValid resource
  pub path : path_of resource ≡ asked_path q
  pub host : is_own_host access q ≡ true
  pub origin : is_own_origin access q ≡ true
  pub method : is_reading q ≡ true
  pub key : is_let_in access resource q ≡ true

-- the request is refused for this reason
abbrev pub IsRefused : AccessState → Request (List ℕ) → Refusal → Type 0
IsRefused access q OtherHost = is_own_host access q ≡ false
IsRefused access q OtherOrigin = is_own_origin access q ≡ false
IsRefused access q OtherMethod = is_reading q ≡ false
IsRefused access q NoSuchPath = (r : Resource) → IsValid r → path_of r ≢ asked_path q
IsRefused access q NoKey = (r : Resource) × IsValid r × (path_of r ≡ asked_path q) × (is_let_in access r q ≡ false)

abbrev pub status_of_refusal : Refusal → ℕ
status_of_refusal OtherHost = 421
status_of_refusal OtherOrigin = 403
status_of_refusal OtherMethod = 405
status_of_refusal NoSuchPath = 404
status_of_refusal NoKey = 401
