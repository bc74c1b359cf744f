-- What the board answers.
use Rattle.std.specs.Prelude.{◌≡◌, ◌⊎◌, ℕ, List, [], ◌∷◌, ◌++◌, codes, decimal, map, Bool, is_some, Some, if◌then◌else◌}
use Rattle.serde_json.specs.Written.{compact_text}
use Rattle.http.specs.declared.request.Request.{Request}
use Rattle.http1.specs.Fields.{Header}
use Rattle.http_server.specs.declared.response.Response.{Response}
use Rattle.http_server.specs.Response.{IsResponse}
use Rattle.taf_codes.specs.declared.code.Railway.{Railway}
use Rattle.taf_messages.specs.declared.reply.Reply.TheVariants.{Many}
use Rattle.taf_messages.specs.declared.reply.Why.{Why}
use Rattle.call_lines.specs.Lines.{reply_text}
use Rattle.reply_writer.specs.LegShapes.{fleet_legs_data}
use Rattle.hub_answers.specs.declared.shown.ShownWagon.{ShownWagon}
use Rattle.hub_shared.specs.declared.looks.HubCounts.{HubCounts}
use Rattle.hub_shared.specs.declared.looks.WagonLook.{WagonLook}
use Rattle.hub_shared.specs.Looks.{AreCounts, IsWagonLook}
use Rattle.board_texts.specs.Lines.{AreRefusalsSeen, IsFleetSeen, as_line, wimo_of, legs_of, legs_told}
use Rattle.board_page.specs.declared.page.TheConstants.{HEAD, TAIL, POLICY}
use Rattle.board_paths.specs.declared.resource.Resource.{Resource}
use Rattle.board_paths.specs.declared.resource.Resource.TheVariants.{Entry, Page, Wagons, Legs, Wagon, WagonLegs, Health, Metrics}
use Rattle.board_answers.specs.declared.board.ListOf.{ListOf}
use Rattle.board_answers.specs.declared.gauges.ServerNumbers.{ServerNumbers}
use Rattle.board_answers.specs.declared.board.ListOf.TheVariants as lists
use Rattle.board_answers.specs.declared.refusal.Refusal.{Refusal}
use Rattle.board_answers.specs.declared.refusal.Refusal.TheVariants.{OtherMethod, NoKey}
use Rattle.board_answers.specs.Metrics.{metrics_of}
use Rattle.board_answers.specs.Requests.{AccessState, IsAdmitted, IsRefused, value_of, status_of_refusal}

-- ---- fields

-- how long it may be kept, and that no page of another origin reads or frames it
abbrev pub kept_fields : List ℕ → List Header
kept_fields keep =
    (codes "cache-control", keep) ∷ (codes "x-content-type-options", codes "nosniff") ∷ (codes "referrer-policy", codes "no-referrer")
    ∷ (codes "x-frame-options", codes "DENY") ∷ (codes "cross-origin-resource-policy", codes "same-origin") ∷ []

-- and what it is
abbrev pub typed_fields : List ℕ → List ℕ → List Header
typed_fields keep kind = kept_fields keep ++ (codes "content-type", kind) ∷ []

abbrev pub data_fields : List Header
data_fields = typed_fields (codes "no-store") (codes "application/json")

abbrev pub page_fields : List Header
page_fields = typed_fields (codes "no-cache") (codes "text/html; charset=utf-8") ++ (codes "content-security-policy", POLICY.now) ∷ []

-- ---- lists

-- the tag of a list: of this run, after so many calls
abbrev pub tag_of : ℕ → ℕ → List ℕ
tag_of run calls = codes "\"" ++ decimal run ++ codes "-" ++ decimal calls ++ codes "\""

abbrev pub tagged : List Header → ℕ → ℕ → List Header
tagged fields run calls = fields ++ (codes "etag", tag_of run calls) ∷ []

-- the text of a list
abbrev pub text_of : ListOf → List ShownWagon → List ℕ
text_of lists.Records seen = reply_text (Many (map wimo_of seen))
text_of lists.Legs seen = compact_text (fleet_legs_data (map legs_of seen))

-- The list, as it is since so many calls; or that it is the one of the tag that the request has.
abbrev pub IsList : ℕ → Request (List ℕ) → Railway → (List ShownWagon → List ℕ) → Response → Type 0
IsList run q by text r =
    (now : HubCounts) × AreCounts now
    × (((value_of q (codes "if-none-match") ≡ Some (tag_of run now.calls)) × IsResponse 304 (tagged (kept_fields (codes "no-store")) run now.calls) [] r)
    ⊎ ((seen : List ShownWagon) × IsFleetSeen by now.wagons seen × IsResponse 200 (tagged data_fields run now.calls) (as_line (text seen)) r))

-- ---- resources

abbrev pub status_for : Bool → ℕ
status_for is_shown = if is_shown then 200 else 404

-- what is shown of one wagon
abbrev pub IsOfWagon : Railway → ℕ → (WagonLook → List ℕ) → Response → Type 0
IsOfWagon by wagon text r =
    (l : WagonLook) × IsWagonLook by wagon l × IsResponse (status_for (is_some l.shown)) data_fields (as_line (text l)) r

-- The numbers of the hub: of its calls, of the refusals among them, and of wagons. What its server says of itself is beside them.
abbrev pub AreMetrics : Response → Type 0
AreMetrics r =
    (c : HubCounts) × AreCounts c × (whys : List Why) × AreRefusalsSeen c.calls whys × (look : ℕ) × (server : ServerNumbers)
    × IsResponse 200 (typed_fields (codes "no-store") (codes "text/plain; version=0.0.4")) (metrics_of c whys look server) r

-- what is shown of a resource
abbrev pub Shows : ℕ → Request (List ℕ) → Resource → Response → Type 0
Shows run q Entry r = IsResponse 200 page_fields (HEAD.now ++ TAIL.now) r
Shows run q (Page by) r = IsResponse 200 page_fields (HEAD.now ++ TAIL.now) r
Shows run q (Wagons by) r = IsList run q by (text_of lists.Records) r
Shows run q (Legs by) r = IsList run q by (text_of lists.Legs) r
Shows run q (Wagon by wagon) r = IsOfWagon by wagon (λ l. reply_text l.reply) r
Shows run q (WagonLegs by wagon) r = IsOfWagon by wagon legs_told r
Shows run q Health r = IsResponse 200 (typed_fields (codes "no-store") (codes "text/plain; charset=utf-8")) (codes "ok\n") r
Shows run q Metrics r = AreMetrics r

-- ---- refusals

-- what a refusal says beside its status
abbrev pub refusal_fields : Refusal → List Header
refusal_fields OtherMethod = (codes "allow", codes "GET, HEAD") ∷ []
refusal_fields NoKey = (codes "www-authenticate", codes "Bearer") ∷ []
refusal_fields refusal = []

abbrev pub SaysRefusal : Refusal → Response → Type 0
SaysRefusal refusal r = IsResponse (status_of_refusal refusal) (kept_fields (codes "no-store") ++ refusal_fields refusal) [] r

-- the hub has ended
abbrev pub SaysEnded : Response → Type 0
SaysEnded r = IsResponse 503 (kept_fields (codes "no-store")) [] r

-- the answer to a request: a resource that was asked for, a refusal for its reason, or that the hub has ended
abbrev pub IsAnswered : AccessState → ℕ → Request (List ℕ) → Response → Type 0
IsAnswered access run q r =
    ((resource : Resource) × IsAdmitted access q resource × (Shows run q resource r ⊎ SaysEnded r))
    ⊎ ((refusal : Refusal) × IsRefused access q refusal × SaysRefusal refusal r)
