-- The numbers of the hub and of its server, as Prometheus reads them.
use Rattle.std.specs.Prelude.{ℕ, List, [], ◌∷◌, ◌++◌, codes, decimal, bytes_eq, length, filter, flat_map, Option, Some, None}
use Rattle.taf_messages.specs.Details.{why_name}
use Rattle.taf_messages.specs.declared.reply.Why.{Why}
use Rattle.taf_messages.specs.declared.reply.Why.TheVariants as whys
use Rattle.hub_shared.specs.declared.looks.HubCounts.{HubCounts}
use Rattle.board_answers.specs.declared.gauges.ServerNumbers.{ServerNumbers}

-- of which kind a number is
unfoldable pub kind_line : List ℕ → List ℕ → List ℕ
kind_line name kind = codes "# TYPE " ++ name ++ codes " " ++ kind ++ codes "\n"

unfoldable pub number_line : List ℕ → ℕ → List ℕ
number_line name number = name ++ codes " " ++ decimal number ++ codes "\n"

-- a number with its name and its kind
unfoldable pub metric : List ℕ → List ℕ → ℕ → List ℕ
metric name kind number = kind_line name kind ++ number_line name number

-- a number that may be known
unfoldable pub metric_if_known : List ℕ → Option ℕ → List ℕ
metric_if_known name (Some number) = metric name (codes "gauge") number
metric_if_known name None = []

-- how many calls the hub has taken, and how many wagons were planned
unfoldable pub hub_metrics : HubCounts → List ℕ
hub_metrics c = metric (codes "taf_hub_calls_total") (codes "counter") c.calls ++ metric (codes "taf_hub_wagons") (codes "gauge") c.wagons

-- each reason for which a call is refused
unfoldable pub every_why : List Why
every_why =
    whys.UnknownWagon ∷ whys.UnknownConsignment ∷ whys.UnknownOffer ∷ whys.UnknownUnit ∷ whys.ConsignmentTaken ∷ whys.WagonBusy
    ∷ whys.UnitBusy ∷ whys.WrongStage ∷ whys.NotYours ∷ whys.WrongPlace ∷ whys.WrongNext ∷ whys.TooManyLegs ∷ whys.NoSuchLeg
    ∷ whys.LegStarted ∷ whys.NotLastLeg ∷ whys.OfferClosed ∷ whys.ListsDiffer ∷ whys.BeyondCalendar ∷ whys.NumberReused ∷ whys.AckAhead ∷ []

-- how many calls were refused for this reason
abbrev pub refused_for : List Why → Why → ℕ
refused_for refused why = length (filter (λ other. bytes_eq (why_name other) (why_name why)) refused)

unfoldable pub refusal_line : List Why → Why → List ℕ
refusal_line refused why =
    codes "taf_hub_refusals_total{why=\"" ++ why_name why ++ codes "\"} " ++ decimal (refused_for refused why) ++ codes "\n"

-- a line for each reason
unfoldable pub refusal_lines : List Why → List ℕ
refusal_lines refused = flat_map (refusal_line refused) every_why

-- for each reason how many calls were refused for it
unfoldable pub refusal_metrics : List Why → List ℕ
refusal_metrics refused = kind_line (codes "taf_hub_refusals_total") (codes "counter") ++ refusal_lines refused

-- how many sessions are under way, and how many connections wait
unfoldable pub session_metrics : ServerNumbers → List ℕ
session_metrics s = metric_if_known (codes "taf_hub_sessions") s.sessions ++ metric_if_known (codes "taf_hub_connections_waiting") s.waiting

-- what is known of the server
unfoldable pub known_metrics : ServerNumbers → List ℕ
known_metrics s = session_metrics s ++ metric_if_known (codes "process_resident_memory_bytes") s.memory

-- how many microseconds a look at the hub took, and what is known of the server
unfoldable pub server_metrics : ℕ → ServerNumbers → List ℕ
server_metrics look s = metric (codes "taf_hub_look_microseconds") (codes "gauge") look ++ known_metrics s

abbrev pub metrics_of : HubCounts → List Why → ℕ → ServerNumbers → List ℕ
metrics_of counts refused look server = hub_metrics counts ++ refusal_metrics refused ++ server_metrics look server
