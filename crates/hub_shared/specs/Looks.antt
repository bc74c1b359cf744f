-- What is seen of a hub without a call: after some history that one thread could have made.
use Rattle.std.specs.Prelude.{◌≡◌, ℕ, List, length, take, drop, filter_map, Option, Some, None}
use Rattle.taf_codes.specs.declared.code.Railway.{Railway}
use Rattle.taf_messages.specs.declared.call.Call.TheVariants.{Ask}
use Rattle.taf_messages.specs.declared.reply.Reply.{Reply}
use Rattle.taf_messages.specs.declared.reply.Reply.TheVariants.{Refused}
use Rattle.taf_messages.specs.declared.reply.Why.{Why}
use Rattle.hub_model.specs.declared.entry.Entry.{Entry}
use Rattle.hub_model.specs.Histories.{answer, state_of}
use Rattle.hub_answers.specs.Shown.{shown_of, shown_to}
use Rattle.hub_answers.specs.declared.shown.ShownWagon.{ShownWagon}
use Rattle.hub_shared.specs.Seats.{IsRun}
use Rattle.hub_shared.specs.declared.looks.HubCounts.{HubCounts}
use Rattle.hub_shared.specs.declared.looks.WagonLook.{WagonLook}

-- how many calls the history has, and how many wagons were planned
abbrev pub AreCountsAt : List Entry → HubCounts → Type 0
AreCountsAt history c = (c.calls ≡ length history) × (c.wagons ≡ length (state_of history).fleet)

-- such numbers after some history
abbrev pub AreCounts : HubCounts → Type 0
AreCounts c = (history : List Entry) × IsRun history × AreCountsAt history c

-- what the railway is shown of a part of the planned wagons
abbrev pub IsFleetLookAt : List Entry → Railway → ℕ → ℕ → List ShownWagon → Type 0
IsFleetLookAt history by from most seen =
    seen ≡ shown_to (state_of history) by (take most (drop from (state_of history).fleet))

-- such a look after some history
abbrev pub IsFleetLook : Railway → ℕ → ℕ → List ShownWagon → Type 0
IsFleetLook by from most seen = (history : List Entry) × IsRun history × IsFleetLookAt history by from most seen

-- the reply that the railway's question for the wagon would get, and the wagon as it is shown it
pub record IsWagonLookAt (history : List Entry) (by : Railway) (wagon : ℕ) (l : WagonLook) : Type 0 where
  pub reply : l.reply ≡ answer history (Ask by wagon)
  pub shown : l.shown ≡ shown_of (state_of history) by wagon

-- such a look after some history
abbrev pub IsWagonLook : Railway → ℕ → WagonLook → Type 0
IsWagonLook by wagon l = (history : List Entry) × IsRun history × IsWagonLookAt history by wagon l

-- why a call is refused by this reply
abbrev pub why_of : Reply → Option Why
why_of (Refused refusal) = Some refusal.why
why_of reply = None

-- why the calls of a part of the history were refused, those that were
abbrev pub AreRefusalsAt : List Entry → ℕ → ℕ → List Why → Type 0
AreRefusalsAt history from most whys = whys ≡ filter_map (λ (e : Entry). why_of e.reply) (take most (drop from history))

-- such reasons after some history
abbrev pub AreRefusals : ℕ → ℕ → List Why → Type 0
AreRefusals from most whys = (history : List Entry) × IsRun history × AreRefusalsAt history from most whys
