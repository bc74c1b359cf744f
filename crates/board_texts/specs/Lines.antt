-- What the board shows of the wagons that a railway may see.
use Rattle.std.specs.Prelude.{◌≡◌, ℕ, zero, suc, ◌*◌, ◌≤◌, List, [], ◌∷◌, ◌++◌, map, Some, None}
use Rattle.serde_json.specs.Written.{compact_text}
use Rattle.taf_codes.specs.declared.code.Railway.{Railway}
use Rattle.taf_messages.specs.declared.record.Record.{Record}
use Rattle.taf_messages.specs.declared.reply.Why.{Why}
use Rattle.call_lines.specs.Lines.{reply_text}
use Rattle.reply_writer.specs.LegShapes.{WagonLegs, wagon_legs_data}
use Rattle.hub_answers.specs.declared.shown.ShownWagon.{ShownWagon}
use Rattle.hub_shared.specs.declared.looks.WagonLook.{WagonLook}
use Rattle.hub_shared.specs.Looks.{AreRefusals, IsFleetLook}

-- a text, and a newline behind it
abbrev pub as_line : List ℕ → List ℕ
as_line text = text ++ 10 ∷ []

-- the record of a wagon
abbrev pub wimo_of : ShownWagon → Record
wimo_of w = w.wimo

-- its legs
abbrev pub legs_of : ShownWagon → WagonLegs
legs_of w = record { wagon = w.wimo.wagon; legs = w.legs }

-- the wagon without the events of its record, as it stands in a list
abbrev pub summary : ShownWagon → ShownWagon
summary w = record w { wimo = record w.wimo { events = [] } }

-- what was seen in so many looks, one part after another
abbrev pub AreSeen : {X : Type 0} → (ℕ → List X → Type 0) → ℕ → List X → Type 0
AreSeen look zero seen = seen ≡ []
AreSeen {X} look (suc k) seen =
    (before : List X) × AreSeen look k before × (part : List X) × look k part × (seen ≡ before ++ part)

-- what was seen in the look at part k of the fleet, of 256 wagons
abbrev pub IsFleetPart : Railway → ℕ → List ShownWagon → Type 0
IsFleetPart by k part = (shown : List ShownWagon) × IsFleetLook by (k * 256) 256 shown × (part ≡ map summary shown)

-- what was seen of so many wagons at least
pub record IsFleetSeen (by : Railway) (wagons : ℕ) (seen : List ShownWagon) : Type 0 where
  pub looks : ℕ
  pub all : wagons ≤ looks * 256
  pub are : AreSeen (IsFleetPart by) looks seen

-- what was seen in the look at part k of the history, of 8,192 calls
abbrev pub IsRefusalsPart : ℕ → List Why → Type 0
IsRefusalsPart k part = AreRefusals (k * 8192) 8192 part

-- why calls were refused, of so many calls at least
pub record AreRefusalsSeen (calls : ℕ) (whys : List Why) : Type 0 where
  pub looks : ℕ
  pub all : calls ≤ looks * 8192
  pub are : AreSeen IsRefusalsPart looks whys

-- the legs of a wagon that is shown, or what the railway is told instead
abbrev pub legs_told : WagonLook → List ℕ
legs_told look = elim look.shown [
  | Some shown ↦ compact_text (wagon_legs_data (legs_of shown))
  | None ↦ reply_text look.reply
]
