-- Words of the worked histories. Minute 0 stands for 2025-03-01T00:00Z.
use Rattle.hub_model.proofs.Common.{ℕ, List, [], ◌∷◌, codes, Leg, Loaded, Trip, Call, Send, Reply, Body, MovementKind, Release, Departure, Record}
use Rattle.taf_messages.specs.declared.reply.Reply.TheVariants as reply_is
use Rattle.taf_messages.specs.declared.message.Body.TheVariants as body

abbrev pub w1 : ℕ
w1 = 218124712173

abbrev pub w2 : ℕ
w2 = 338478961232

abbrev pub w3 : ℕ
w3 = 318066552148

abbrev pub r100 : List ℕ
r100 = codes "R100"

abbrev pub r101 : List ℕ
r101 = codes "R101"

abbrev pub r102 : List ℕ
r102 = codes "R102"

abbrev pub r103 : List ℕ
r103 = codes "R103"

abbrev pub border : List ℕ
border = codes "AT00002"

abbrev pub send : List ℕ → ℕ → Body → Call
send by number says = Send (record { by = by; no = number; body = says })

abbrev pub moved : ℕ → ℕ → MovementKind → Body
moved w at what = body.Movement (record { wagon = w; at = at; what = what })

abbrev pub leg : List ℕ → List ℕ → List ℕ → ℕ → Leg
leg ru origin target minutes = record { ru = ru; origin = origin; target = target; minutes = minutes }

-- two wagons over two legs
abbrev pub trip : Trip
trip = record {
  lead = r100;
  consignment = codes "C-1";
  load = Loaded;
  commit = 930;
  wagons = w1 ∷ w2 ∷ [];
  legs = leg r101 (codes "DE00001") border 300 ∷ leg r102 border (codes "IT00003") 240 ∷ [];
  units = [];
}

abbrev pub trip_of : List ℕ → List ℕ → Trip
trip_of consignment wagons = record trip { consignment = consignment; wagons = wagons }

-- planned, released and departed
abbrev pub departed : List Call
departed = send r100 1 (body.Plan trip) ∷ send r100 2 (moved w1 330 Release) ∷ send r101 1 (moved w1 360 Departure) ∷ []

abbrev pub many : Reply → List Record
many (reply_is.Many rs) = rs
many _ = []
