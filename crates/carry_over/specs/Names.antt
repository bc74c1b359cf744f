-- A set of names, and the messages that name things of it.
use Rattle.std.specs.Prelude.{◌≡◌, ℕ, Bool, true, false, List, [], ◌∷◌, ◌++◌, map, filter, Option, Some, All}
use Rattle.hub_model.specs.Common.{Railway, UnitCode, ConsignmentId, has, loads, Call, Send, Message, Body}
use Rattle.taf_messages.specs.declared.message.Body.TheVariants as body
use Rattle.hub_model.specs.Laws.{IsSend}
use Rattle.hub_model.specs.Overtaking.{consignment_in, offer_named}
use Rattle.hub_model.specs.Units.{units_in}

-- names of wagons, consignments, intermodal units and messages; an offer has the name of its message
pub record Names : Type 0 where
  pub wagon : ℕ → Bool
  pub consignment : ConsignmentId → Bool
  pub unit : UnitCode → Bool
  pub message : Railway → ℕ → Bool

-- the wagons that a message names by itself, of a plan also those that it loads units on
abbrev pub wagons_written : Body → List ℕ
wagons_written (body.Plan p) = p.wagons ++ map (λ l. l.wagon) p.units
wagons_written (body.Movement m) = m.wagon ∷ []
wagons_written (body.EtiAsk w) = w ∷ []
wagons_written (body.LegTime w leg minutes) = w ∷ []
wagons_written (body.Offer o) = o.wagons
wagons_written (body.Answer a) = a.received ++ a.refused
wagons_written (body.Withdraw at n) = []
wagons_written (body.Reroute w route) = w ∷ []

-- the message is one of these names
abbrev pub is_of : Names → Message → Bool
is_of names m = names.message m.by m.no

-- all that the message names is of these names if the message is, and nothing of it if it isn't
pub record IsOnOneSide (names : Names) (m : Message) : Type 0 where
  pub wagons : (w : ℕ) → has (wagons_written m.body) w ≡ true → names.wagon w ≡ is_of names m
  pub units : (u : UnitCode) → loads (units_in m.body) u ≡ true → names.unit u ≡ is_of names m
  pub consignments : (c : ConsignmentId) → Path (Option ConsignmentId) (consignment_in m.body) (Some c) → names.consignment c ≡ is_of names m
  pub offers : (by : Railway) (n : ℕ) → Path (Option (Railway × ℕ)) (offer_named m m.body) (Some (by, n)) → names.message by n ≡ is_of names m

-- each message that is sent is on one side
abbrev pub Divide : Names → List Call → Type 0
Divide names calls = All (IsSend (IsOnOneSide names)) calls

-- the call is a message of these names
abbrev pub stays : Names → Call → Bool
stays names (Send m) = is_of names m
stays names _ = false

-- the messages of these names, in their order
abbrev pub messages_of : Names → List Call → List Call
messages_of names calls = filter (stays names) calls
