-- What the parts of a message keep by their types.
use Rattle.std.specs.Prelude.{◌≡◌, ◌≤◌, ℕ, List, length, true, All, Option, Some, None, ⊤}
use Rattle.wagon_number.specs.Digits.{IsVehicleNumber}
use Rattle.taf_moment.specs.Calendar.{last_minute}
use Rattle.taf_codes.specs.Codes.{is_railway, is_place, is_name, is_unit_code}
use Rattle.trip_plan.specs.declared.parts.Leg.{Leg}
use Rattle.trip_plan.specs.declared.parts.UnitLoad.{UnitLoad}
use Rattle.trip_plan.specs.Trip.{Trip, IsPlan, IsRoute}
use Rattle.taf_messages.specs.Limits.{may_be_offered}
use Rattle.taf_messages.specs.declared.movement.Movement.{Movement}
use Rattle.taf_messages.specs.declared.movement.MovementKind.{MovementKind}
use Rattle.taf_messages.specs.declared.movement.MovementKind.TheVariants.{Release, Departure, YardArrival, YardDeparture, Exception, Estimate, Arrival, Delivery}
use Rattle.taf_messages.specs.declared.message.Message.{Message}
use Rattle.taf_messages.specs.declared.message.TrainOffer.{TrainOffer}
use Rattle.taf_messages.specs.declared.message.TrainAnswer.{TrainAnswer}
use Rattle.taf_messages.specs.declared.message.Body.{Body}
use Rattle.taf_messages.specs.declared.message.Body.TheVariants as body

-- a number within limits
pub record IsBetween (low high n : ℕ) : Type 0 where
  pub least : low ≤ n
  pub most : n ≤ high

-- the number of a message
abbrev pub IsMessageNumber : ℕ → Type 0
IsMessageNumber = IsBetween 1 999_999_999_999

pub record IsLeg (l : Leg) : Type 0 where
  pub ru : is_railway l.ru ≡ true
  pub origin : is_place l.origin ≡ true
  pub target : is_place l.target ≡ true
  pub minutes : l.minutes ≤ 4_294_967_295

pub record IsUnitLoad (u : UnitLoad) : Type 0 where
  pub unit : is_unit_code u.unit ≡ true
  pub wagon : IsVehicleNumber u.wagon

-- a plan whose lead is this railway
pub record IsTrip (lead : List ℕ) (p : Trip) : Type 0 where
  pub sender : p.lead ≡ lead
  pub consignment : is_name p.consignment ≡ true
  pub commit : p.commit ≤ last_minute
  pub wagons : All IsVehicleNumber p.wagons
  pub legs : All IsLeg p.legs
  pub units : All IsUnitLoad p.units
  pub rules : IsPlan p

-- what a movement says beside its wagon and its moment
abbrev pub IsMovementKind : MovementKind → Type 0
IsMovementKind Release = ⊤
IsMovementKind Departure = ⊤
IsMovementKind (YardArrival place) = is_place place ≡ true
IsMovementKind (YardDeparture place) = is_place place ≡ true
IsMovementKind (Exception delay) = IsBetween 0 100_000 delay
IsMovementKind Estimate = ⊤
IsMovementKind Arrival = ⊤
IsMovementKind Delivery = ⊤

pub record IsMovement (m : Movement) : Type 0 where
  pub wagon : IsVehicleNumber m.wagon
  pub at : m.at ≤ last_minute
  pub what : IsMovementKind m.what

pub record IsLegTime (w i count : ℕ) : Type 0 where
  pub wagon : IsVehicleNumber w
  pub leg : IsBetween 0 7 i
  pub minutes : IsBetween 1 100_000 count

pub record IsOffer (o : TrainOffer) : Type 0 where
  pub at : o.at ≤ last_minute
  pub train : is_name o.train ≡ true
  pub place : is_place o.place ≡ true
  pub to : is_railway o.to ≡ true
  pub wagons : All IsVehicleNumber o.wagons
  pub limits : may_be_offered o.wagons ≡ true

abbrev pub IsRailwayIfThere : Option (List ℕ) → Type 0
IsRailwayIfThere None = ⊤
IsRailwayIfThere (Some railway) = is_railway railway ≡ true

-- an answer's list of wagons
pub record AreAnswered (ws : List ℕ) : Type 0 where
  pub wagons : All IsVehicleNumber ws
  pub few : length ws ≤ 60

pub record IsAnswer (a : TrainAnswer) : Type 0 where
  pub at : a.at ≤ last_minute
  pub offerer : is_railway a.offerer ≡ true
  pub offer : IsMessageNumber a.offer
  pub received : AreAnswered a.received
  pub refused : AreAnswered a.refused
  pub manager : IsRailwayIfThere a.manager

pub record IsWithdrawal (minutes number : ℕ) : Type 0 where
  pub at : minutes ≤ last_minute
  pub offer : IsMessageNumber number

pub record IsReroute (w : ℕ) (route : List Leg) : Type 0 where
  pub wagon : IsVehicleNumber w
  pub legs : All IsLeg route
  pub rules : IsRoute route

-- what a message of this sender says
abbrev pub IsBody : List ℕ → Body → Type 0
IsBody by (body.Plan p) = IsTrip by p
IsBody by (body.Movement m) = IsMovement m
IsBody by (body.EtiAsk w) = IsVehicleNumber w
IsBody by (body.LegTime w leg minutes) = IsLegTime w leg minutes
IsBody by (body.Offer o) = IsOffer o
IsBody by (body.Answer a) = IsAnswer a
IsBody by (body.Withdraw at offer) = IsWithdrawal at offer
IsBody by (body.Reroute w route) = IsReroute w route

-- a message whose parts keep their limits; the lead of a plan is its sender
pub record IsMessage (m : Message) : Type 0 where
  pub sender : is_railway m.by ≡ true
  pub number : IsMessageNumber m.no
  pub says : IsBody m.by m.body
