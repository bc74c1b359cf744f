-- The test by which a message is on one side.
use Rattle.std.specs.Prelude.{ℕ, Bool, true, false, not, ◌&&◌, List}
use Rattle.std.specs.List.{list_all}
use Rattle.hub_model.specs.Common.{Railway, Message, Body, UnitLoad}
use Rattle.taf_messages.specs.declared.message.Body.TheVariants as body
use Rattle.carry_over.specs.Names.{Names, is_of}

-- what stays is on the side of what stays, and what is left behind on the other
abbrev pub is_on : Bool → Bool → Bool
is_on true stays = stays
is_on false stays = not stays

abbrev pub are_wagons_on : Names → Bool → List ℕ → Bool
are_wagons_on names side wagons = list_all (λ w. is_on side (names.wagon w)) wagons

-- the units, and the wagons that they are loaded on
abbrev pub are_loads_on : Names → Bool → List UnitLoad → Bool
are_loads_on names side loads = list_all (λ l. is_on side (names.unit l.unit) && is_on side (names.wagon l.wagon)) loads

-- all that a message of this sender names is on this side
abbrev pub is_body_on : Names → Bool → Railway → Body → Bool
is_body_on names side by (body.Plan p) =
    is_on side (names.consignment p.consignment) && (are_wagons_on names side p.wagons && are_loads_on names side p.units)
is_body_on names side by (body.Movement m) = is_on side (names.wagon m.wagon)
is_body_on names side by (body.EtiAsk w) = is_on side (names.wagon w)
is_body_on names side by (body.LegTime w leg minutes) = is_on side (names.wagon w)
is_body_on names side by (body.Offer o) = are_wagons_on names side o.wagons
is_body_on names side by (body.Answer a) =
    is_on side (names.message a.offerer a.offer) && (are_wagons_on names side a.received && are_wagons_on names side a.refused)
is_body_on names side by (body.Withdraw at n) = is_on side (names.message by n)
is_body_on names side by (body.Reroute w route) = is_on side (names.wagon w)

-- all that the message names is on its own side
abbrev pub is_on_one_side : Names → Message → Bool
is_on_one_side names m = is_body_on names (is_of names m) m.by m.body
