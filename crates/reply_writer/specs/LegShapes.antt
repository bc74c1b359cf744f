-- The JSON of the legs that stand beside the records of wagons: keys in byte order.
use Rattle.std.specs.Prelude.{List, ◌++◌, codes}
use Rattle.serde_json.specs.Data.{Data}
use Rattle.wagon_number.specs.declared.number.WagonNumber.{WagonNumber}
use Rattle.trip_plan.specs.declared.parts.Leg.{Leg}
use Rattle.json_tokens.specs.Texts.{Fields, field, fields, list_of}
use Rattle.reply_writer.specs.Shapes.{wagon_text, leg_data}

-- a wagon, and the legs of its journey in their order
pub record WagonLegs : Type 0 where
  pub wagon : WagonNumber
  pub legs : List Leg

unfoldable pub wagon_legs_fields : WagonLegs → Fields
wagon_legs_fields w = field (list_of leg_data) (codes "legs") w.legs ++ field wagon_text (codes "wagon") w.wagon

abbrev pub wagon_legs_data : WagonLegs → Data
wagon_legs_data w = fields (wagon_legs_fields w)

-- several wagons with their legs, in their order
abbrev pub fleet_legs_fields : List WagonLegs → Fields
fleet_legs_fields wagons = field (list_of wagon_legs_data) (codes "legs") wagons

abbrev pub fleet_legs_data : List WagonLegs → Data
fleet_legs_data wagons = fields (fleet_legs_fields wagons)
