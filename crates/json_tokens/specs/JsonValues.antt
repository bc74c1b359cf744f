-- What is found in a line, as data.
use Rattle.serde_json.specs.Data.{Data, Items}
use Rattle.serde_json.specs.View.{view, items_view}
use Rattle.json_tokens.specs.Flat.{scalar_data, flat_data}
use Rattle.json_tokens.specs.Tapes.{tape_data, tape_items}
use Rattle.json_tokens.specs.declared.json_value.JsonValue.{JsonValue}
use Rattle.json_tokens.specs.declared.json_value.JsonValue.TheVariants as found
use Rattle.json_tokens.specs.declared.json_value.JsonItems.{JsonItems}
use Rattle.json_tokens.specs.declared.json_value.JsonItems.TheVariants as left

abbrev pub json_value_data : JsonValue → Data
json_value_data (found.Scalar p) = scalar_data p
json_value_data (found.Flat r) = flat_data r.now.members.items
json_value_data (found.Tape v) = tape_data v.element
json_value_data (found.Tree v) = view v.now

-- the items that are left
abbrev pub json_items_data : JsonItems → Items
json_items_data (left.Tape items) = tape_items items.items
json_items_data (left.Tree values) = items_view values.now
