use Rattle.call_reader.proofs.Common.{items_len, json_items_data}
use Rattle.call_reader.proofs.value.count_of.Given as goal

abbrev pub decreases-items : goal.decreases-items
decreases-items l = items_len (json_items_data l.values)
