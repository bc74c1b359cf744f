use Rattle.call_reader.proofs.Common.{◌≡◌, items_len, json_items_data, each}
use Rattle.call_reader.proofs.EachLemmas.{with_front}
use Rattle.call_reader.proofs.value.each_of.Given as goal

abbrev pub invariant-loop-value : goal.invariant-loop-value
invariant-loop-value g l = with_front l.items.items (each g.T.FromJson.good (json_items_data l.values)) ≡ each g.T.FromJson.good (json_items_data l.initial.values)

abbrev pub decreases-loop-value : goal.decreases-loop-value
decreases-loop-value g l = items_len (json_items_data l.values)
