use Rattle.hub_items.proofs.Common.{◌≡◌, take, flat_map, option_to_list, lead_of, table_state, with_notices}
use Rattle.hub_items.proofs.each.put_for_leads.Given as goal

-- the leads of the wagons so far
abbrev pub invariant-loop-wagon : goal.invariant-loop-wagon
invariant-loop-wagon l =
    l.items.items ≡ with_notices l.notice (flat_map (λ w. option_to_list (lead_of ((table_state l.tables).journey w))) (take l.wagon-index l.wagons)) l.initial.items.items
