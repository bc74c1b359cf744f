use Rattle.hub_items.proofs.Common.{◌∙◌, sym, arith, common_steps, map-append, option_to_list, Railway, AddressedItem}
use Rattle.hub_items.proofs.alerts.put_alerts.Goals as goal

pub returns-in_ok-put_to-2 : goal.returns-in_ok-put_to-2
returns-in_ok-put_to-2 c =
    let each = map-append (λ (r : Railway). let i : AddressedItem = record { to = r; body = c.in-Some.says } in i) (option_to_list c.lead.result) (option_to_list c.also_alerted.result) in
    rw (sym c.alert.ensures ∙ c.in-Some.is) (grind (arith, common_steps, each))
