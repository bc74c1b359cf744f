-- The notices of a message, each railway once.
use Rattle.hub_items.proofs.Common.{◌≡◌, Bool, true, false, false≢true, if◌then◌else◌, not, List, [], ◌∷◌, ◌++◌, refl, ap, ◌∙◌, sym, arith, append-nil, ◌||◌, map, filter, bytes_eq, bytes_eq-Decides, common_steps, Leg, Railway, Message, Option, Some, None, option_map, option_to_list, runners, AddressedItem, each_once, has_item_for, with_notice, with_notices}
use Rattle.taf_messages.specs.declared.item.ItemBody.TheVariants as item

-- the railway of a leg, if there is one
pub runner_listed : (o : Option Leg) → option_to_list (option_map (λ (l : Leg). l.ru) o) ≡ runners (option_to_list o)
runner_listed None = refl
runner_listed (Some l) = refl

-- an item that is not for the railway stays before those that stay
left_in : {A : Type 0} (is_out any_more : Bool) (x : A) (left xs : List A) → (is_out || any_more) ≡ false → (any_more ≡ false → left ≡ xs) → (if not is_out then x ∷ left else left) ≡ x ∷ xs
left_in {A} true any_more x left xs h k = absurd (false≢true (sym h))
left_in {A} false any_more x left xs h k = ap (λ (l : List A). x ∷ l) (k h)

-- where no item goes to the railway, none is taken out
pub none_taken_out : (items : List AddressedItem) (r : Railway) → has_item_for items r ≡ false → filter (λ i. not (bytes_eq i.to r)) items ≡ items
none_taken_out [] r h = refl
none_taken_out (i ∷ items) r h = left_in (bytes_eq i.to r) (has_item_for items r) i _ items h (none_taken_out items r)

module _ (m : Message) where
  -- the message for each of the railways
  abbrev to_each : List Railway → List AddressedItem
  to_each railways = map (λ r. record { to = r; body = item.Notice m }) railways

  -- those of the railways to which no item goes
  abbrev others : List AddressedItem → List Railway → List Railway
  others items rs = filter (λ q. not (has_item_for items q)) rs

  -- with the notice for a railway, items go to it and to those as before
  has_too : (items : List AddressedItem) (r q : Railway) → has_item_for (with_notice m items r) q ≡ (has_item_for items q || bytes_eq q r)
  has_too items r q = grind (arith, common_steps, bytes_eq-Decides q r, bytes_eq-Decides r q)

  others_left : (items : List AddressedItem) (r : Railway) (rs : List Railway) → others (with_notice m items r) rs ≡ others items (filter (λ q. not (bytes_eq q r)) rs)
  others_left items r [] = refl
  others_left items r (q ∷ rs) = rw (has_too items r q, others_left items r rs) (grind (arith, common_steps))

  all_more : (rs : List Railway) (items : List AddressedItem) → with_notices m rs items ≡ items ++ to_each (others items (each_once rs))
  all_more [] items = sym (append-nil items)
  all_more (r ∷ rs) items = rw (all_more rs (with_notice m items r), others_left items r (each_once rs)) (grind (arith, common_steps))

  -- where there is none before, each railway has one
  pub notices_made : (rs : List Railway) → with_notices m rs [] ≡ to_each (each_once rs)
  notices_made rs = all_more rs [] ∙ ap to_each (all_kept (each_once rs))
    where
      all_kept : (rs : List Railway) → others [] rs ≡ rs
      all_kept [] = refl
      all_kept (r ∷ rs) = ap (λ qs. r ∷ qs) (all_kept rs)
