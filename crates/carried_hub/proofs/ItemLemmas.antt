-- Two hubs with the same items for their railways.
use Rattle.carried_hub.proofs.Common.{◌≡◌, ℕ, ◌+◌, ◌≤◌, true, List, [], ◌∷◌, ◌++◌, length, Some, refl, ap, ◌∙◌, sym, subst, inl, inr, zero, suc, take, drop, take_all, take_more, All, All-head, All-tail, list_any, slice_get, slice_get_within, get_or_from_slice_get, bytes_eq, bytes_eq-Decides, or_cases, cases_Bool, Railway, ItemBody, HubState, HaveAllItems, HasSameItems, HaveSameItems, IsEquality, items}
use Rattle.taf_messages.specs.declared.item.Item.{Item}
use Rattle.taf_messages.specs.contracts.item.ItemBodyPartialEq.TheImpl as ItemBodyEq

abbrev item_of : ItemBody → Item
item_of body = record { number = 0; body = body }

-- `==` finds whether two bodies are equal, since it does so for items of one number
pub bodies : IsEquality ItemBodyEq.ghosts.eq
bodies = record { equal = λ a b same. ap (λ (i : Item). i.body) (items.equal (item_of a) (item_of b) same); itself = λ a. items.itself (item_of a) }

-- one element more
up_to : {X : Type 0} (xs : List X) (i : ℕ) (x : X) → slice_get xs i ≡ Some x → take (i + 1) xs ≡ take i xs ++ x ∷ []
up_to xs i x here = take_more xs i x (slice_get_within xs i x here) ∙ ap (λ y. take i xs ++ y ∷ []) (get_or_from_slice_get xs i x x here)

pub same_up_to : {X : Type 0} (xs ys : List X) (i : ℕ) (x y : X) → slice_get xs i ≡ Some x → slice_get ys i ≡ Some y → x ≡ y → take i xs ≡ take i ys → take (i + 1) xs ≡ take (i + 1) ys
same_up_to xs ys i x y here there same before = up_to xs i x here ∙ (λ j. before j ++ same j ∷ []) ∙ sym (up_to ys i y there)

pub all_the_same : {X : Type 0} (xs ys : List X) (n : ℕ) → length xs ≤ n → length ys ≤ n → take n xs ≡ take n ys → xs ≡ ys
all_the_same xs ys n few few_too same = sym (take_all n xs few) ∙ same ∙ take_all n ys few_too

drop_none : {X : Type 0} (n : ℕ) → Path (List X) (drop n []) []
drop_none zero = refl
drop_none (suc n) = refl

module _ (s t : HubState) (r : Railway) where
  among : (railways : List Railway) → All (HasSameItems s t) railways → list_any (bytes_eq r) railways ≡ true → HasSameItems s t r
  among [] all there = absurd cc
  among (q ∷ railways) all there = elim (or_cases (bytes_eq r q) (list_any (bytes_eq r) railways) there) [
    | inl e ↦ subst (HasSameItems s t) (sym ((bytes_eq-Decides r q).0 e)) (All-head (HasSameItems s t) q railways all)
    | inr e ↦ among railways (All-tail (HasSameItems s t) q railways all) e
  ]

  none : s.outbox r ≡ [] → t.outbox r ≡ [] → HasSameItems s t r
  none e f = ap (drop (t.acknowledged r)) f ∙ drop_none (t.acknowledged r) ∙ sym (ap (drop (s.acknowledged r)) e ∙ drop_none (s.acknowledged r))

pub same_for_all : (s t : HubState) (railways others : List Railway) → HaveAllItems railways s → HaveAllItems others t → All (HasSameItems s t) railways → All (HasSameItems s t) others → HaveSameItems s t
same_for_all s t railways others own other same also r = elim (cases_Bool (list_any (bytes_eq r) railways)) [
  | inl e ↦ among s t r railways same e
  | inr e ↦ elim (cases_Bool (list_any (bytes_eq r) others)) [
    | inl f ↦ among s t r others also f
    | inr f ↦ none s t r (own r e) (other r f)
  ]
]
