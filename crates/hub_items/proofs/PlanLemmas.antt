-- A wagon that was only planned has no estimate.
use Rattle.hub_items.proofs.Common.{◌≡◌, ℕ, true, List, [], ◌∷◌, None, refl, ap, ◌∙◌, flat_map, Trip, has, Message, Event, Planned, leg_index, legs, no_end, HubState, named_wagons, journey_after, estimate_items, Transition, news_of, range_with_len, length, planned_anew, estimates_at}
use Rattle.taf_messages.specs.declared.message.Body.TheVariants as body
use Rattle.hub_items.proofs.NewsLemmas.{news_of_each, none_of_each}

-- the event of a plan
abbrev planned : Message → Trip → Event
planned m p = record { by = m.by; no = m.no; at = None; body = Planned p }

module _ (s : HubState) (m : Message) (p : Trip) (is : m.body ≡ body.Plan p) where
  -- the wagon's events once the plan is accepted
  begun : (w : ℕ) → has (named_wagons s.offer m) w ≡ true → journey_after s m w ≡ planned m p ∷ []
  begun w h = rw h (rw is (planned_anew (s.journey w) (planned m p) refl))

  -- a plan gives no estimate
  planned_estimates : (w : ℕ) → has (named_wagons s.offer m) w ≡ true → estimates_at s m w ≡ []
  planned_estimates w h =
      let after : List Event = planned m p ∷ [] in
      let t : Transition = record { wagon = w; before = s.journey w; after = after } in
      ap (λ events. estimate_items (s.journey w) events w) (begun w h) ∙ news_of_each t ∙
      none_of_each (news_of t) (range_with_len 0 (length (legs after))) (λ j _. rw (no_end (leg_index after) (legs after) j) refl)

  pub planned_none : flat_map (estimates_at s m) (named_wagons s.offer m) ≡ []
  planned_none = none_of_each _ (named_wagons s.offer m) planned_estimates
