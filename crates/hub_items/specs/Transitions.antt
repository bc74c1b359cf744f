-- A journey before and after an event.
use Rattle.std.specs.Prelude.{◌≡◌, ℕ, List, Option, option_map, option_to_list, filter, flat_map}
use Rattle.taf_messages.specs.declared.message.Message.{Message}
use Rattle.taf_messages.specs.declared.record.EstimateAt.{EstimateAt}
use Rattle.journey.specs.declared.event.Event.{Event}
use Rattle.journey.specs.Journey.{Journey}
use Rattle.journey.specs.TrackStates.{without_newest}
use Rattle.eti_chain.specs.Estimates.{estimate}
use Rattle.hub_model.specs.declared.addressed_item.AddressedItem.{AddressedItem}
use Rattle.hub_model.specs.HubState.{HubState, journey_after}
use Rattle.hub_model.specs.Items.{is_news, estimate_item}

-- a wagon, and the events of its journey before and after the newest one
pub record Transition : Type 0 where
  pub wagon : ℕ
  pub before : List Event
  pub after : List Event

-- the transition that the newest event of a journey made
abbrev pub newest_transition : Journey → Transition
newest_transition j = record { wagon = j.wagon; before = without_newest j.events; after = j.events }

-- the transition of the wagon that the message makes
pub record IsTransitionBy (s : HubState) (m : Message) (w : ℕ) (t : Transition) : Type 0 where
  pub wagon_is : t.wagon ≡ w
  pub before_is : t.before ≡ s.journey w
  pub after_is : t.after ≡ journey_after s m w

-- the estimate of a leg after the event
abbrev pub estimate_of : Transition → ℕ → Option EstimateAt
estimate_of t leg = option_map (λ at. record { leg = leg; at = at }) (estimate t.after leg)

-- its item, if it is news
abbrev pub news_of : Transition → ℕ → List AddressedItem
news_of t leg = flat_map (estimate_item t.after t.wagon) (filter (is_news t.before t.after) (option_to_list (estimate_of t leg)))
