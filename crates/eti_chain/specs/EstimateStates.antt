-- What is kept for the estimates of a wagon, from one event to the next.
use Rattle.std.specs.Prelude.{ℕ, ◌≡◌, ◌+◌, ◌≤◌, ◌<◌, ◌^◌, true, List, length, sum_by, slice_range, Option, option_map}
use Rattle.std.specs.Option.{option_or}
use Rattle.taf_moment.specs.Calendar.{last_minute}
use Rattle.journey.specs.declared.event.Event.{Event}
use Rattle.eti_chain.specs.declared.anchor.Anchor.{Anchor}
use Rattle.eti_chain.specs.Estimates.{EstimateBasis, estimate_basis, anchor, anchor_in, delay_in, delayed_by, delays_of, base_in, fits_in, commitment}

-- the newest anchor after one event more: the event, or else the one before with the delay of the event
abbrev pub anchor_after : Option Anchor → Event → Option Anchor
anchor_after before e = option_or (anchor_in e.at e.body) (option_map (delayed_by (delay_in e.body)) before)

-- the estimates: what they are counted from, and the moment to which the plan committed
pub record EstimatesState : Type 0 where
  pub estimate_basis : EstimateBasis
  pub commit : Option ℕ

-- this basis with this commitment
abbrev pub state_with_commitment : EstimateBasis → Option ℕ → EstimatesState
state_with_commitment r commit = record { estimate_basis = r; commit = commit }

-- the estimates of a journey
abbrev pub estimates_state : List Event → EstimatesState
estimates_state events = state_with_commitment (estimate_basis events) (commitment events)

-- what is kept for the estimates: the newest anchor, and the moment to which the plan committed
pub record EstimateAnchor : Type 0 where
  pub newest : Option Anchor
  pub commit : Option ℕ

-- this anchor with this commitment
abbrev pub anchor_with_commitment : Option Anchor → Option ℕ → EstimateAnchor
anchor_with_commitment newest commit = record { newest = newest; commit = commit }

-- what is kept for the estimates of a journey
abbrev pub estimate_anchor : List Event → EstimateAnchor
estimate_anchor events = anchor_with_commitment (anchor events) (commitment events)

-- the wagon is on one of its legs, and its delays are small enough for a sum
pub record IsSummable (r : EstimateBasis) : Type 0 where
  pub on_a_leg : r.leg_index < length r.legs
  pub small : delays_of r.anchor < 2 ^ 127

-- the wagon is on one of its legs, and no estimate passes the calendar
pub record IsWithin (r : EstimateBasis) : Type 0 where
  pub on_a_leg : r.leg_index < length r.legs
  pub fit : fits_in r ≡ true
  pub small : delays_of r.anchor ≤ last_minute

-- the estimates of the legs in turn: what they are counted from, and the leg whose turn it is
pub record EstimatesInTurn : Type 0 where
  pub estimate_basis : EstimateBasis
  pub leg : ℕ

-- the estimates by this basis, from this leg on
abbrev pub in_turn_from : EstimateBasis → ℕ → EstimatesInTurn
in_turn_from r j = record { estimate_basis = r; leg = j }

-- the end of the leg before leg j, or of the current leg where j is not after it
abbrev pub end_before : EstimateBasis → ℕ → Option ℕ
end_before r j =
    option_map (λ at. at + delays_of r.anchor + sum_by (λ l. l.minutes) (slice_range r.legs (r.leg_index + 1) j)) (base_in r)

-- no estimate passes the calendar, and this is the end of the leg before leg j
pub record IsInTurn (r : EstimateBasis) (j : ℕ) (at : Option ℕ) : Type 0 where
  pub within : IsWithin r
  pub summed : at ≡ end_before r j
