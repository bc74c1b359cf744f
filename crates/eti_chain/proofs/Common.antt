-- What the proofs of this crate have in common: the names of other crates, of the standard library and of its own definitions.
pub use Rattle.std.specs.List.{list_all, range_with_len, cons_option}
pub use Rattle.std.specs.Option.{option_or}
pub use Rattle.std.specs.Prelude.{◌&&◌, nat_le, IfSome, sum_by, slice_range, filter_map, option_map, is_some}
pub use Rattle.std.proofs.Common.{◌≡◌, ℕ, ◌+◌, ◌-◌, ◌≤◌, ◌<◌, Bool, true, false, cond, ltb, leb, List, [], ◌∷◌, ◌++◌, length, get_or, take, drop, take_all, Option, Some, None, refl, inl, inr, ap, ◌∙◌, sym, arith, zero-add, add-zero, add_assoc, length-drop, ◌*◌, ◌^◌, not}
pub use Rattle.std.proofs.lemmas.Bool.{and_from, leb-true, le-leb, lt-ltb, cond-true, cond_both, cases_lt, false≢true, not-false, eqb-true}
pub use Rattle.std.proofs.lemmas.Bool.Decides.{nat_tests}
pub use Rattle.std.proofs.lemmas.List.{take_more, get_or-drop}
pub use Rattle.std.proofs.lemmas.List.FromFn.{get_or-range_with_len, length-range_with_len}
pub use Rattle.std.proofs.lemmas.List.Sums.{sum_by_more, sum_by-take-le, AllPass-from_list_all, list_all-from_AllPass, sum_by_push}
pub use Rattle.taf_moment.specs.Calendar.{last_minute}
pub use Rattle.taf_codes.specs.declared.code.Railway.{Railway}
pub use Rattle.trip_plan.specs.declared.parts.Leg.{Leg}
pub use Rattle.taf_messages.specs.declared.movement.MovementKind.{MovementKind}
pub use Rattle.taf_messages.specs.declared.movement.MovementKind.TheVariants.{Release, Departure, Exception, Estimate, Arrival, Delivery}
pub use Rattle.taf_messages.specs.declared.record.EstimateAt.{EstimateAt}
pub use Rattle.taf_messages.specs.declared.record.Stage.{Stage}
pub use Rattle.journey.specs.Checks.{refusal, movement_checks}
pub use Rattle.journey.specs.TrackStates.{IsTrackState}
pub use Rattle.journey.specs.declared.journey_state.JourneyState.{JourneyState}
pub use Rattle.journey.specs.JourneyStates.{journey_state}
pub use Rattle.journey.specs.Legs.{legs, legs_after, index_after}
pub use Rattle.journey.specs.Stages.{leg_index, is_reception, stage, stage_after}
pub use Rattle.journey.specs.Words.{newest, since}
pub use Rattle.journey.specs.declared.event.Event.{Event}
pub use Rattle.journey.specs.declared.event.EventBody.{EventBody}
pub use Rattle.journey.specs.declared.event.EventBody.TheVariants.{Moved, EstimateAsked, Offered, Withdrawn, Planned, LegTimed, Answered, Rerouted}
pub use Rattle.journey.proofs.LegPositionLemmas.{legs-push, leg_index-push, stage-push, timed_length}
pub use Rattle.journey.proofs.NewestLemmas.{newest-push, since-push}
pub use Rattle.journey.proofs.SoundStateLemmas.{plan-kept, passed}
pub use Rattle.eti_chain.specs.EstimateStates.{IsWithin, anchor_after, EstimatesState, state_with_commitment, EstimateAnchor, anchor_with_commitment, end_before, EstimatesInTurn}
pub use Rattle.eti_chain.specs.Estimates.{anchor_in, anchor, EstimateBasis, basis_from, estimate_basis, minutes_in, base_in, delays_of, end_in, eta_in, fits_in, fits, delay_in, delays, delayed_by, commitment, is_calendar_checked}
pub use Rattle.eti_chain.specs.declared.anchor.Anchor.{Anchor}
