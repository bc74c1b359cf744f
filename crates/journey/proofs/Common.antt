-- What the proofs of this crate have in common: the names of other crates, of the standard library and of its own definitions.
pub use Rattle.std.specs.List.{list_any}
pub use Rattle.std.specs.Option.{option_or, option_flatten, option_eq}
pub use Rattle.std.specs.Prelude.{fold, slice_index_or, slice_set, slice_get, option_map, unwrap_or, nat_lt, if◌then◌else◌, ◌||◌, ◌↔◌, IsSome, is_some}
pub use Rattle.std.proofs.Common.{◌≡◌, ℕ, ◌+◌, zero, suc, cond, List, [], ◌∷◌, ◌++◌, length, refl, ap, ◌∙◌, ◌<◌, ◌≤◌, take, arith, ◌-◌, Bool, true, false, Option, Some, None, sym, inl, inr, ◌==◌, append-nil, append_assoc, add-zero, drop, subst}
pub use Rattle.std.proofs.Math.Seq.{take-append_seam}
pub use Rattle.std.proofs.lemmas.Bool.{lt-ltb, le-ltb, or_cases, and_parts, false≢true, cases_Bool, cases_lt, not-false, ltb-false}
pub use Rattle.std.proofs.lemmas.Bool.Decides.{nat_tests}
pub use Rattle.std.proofs.lemmas.List.{length-append, length-take-le}
pub use Rattle.std.proofs.lemmas.List.Folds.{list_any-append}
pub use Rattle.std.proofs.lemmas.List.Sums.{fold-append}
pub use Rattle.taf_codes.specs.Words.{first_of, is_text}
pub use Rattle.taf_codes.specs.declared.code.Railway.{Railway}
pub use Rattle.trip_plan.specs.declared.parts.Leg.{Leg}
pub use Rattle.taf_messages.specs.declared.movement.MovementKind.TheVariants.{Departure, Exception, Estimate, Delivery}
pub use Rattle.taf_messages.specs.declared.record.Stage.{Stage}
pub use Rattle.taf_messages.specs.declared.reply.Why.TheVariants.{WrongStage}
pub use Rattle.journey.specs.Checks.{checks, refusal, route_checks, same_stage}
pub use Rattle.journey.specs.Journey.{Journey}
pub use Rattle.journey.specs.JourneyStates.{earlier_state, journey_state, journey_state_after}
pub use Rattle.journey.specs.Legs.{LegPosition, leg_position, leg_position_after, index_after, legs, legs_after, with_leg_minutes, HasRoom, HaveRoom, lead_of, lead_in, yard_in}
pub use Rattle.journey.specs.NewestLegs.{EventOnLeg, with_minutes, events_on_legs_from, events_on_legs, route_leg, leg_set, minutes_set, count_set, count_by_newest, leg_by_newest, IsPlanOfLegs, AllAdmitted, IsJourney, OnLegsByCount, LegsAreTheNewest, AsManyLegs, RerouteUndoesTimes}
pub use Rattle.journey.specs.Stages.{stage, stage_after, leg_index, is_reception, plan, plan_in, is_delivery, is_delivered, responsible, is_on_its_way, is_departure, has_departed, new_responsible, is_plan, has_later_plan}
pub use Rattle.journey.specs.TrackStates.{IsSound, IsTrackState, first_plan, without_newest}
pub use Rattle.journey.specs.Words.{newest, since}
pub use Rattle.journey.specs.declared.event.Event.{Event}
pub use Rattle.journey.specs.declared.event.EventBody.{EventBody}
pub use Rattle.journey.specs.declared.event.EventBody.TheVariants.{Planned, Moved, EstimateAsked, LegTimed, Offered, Answered, Withdrawn, Rerouted}
pub use Rattle.journey.specs.declared.journey_state.JourneyState.{JourneyState}
