-- What the proofs of this crate have in common: the names of other crates, of the standard library and of its own definitions.
pub use Rattle.std.specs.List.{range_with_len}
pub use Rattle.std.specs.Option.{option_and_then}
pub use Rattle.std.specs.Prelude.{◌||◌, filter_map, option_map, map, flat_map, option_to_list, not, bytes_eq, filter, slice_get}
pub use Rattle.std.proofs.Common.{◌≡◌, ℕ, zero, suc, ◌<◌, ◌≤◌, add-one, Bool, true, List, [], ◌∷◌, ◌++◌, Option, None, refl, ap, ◌∙◌, sym, false, Some, append_assoc, append-nil, length, ◌+◌, take, get_or, arith, rules, subst, if◌then◌else◌}
pub use Rattle.std.proofs.lemmas.Bool.{or_right, false≢true}
pub use Rattle.std.proofs.lemmas.Fn.{filter_same}
pub use Rattle.std.proofs.lemmas.Grind.{common_steps}
pub use Rattle.std.proofs.lemmas.List.{map-append, map-id}
pub use Rattle.std.proofs.lemmas.List.Elements.{All-contains}
pub use Rattle.std.proofs.lemmas.Option.{same_Some}
pub use Rattle.std.proofs.lemmas.Slice.Eq.{bytes_eq-Decides}
pub use Rattle.std.proofs.lemmas.List.FromFn.{map-range_with_len_more}
pub use Rattle.taf_codes.specs.declared.code.Railway.{Railway}
pub use Rattle.taf_codes.specs.Equality.{numbers, texts}
pub use Rattle.trip_plan.specs.Rules.{has}
pub use Rattle.trip_plan.specs.Trip.{Trip}
pub use Rattle.trip_plan.specs.declared.parts.Leg.{Leg}
pub use Rattle.taf_messages.specs.declared.message.Body.{Body}
pub use Rattle.taf_messages.specs.declared.message.Message.{Message}
pub use Rattle.taf_messages.specs.declared.message.TrainAnswer.{TrainAnswer}
pub use Rattle.journey.specs.Journey.{Journey}
pub use Rattle.journey.specs.TrackStates.{without_newest}
pub use Rattle.journey.specs.Legs.{lead_of, legs, runner_of}
pub use Rattle.journey.specs.Stages.{leg_index}
pub use Rattle.journey.specs.declared.event.Event.{Event}
pub use Rattle.journey.specs.declared.event.EventBody.TheVariants.{Planned}
pub use Rattle.eti_chain.specs.EstimateStates.{EstimatesState, estimates_state, in_turn_from}
pub use Rattle.eti_chain.specs.Estimates.{estimate, estimate_basis, end_in, eta_in, late_by, lateness}
pub use Rattle.eti_chain.proofs.CalendarLemmas.{no_end}
pub use Rattle.hub_model.specs.HubState.{HubState, named_wagons, journey_after}
pub use Rattle.hub_model.specs.Items.{each_once, alert, alert_items, notice_receivers, estimate_items, is_news, estimate_item, runners}
pub use Rattle.hub_model.specs.declared.addressed_item.AddressedItem.{AddressedItem}
pub use Rattle.hub_model.proofs.NoFaultLemmas.{planned_anew}
pub use Rattle.hub_tables.specs.Changes.{IsChange, changed, gone_on}
pub use Rattle.hub_tables.specs.TableStates.{TableEntries, events_in, table_state, continues_journeys}
pub use Rattle.hub_tables.proofs.NextEventLemmas.{has_at}
pub use Rattle.hub_items.specs.MessageItems.{state_before, estimates_at, alerts_at}
pub use Rattle.hub_items.specs.Notices.{has_item_for, with_notice, with_notices}
pub use Rattle.hub_items.specs.Transitions.{IsTransitionBy, estimate_of, Transition, news_of}
