-- What the proofs of this crate have in common: the names of other crates, of the standard library and of its own definitions.
pub use Rattle.std.specs.List.{list_all, AllByRecursion, list_any, slice_get, find}
unfoldable pub use Rattle.std.specs.List.{IsDistinct}
pub use Rattle.std.specs.Map.{lookup, keys_of, update_all}
pub use Rattle.std.specs.Option.{option_or, option_map_or, option_copied_mut}
pub use Rattle.std.specs.Prelude.{bytes_eq, unwrap_or, option_map, nat_eq, filter, fold, All, ◌&&◌}
pub use Rattle.std.specs.Vec.Iter.{into_iter_items, into_iter_len}
pub use Rattle.std.specs.Vec.{vec_capacity, vec_len}
pub use Rattle.std.proofs.Common.{is_some, ◌≡◌, ℕ, zero, suc, ◌==◌, Bool, true, false, List, [], ◌∷◌, ◌++◌, Option, Some, None, IfSome, Result, Ok, Err, OnOk, refl, sym, ap, ◌∙◌, append-nil, true≢false, ◌||◌, cond, length, subst, arith, if◌then◌else◌, not, map, append_assoc, ◌+◌, ◌<◌, ◌≤◌, ◌^◌, get_or, inl, inr, take, take_all, rules, OnErr, drop, add-one, drop-cons}
pub use Rattle.std.proofs.lemmas.Bool.{and_parts, eqb-true, or_cases, cases_Bool, or_right}
pub use Rattle.std.proofs.lemmas.Bool.Decides.{Decides-eqb}
pub use Rattle.std.proofs.lemmas.List.{map_more, at_drop_all, at_drop_more, take_more, take-append-drop, map-append}
pub use Rattle.std.proofs.lemmas.List.Elements.{All-head, All-tail, All-cons, All-nil, All-pop, All-push}
pub use Rattle.std.proofs.lemmas.List.Folds.{list_any-append, list_any_at}
pub use Rattle.std.proofs.lemmas.List.Sums.{fold-append, sum_by-append}
pub use Rattle.std.proofs.lemmas.Map.Entries.{lookup_from_place}
pub use Rattle.std.proofs.lemmas.Map.Made.{lookup_key_same}
pub use Rattle.std.proofs.lemmas.Option.{same_Some}
pub use Rattle.indexmap.proofs.CallerLemmas.{updates-with_value_at, keys-with_value_at}
pub use Rattle.indexmap.specs.IndexMap.{IndexMap, get, insert_entry, insert_all, spare, values, with_value_at, IsUnique}
pub use Rattle.taf_codes.specs.Equality.{numbers, is_equivalence}
pub use Rattle.taf_codes.specs.declared.code.Railway.{Railway}
pub use Rattle.taf_codes.specs.declared.code.UnitCode.{UnitCode}
pub use Rattle.taf_codes.specs.declared.name.ConsignmentId.{ConsignmentId}
pub use Rattle.trip_plan.proofs.WagonLemmas.{neither}
pub use Rattle.trip_plan.specs.Rules.{has, all_differ, times_named, loads}
pub use Rattle.trip_plan.specs.Trip.{Trip}
pub use Rattle.trip_plan.specs.declared.parts.UnitLoad.{UnitLoad}
pub use Rattle.taf_messages.specs.Bodies.{moment_in}
pub use Rattle.taf_messages.specs.declared.message.Body.{Body}
pub use Rattle.taf_messages.specs.declared.message.Message.{Message}
pub use Rattle.taf_messages.specs.declared.message.TrainAnswer.{TrainAnswer}
pub use Rattle.taf_messages.specs.declared.reply.Why.{Why}
pub use Rattle.taf_messages.specs.declared.reply.Why.TheVariants.{UnknownWagon, BeyondCalendar, WagonBusy}
pub use Rattle.replay_numbers.specs.Names.{same_name}
pub use Rattle.interchange.specs.OfferTable.{offer_of, is_standing, OfferTable}
pub use Rattle.interchange.specs.Offers.{matches, wagons_of}
pub use Rattle.journey.proofs.TakenBackLemmas.{without_newest-push}
pub use Rattle.journey.specs.Checks.{refusal}
pub use Rattle.journey.specs.Journey.{Journey}
pub use Rattle.journey.specs.Stages.{is_plan}
pub use Rattle.journey.specs.TrackStates.{IsTrackState, first_plan, without_newest}
pub use Rattle.journey.specs.declared.event.Event.{Event}
pub use Rattle.journey.specs.declared.event.EventBody.{EventBody}
pub use Rattle.eti_chain.specs.EstimateStates.{EstimateAnchor, estimate_anchor}
pub use Rattle.eti_chain.specs.Estimates.{fits, is_calendar_checked}
pub use Rattle.hub_model.proofs.FleetLemmas.{two_sieves}
pub use Rattle.hub_model.proofs.NoFaultLemmas.{or_none_left, answer_fits, planned_anew, goes_on, known_allowed, listed, withdraw_fits}
pub use Rattle.hub_model.proofs.SoundnessLemmas.{answered_known}
pub use Rattle.hub_model.specs.Faults.{fault, whole_fault, is_unknown, known_fault, is_busy, calendar_fault, wagon_fault, first_fault, unit_fault}
pub use Rattle.hub_model.specs.HubState.{HubState, new_state, named_wagons, wagons_in, Offers, event_body_for, event_for, with_event, journey_after}
pub use Rattle.hub_model.specs.Laws.{OpenIsOffered}
pub use Rattle.hub_model.specs.Units.{units_in, is_unit_busy}
pub use Rattle.hub_model.specs.Updates.{after_acceptance, plan_given, unit_plan_given, offer_given, opening_given, planned_in, fleet_after, each_wagon}
pub use Rattle.hub_model.specs.declared.fault.Fault.{Fault}
pub use Rattle.hub_tables.specs.Acceptance.{HasAccepted, IsStateBefore}
pub use Rattle.hub_tables.specs.Changes.{continued_in, gone_on, changed, known_before, IsChange, AreChanges, HasGoneOn, IsTaken, with_journey}
pub use Rattle.hub_tables.specs.GoingOn.{wagon_refusal, KeepsCalendar, GoesOn, Passes, after_each, HaveGoneOn, IsGoneOnOrRefused}
pub use Rattle.hub_tables.specs.TableStates.{TableEntries, table_state, table_part, continues_journeys, events_in, IsJourneyEntry, AreJourneyEntries, IsAcceptable}
pub use Rattle.hub_tables.specs.declared.changes.Change.{Change}
pub use Rattle.hub_tables.specs.declared.wagon.WagonState.{WagonState}
