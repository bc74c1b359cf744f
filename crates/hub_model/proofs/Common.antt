-- What the proofs of this crate have in common: the names of other crates, of the standard library and of its own definitions.
pub use Rattle.std.specs.List.{fold, list_any, cons_option, range_with_len, list_all, position_or_len}
pub use Rattle.std.specs.Option.{option_map_or, option_and_then, option_or, option_eq, option_flatten}
pub use Rattle.std.specs.Prelude.{map, max, nat_lt, bytes_eq, IsPermutation, ◌&&◌, ◌||◌, is_none, flat_map, filter_map, codes, filter, unwrap_or, is_some, option_map, option_to_list, slice_get, All, Contains}
pub use Rattle.std.proofs.Common.{◌≡◌, ℕ, ◌≤◌, Bool, true, false, cond, List, [], ◌∷◌, length, Some, None, refl, sym, subst, not, ◌++◌, Option, ap, ◌∙◌, eqb, inl, inr, ◌⊎◌, append_assoc, append-nil, ◌+◌, ◌*◌, suc, mul-suc, drop, ◌<◌, take, get_or, zero}
pub use Rattle.std.proofs.lemmas.Bool.{ltb-false, and_parts, and_from, or_cases, or_left, or_right, eqb-true, eq-eqb, false≢true, cond_both, not-false, cases_Bool, true≢false, false_from_ne_true, ltb-true, not_from_false, not_from_true, or_from, and_right, cond-false}
pub use Rattle.std.proofs.lemmas.Grind.{flat_map-append}
pub use Rattle.std.proofs.lemmas.List.{length-append, length-map, length-drop, length-take-le, map-append}
pub use Rattle.std.proofs.lemmas.List.Elements.{filter-append, All-nil, All-cons, All-head, All-tail, All-append, All-map, All-filter, All-drop, All-take, All-weaker, All-contains_itself, Contains-append_right, filter_map-append}
pub use Rattle.std.proofs.lemmas.List.Folds.{list_any-append}
pub use Rattle.std.proofs.lemmas.List.FromFn.{length-range_with_len}
pub use Rattle.std.proofs.lemmas.List.Sorted.{IsPermutation-refl, IsPermutation-append, length_permutation, IsPermutation-append_comm, IsPermutation-append_right}
pub use Rattle.std.proofs.lemmas.List.Sums.{fold-append, length-filter, count_by-le-length}
pub use Rattle.std.proofs.lemmas.Option.{none-some, same_Some, slice_get_within, slice_get-map, get_or_from_slice_get, slice_get-get_or, slice_get_past, cond_some}
pub use Rattle.std.proofs.lemmas.Slice.Eq.{bytes_eq-Decides}
pub use Rattle.taf_codes.specs.declared.code.Place.{Place}
pub use Rattle.trip_plan.specs.declared.parts.Load.TheVariants.{Loaded, Empty}
pub use Rattle.taf_messages.specs.Leads.{is_sent_by_its_lead}
pub use Rattle.taf_messages.specs.declared.message.TrainOffer.{TrainOffer}
pub use Rattle.taf_messages.specs.declared.movement.Movement.{Movement}
pub use Rattle.taf_messages.specs.declared.movement.MovementKind.TheVariants.{YardArrival, Exception, YardDeparture, Arrival, Delivery}
pub use Rattle.taf_messages.specs.declared.record.Stage.{Stage}
pub use Rattle.taf_messages.specs.declared.record.Status.{Status}
pub use Rattle.taf_messages.specs.declared.reply.Why.TheVariants.{WrongStage, NoSuchLeg}
pub use Rattle.journey.specs.Checks.{route_checks, checks, same_stage, is_in, is_lead, is_responsible, runs_leg, movement_checks}
pub use Rattle.journey.specs.JourneyStates.{journey_state, responsible_in}
pub use Rattle.journey.specs.Legs.{place, legs_after, with_leg_minutes}
pub use Rattle.journey.specs.NewestLegs.{IsPlanOfLegs}
pub use Rattle.journey.specs.Stages.{is_reception, new_responsible, stage_after, moved_to, has_departed, plan_in}
pub use Rattle.journey.proofs.JourneyLemmas.{journey-push}
pub use Rattle.journey.proofs.LegPositionLemmas.{stage-push, leg_index-push, legs-push, timed_length, plan-push}
pub use Rattle.journey.proofs.NewestLegLemmas.{sound_journey}
pub use Rattle.journey.proofs.NewestLemmas.{option_or-none, option_or_assoc}
pub use Rattle.journey.proofs.OfferStageLemmas.{stage_in_offer, in_offer, offering, offering_by, in_offer-push, in_offer-kept, settles, StaysDelivered, delivered-kept}
pub use Rattle.journey.proofs.OnItsWayLemmas.{responsible-on_its_way, taken_by, some_left, some_right}
pub use Rattle.journey.proofs.SoundStateLemmas.{passed, journey_state-push}
pub use Rattle.eti_chain.specs.Estimates.{eta}
pub use Rattle.eti_chain.proofs.CalendarLemmas.{fits-no_anchor}
pub use Rattle.eti_chain.proofs.EstimateLemmas.{leg_index-kept}
pub use Rattle.eti_chain.proofs.LegEndLemmas.{IsFit, HasMoment, IsDated, fit_said}
pub use Rattle.wimo.specs.Records.{record_in}
pub use Rattle.hub_model.specs.AcceptedMessages.{accepts, accepted_in, offers_in, is_open_in, events_from, accepted_message, accepted_from, items_from, LookupsAreTheLists, makes_offer, closes_offer, is_offer_made, is_offer_closed, send_of_name, event_if_named, entries_from, acknowledged_by, acknowledged_from, greatest}
pub use Rattle.hub_model.specs.Bounds.{AcknowledgedAreThere, JourneysAreBounded, HasFewLegs, HasFewWagons, IsWithinLimits, AreWithinLimits, ItemsAreFew, OutboxesAreBounded, JourneysAreAdmitted, AlwaysOnLeg, StandsAt, FirstSendsStand}
pub use Rattle.hub_model.specs.Changes.{is_change, AreUnchanged, OthersChangeNothing, TakenOnce, AnsweredAsAtFirst, JudgedByTheAccepted}
pub use Rattle.hub_model.specs.Common.{Railway, Call, Send, Ask, AskUnit, Deviation, Fetch, Ack, Refused, refused, Acknowledged, Accepted, One, Many, Items, AckAhead, BeyondCalendar, WagonBusy, NumberReused, UnknownWagon, UnknownUnit, UnknownConsignment, NotYours, UnknownOffer, ConsignmentTaken, UnitCode, Message, Reply, is_delivered, leg_index, is_delivery, is_plan, responsible, stage, plan, is_departure, is_on_its_way, UnitLoad, has, loads, Body, wagons_of, place_of, asked_by, matches, same_name, Trip, Event, Planned, Rerouted, Moved, EstimateAsked, LegTimed, Offered, Answered, Withdrawn, fits, is_calendar_checked, estimate, estimates, late_by, is_late, legs, lead_of, current_leg, runner_of, moment_in, TrainAnswer, ConsignmentId, Leg, MovementKind, Release, Departure, Estimate, Record, newest, from_last, oldest, EstimateAt, ItemBody, Offer, refusal, EventBody, IsJourney, last_minute, is_text, first_of, Why, same_message, record_of, may_see, is_ahead, Item, numbered_items, items_to_fetch}
pub use Rattle.hub_model.specs.Consent.{IsResponsible, IsAcceptedSend, delivers, ReceivesFrom, IsHandedOver, IsByConsent, CallsByConsent, EntriesByConsent, ResponsibleRunsTheLeg}
pub use Rattle.hub_model.specs.Faults.{fault, calendar_fault, whole_checks, whole_fault, wagon_fault, known_fault, is_busy, first_fault, unit_fault, is_unknown}
pub use Rattle.hub_model.specs.Histories.{step, state_after, answer, state_of, run, IsLegalFrom, replies_from, IsLegal}
pub use Rattle.hub_model.specs.HubState.{HubState, new_state, named_wagons, event_for, event_body_for, with_event, journey_after, Offers, wagons_in, FirstSend}
pub use Rattle.hub_model.specs.Items.{notice_receivers, movement_receivers, route_receivers, notices, sub_items, estimate_items, alert_items, items_of, each_once, items_to, runners, sub_item, estimate_item, is_news, alert, alert_receivers}
pub use Rattle.hub_model.specs.Laws.{IsMoment, AreDated, EstimatesFit, ChecksKeepTheCalendar, IsSend, EachSend, RepliesAreTheRun, KnownByTheCalls, OneMoreEntry, IsInOrder, AlwaysInOrder}
pub use Rattle.hub_model.specs.NeedToKnow.{IsOfTrip, RecordsAreForTheTrip, sender_of, records_in, items_in, IsOfOwnTrip, ShowsTheirOwn, RepliesShowTheirOwn, is_verdict, MessagesGetVerdicts, Concerns, ItemsGoToTheConcerned, HasSource, ItemsHaveSources, OutsidersLearnWhetherKnown, IsInvolved, IsTakenOff, estimated_wagon, EstimatesStayOnTheTrip, only_wagon, LookAlike, RefusalsTellTheStage}
pub use Rattle.hub_model.specs.Overtaking.{AreAlike, IsFetch, StayAlike, StayAlikeThrough, affected_wagons, consignment_in, offer_named, affects_unit, both_same, have_common_wagon, loads_affected, same_offer_name, is_apart, AreApart, ApartIsExact, MayOvertake}
pub use Rattle.hub_model.specs.Replies.{reply_to, unit_reply, ack_reply, send_reply, verdict, view, refusal_reply, record_reply, deviating_records, deviation_reply}
pub use Rattle.hub_model.specs.Responsibility.{receiver_in, last_receiver, LastReceiverAnswers}
pub use Rattle.hub_model.specs.Senders.{MayReport, MaySend, SendersMaySend}
pub use Rattle.hub_model.specs.Units.{unit_wagon, is_unit_busy, wagon_by, loaded_on, units_in, is_on_plan}
pub use Rattle.hub_model.specs.Updates.{after_call, plan_given, unit_plan_given, planned_in, each_wagon, fleet_after, offer_given, opening_given, after_acceptance, with_first_send, with_acknowledgement, after_new, after, is_accepted}
pub use Rattle.hub_model.specs.declared.addressed_item.AddressedItem.{AddressedItem}
pub use Rattle.hub_model.specs.declared.entry.Entry.{Entry}
pub use Rattle.hub_model.specs.declared.fault.Fault.{Fault}
