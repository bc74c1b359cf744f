-- What the definitions of this crate have in common: the names of other crates that they use.
pub use Rattle.wagon_number.specs.declared.number.WagonNumber.{WagonNumber}
pub use Rattle.taf_moment.specs.Calendar.{last_minute}
pub use Rattle.taf_codes.specs.Words.{first_of, is_text, same_text}
pub use Rattle.taf_codes.specs.declared.code.Railway.{Railway}
pub use Rattle.taf_codes.specs.declared.code.UnitCode.{UnitCode}
pub use Rattle.taf_codes.specs.declared.name.ConsignmentId.{ConsignmentId}
pub use Rattle.trip_plan.specs.Rules.{has, loads}
pub use Rattle.trip_plan.specs.Trip.{Trip}
pub use Rattle.trip_plan.specs.declared.parts.Leg.{Leg}
pub use Rattle.trip_plan.specs.declared.parts.UnitLoad.{UnitLoad}
pub use Rattle.taf_messages.specs.Bodies.{moment_in}
pub use Rattle.taf_messages.specs.Content.{same_message}
pub use Rattle.taf_messages.specs.declared.call.Call.{Call}
pub use Rattle.taf_messages.specs.declared.call.Call.TheVariants.{Send, Ack, Ask, AskUnit, Deviation, Fetch}
pub use Rattle.taf_messages.specs.declared.item.Item.{Item}
pub use Rattle.taf_messages.specs.declared.item.ItemBody.{ItemBody}
pub use Rattle.taf_messages.specs.declared.message.Body.{Body}
pub use Rattle.taf_messages.specs.declared.message.Message.{Message}
pub use Rattle.taf_messages.specs.declared.message.TrainAnswer.{TrainAnswer}
pub use Rattle.taf_messages.specs.declared.movement.MovementKind.{MovementKind}
pub use Rattle.taf_messages.specs.declared.movement.MovementKind.TheVariants.{Release, Departure, Estimate}
pub use Rattle.taf_messages.specs.declared.record.EstimateAt.{EstimateAt}
pub use Rattle.taf_messages.specs.declared.record.Record.{Record}
pub use Rattle.taf_messages.specs.declared.reply.Reply.{Reply}
pub use Rattle.taf_messages.specs.declared.reply.Reply.TheVariants.{Accepted, Acknowledged, Refused, One, Many, Items}
pub use Rattle.taf_messages.specs.Refusals.{refused}
pub use Rattle.taf_messages.specs.declared.reply.Why.{Why}
pub use Rattle.taf_messages.specs.declared.reply.Why.TheVariants.{UnknownWagon, UnknownOffer, ConsignmentTaken, WagonBusy, UnitBusy, NotYours, OfferClosed, ListsDiffer, BeyondCalendar, UnknownConsignment, UnknownUnit, NumberReused, AckAhead}
pub use Rattle.replay_numbers.specs.Names.{same_name}
pub use Rattle.outbox.specs.Numbering.{is_ahead, numbered_items, items_to_fetch}
pub use Rattle.interchange.specs.Offers.{asked_by, matches, wagons_of, place_of}
pub use Rattle.interchange.specs.declared.offer.Offer.{Offer}
pub use Rattle.journey.specs.Checks.{refusal}
pub use Rattle.journey.specs.Legs.{legs, current_leg, runner_of, lead_of}
pub use Rattle.journey.specs.NewestLegs.{IsJourney}
pub use Rattle.journey.specs.Stages.{is_plan, leg_index, is_delivery, responsible, is_delivered, stage, is_on_its_way, is_departure, plan}
pub use Rattle.journey.specs.Words.{newest, oldest, from_last}
pub use Rattle.journey.specs.declared.event.Event.{Event}
pub use Rattle.journey.specs.declared.event.EventBody.{EventBody}
pub use Rattle.journey.specs.declared.event.EventBody.TheVariants.{Moved, Planned, EstimateAsked, LegTimed, Offered, Answered, Withdrawn, Rerouted}
pub use Rattle.eti_chain.specs.Estimates.{fits, is_calendar_checked, estimate, estimates, late_by, is_late}
pub use Rattle.wimo.specs.Records.{record_of, may_see}
