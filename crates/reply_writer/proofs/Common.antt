-- What the proofs of this crate have in common: the names of other crates, of the standard library and of its own definitions.
pub use Rattle.std.specs.Char.{is_ascii_digit, is_ascii_uppercase}
pub use Rattle.std.specs.List.{list_all}
pub use Rattle.std.specs.Prelude.{codes, map, ◌||◌, ◌==◌, ⊤}
pub use Rattle.std.specs.Result.{result_ok}
pub use Rattle.std.proofs.Common.{◌≡◌, ℕ, ◌<◌, ◌^◌, ◌++◌, List, Some, decimal, refl, ap, ◌∙◌, append_assoc, ◌≤◌, [], ◌∷◌, length, true, All, Option, Ok, ok_or, arith, le-leb, None, Result, Err, is_some, sym, if◌then◌else◌, Bool, false, subst, take, drop, take-append-drop, suc, IsUtf8, nat_lt, lt-ltb, OnOk}
pub use Rattle.std.proofs.lemmas.Bool.{and_parts, and_from, ltb-true}
pub use Rattle.std.proofs.lemmas.Bool.Decides.{nat_tests}
pub use Rattle.std.proofs.lemmas.Fmt.{IsAscii-decimal}
pub use Rattle.std.proofs.lemmas.Grind.{common_steps}
pub use Rattle.std.proofs.lemmas.List.Elements.{All-head, All-tail}
pub use Rattle.std.proofs.lemmas.List.Folds.{list_all-append}
pub use Rattle.std.proofs.lemmas.List.Sums.{AllPass-from_list_all}
pub use Rattle.std.proofs.lemmas.Result.{on_ok_weaker}
pub use Rattle.std.proofs.lemmas.Slice.Eq.{bytes_eq-Decides}
pub use Rattle.std.proofs.lemmas.Str.{IsUtf8-append, IsUtf8-nil, IsUtf8-from_ascii}
pub use Rattle.std.proofs.lemmas.Str.Ascii.{IsAscii-from_all}
pub use Rattle.serde_json.specs.Data.{Data}
pub use Rattle.serde_json.specs.Find.{get, as_object}
pub use Rattle.json.specs.Print.{quoted}
unfoldable pub use Rattle.json.specs.Print.{escape_byte}
pub use Rattle.serde_json.specs.Read.{read}
pub use Rattle.serde_json.specs.View.{items_of}
pub use Rattle.serde_json.specs.Written.{compact_text, comma_if, items_text, members_text}
pub use Rattle.json.proofs.Printed.Utf8.{IsUtf8-are_ascii, are_ascii, IsUtf8-quoted, IsUtf8-boolean}
pub use Rattle.wagon_number.specs.Digits.{IsVehicleNumber, number_of, has_twelve_digits, digits_of, text_of}
pub use Rattle.taf_moment.specs.Calendar.{last_minute, moment_of, has_form, is_moment, digit_as_zero, minutes_shown}
unfoldable pub use Rattle.taf_moment.specs.Calendar.{moment_text}
pub use Rattle.taf_moment.specs.declared.fault.BadMoment.{BadMoment}
pub use Rattle.taf_codes.specs.Codes.{is_railway, is_place, is_name, is_unit_code, has_unit_form, are_letters_then_digits, are_code_letters, are_name_letters}
pub use Rattle.taf_codes.specs.UnitDigits.{ends_in_check_digit}
pub use Rattle.taf_codes.proofs.CodeLemmas.{IsAscii-unit, IsAscii-name, letter_below, digit_below}
pub use Rattle.trip_plan.specs.Trip.{Trip}
pub use Rattle.trip_plan.specs.declared.parts.Leg.{Leg}
pub use Rattle.trip_plan.specs.declared.parts.Load.{Load}
pub use Rattle.trip_plan.specs.declared.parts.Load.TheVariants.{Loaded, Empty}
pub use Rattle.trip_plan.specs.declared.parts.UnitLoad.{UnitLoad}
pub use Rattle.json_tokens.specs.SmallNumbers.{IsSmall, HasSmallNumbers, ItemsHaveSmallNumbers, MembersHaveSmallNumbers}
pub use Rattle.json_tokens.specs.Texts.{text, whole, list_of, fields, or_null, AddsData, Adds, item_tokens, AreSmall}
pub use Rattle.json_tokens.specs.Writing.{is_plain_letter, is_plain}
pub use Rattle.json_tokens.proofs.NumberLemmas.{read_small, read_result}
pub use Rattle.json_tokens.proofs.ReadLemmas.{read-compact_text, is_ordered, items_are_ordered-map}
pub use Rattle.json_tokens.proofs.TextLemmas.{adds_array, adds_item, taken, adds_object, adds_more, text_after}
pub use Rattle.taf_messages.specs.Details.{stage_name, status_name, why_name}
pub use Rattle.taf_messages.specs.Kept.{IsBetween, IsLeg, IsUnitLoad, IsMessageNumber, IsTrip, IsMovementKind, IsAnswer, IsBody, IsMessage}
pub use Rattle.taf_messages.specs.Limits.{may_be_offered}
pub use Rattle.taf_messages.specs.Names.{field_name, movement_name, body_name}
unfoldable pub use Rattle.taf_messages.specs.Names.{kind_named}
pub use Rattle.taf_messages.specs.declared.event.RecordEvent.{RecordEvent}
pub use Rattle.taf_messages.specs.declared.event.RecordEventKind.{RecordEventKind}
pub use Rattle.taf_messages.specs.declared.fault.RecordFault.{RecordFault}
pub use Rattle.taf_messages.specs.declared.fault.RecordFault.TheVariants.{BadField, BadJson, BadKind, MissingField, BadPlan, Memory}
pub use Rattle.taf_messages.specs.declared.field.Field.{Field}
pub use Rattle.taf_messages.specs.declared.item.Item.{Item}
pub use Rattle.taf_messages.specs.declared.item.ItemBody.{ItemBody}
pub use Rattle.taf_messages.specs.declared.item.ItemBody.TheVariants.{Notice, Sub, Eti, Eta, AlertBegins, AlertEnds}
pub use Rattle.taf_messages.specs.declared.kind.BodyName.{BodyName}
pub use Rattle.taf_messages.specs.declared.kind.MovementName.{MovementName}
pub use Rattle.taf_messages.specs.declared.message.Body.{Body}
pub use Rattle.taf_messages.specs.declared.message.Message.{Message}
pub use Rattle.taf_messages.specs.declared.message.TrainAnswer.{TrainAnswer}
pub use Rattle.taf_messages.specs.declared.message.TrainOffer.{TrainOffer}
pub use Rattle.taf_messages.specs.declared.movement.MovementKind.{MovementKind}
pub use Rattle.taf_messages.specs.declared.movement.MovementKind.TheVariants.{Release, Departure, YardArrival, YardDeparture, Exception, Estimate, Arrival, Delivery}
pub use Rattle.taf_messages.specs.declared.record.EstimateAt.{EstimateAt}
pub use Rattle.taf_messages.specs.declared.record.Record.{Record}
pub use Rattle.taf_messages.specs.declared.record.Stage.{Stage}
pub use Rattle.taf_messages.specs.declared.record.Status.{Status}
pub use Rattle.taf_messages.specs.declared.reply.Reply.{Reply}
pub use Rattle.taf_messages.specs.declared.reply.Why.{Why}
pub use Rattle.taf_messages.specs.Refusals.{refused}
pub use Rattle.taf_messages.specs.declared.reply.Reply.TheVariants.{Accepted, Refused, One, Many, Items, Acknowledged}
pub use Rattle.taf_messages.specs.declared.reply.Why.{Why}
pub use Rattle.call_reader.specs.Reading.{field_of, value_or_fault, call_read}
pub use Rattle.call_reader.specs.Values.{◌>>=◌, member}
unfoldable pub use Rattle.call_reader.specs.Values.{leg, unit_load, each}
pub use Rattle.call_reader.proofs.SentLemmas.{read_kept}
pub use Rattle.reply_writer.specs.Laws.{IsReadAs}
pub use Rattle.reply_writer.specs.LegShapes.{WagonLegs, wagon_legs_data, fleet_legs_data}
unfoldable pub use Rattle.reply_writer.specs.LegShapes.{wagon_legs_fields}
pub use Rattle.reply_writer.specs.RecordShapes.{event_data, estimate_data, record_data}
unfoldable pub use Rattle.reply_writer.specs.RecordShapes.{event_fields, estimate_fields, first_record_fields, middle_record_fields, last_record_fields}
pub use Rattle.reply_writer.specs.ReplyShapes.{reply_data, item_data, fault_data}
unfoldable pub use Rattle.reply_writer.specs.ReplyShapes.{reply_fields, sub_fields, eti_fields, item_fields, fault_fields}
pub use Rattle.reply_writer.specs.Shapes.{at_text, wagon_text, load_text, leg_data, unit_data, message_data}
unfoldable pub use Rattle.reply_writer.specs.Shapes.{leg_fields, unit_fields, first_plan_fields, last_plan_fields, movement_fields, offer_fields, answer_fields, leg_time_fields, body_fields}
