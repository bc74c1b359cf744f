-- What the proofs of this crate have in common: the names of other crates, of the standard library and of its own definitions.
pub use Rattle.std.specs.Prelude.{◌&&◌, bytes_eq}
pub use Rattle.std.specs.Result.{result_ok}
pub use Rattle.std.proofs.Common.{◌≡◌, ◌<◌, List, [], ◌∷◌, ◌++◌, Option, Some, None, refl, sym, ap, ◌∙◌, append_assoc, append-nil, arith, ℕ, ◌≤◌, length, Bool, true, false, Result, Ok, Err, All, option_and_then, subst, leb-true, if◌then◌else◌, nat_le, is_some, ok_or}
pub use Rattle.std.proofs.lemmas.Bool.{and_parts}
pub use Rattle.std.proofs.lemmas.List.Elements.{All-nil, All-cons}
pub use Rattle.std.proofs.lemmas.Result.{err_from_is_err_and}
pub use Rattle.serde_json.specs.Data.{Data, Items, no_items, item, null, boolean, number, string, array, object}
pub use Rattle.serde_json.specs.Events.{items_len}
pub use Rattle.serde_json.specs.Find.{as_str, as_number, as_u64, as_array, get, as_object}
pub use Rattle.wagon_number.specs.Digits.{IsVehicleNumber, number_of}
pub use Rattle.taf_moment.specs.Calendar.{last_minute, moment_of}
pub use Rattle.taf_codes.specs.Codes.{is_railway, is_place, is_name, is_unit_code, has_unit_form, code_of, unit_of}
pub use Rattle.taf_codes.specs.Equality.{texts}
pub use Rattle.taf_codes.specs.declared.fault.BadCode.{BadCode}
pub use Rattle.taf_codes.specs.declared.fault.UnitFault.{UnitFault}
pub use Rattle.taf_codes.specs.declared.fault.UnitFault.TheVariants.{NotAUnitCode, BadUnitDigit}
pub use Rattle.trip_plan.specs.Trip.{Trip, plan_fault, route_fault}
pub use Rattle.trip_plan.specs.declared.parts.Leg.{Leg}
pub use Rattle.trip_plan.specs.declared.parts.UnitLoad.{UnitLoad}
pub use Rattle.json_tokens.specs.JsonValues.{json_items_data}
pub use Rattle.taf_messages.specs.Kept.{IsBetween, IsLeg, IsUnitLoad, IsTrip, IsMovementKind, IsMovement, IsOffer, AreAnswered, IsAnswer, IsRailwayIfThere, IsBody, IsMessage}
pub use Rattle.taf_messages.specs.Leads.{is_sent_by_its_lead}
pub use Rattle.taf_messages.specs.Limits.{may_be_offered}
pub use Rattle.taf_messages.specs.Names.{field_name}
pub use Rattle.taf_messages.specs.declared.call.Call.{Call}
pub use Rattle.taf_messages.specs.declared.fault.RecordFault.{RecordFault}
pub use Rattle.taf_messages.specs.declared.fault.RecordFault.TheVariants.{BadJson, BadField}
pub use Rattle.taf_messages.specs.declared.field.Field.{Field}
pub use Rattle.taf_messages.specs.declared.kind.BodyName.{BodyName}
pub use Rattle.taf_messages.specs.declared.kind.Kind.{Kind}
pub use Rattle.taf_messages.specs.declared.kind.MovementName.{MovementName}
pub use Rattle.taf_messages.specs.declared.message.Body.{Body}
pub use Rattle.taf_messages.specs.declared.message.Message.{Message}
pub use Rattle.taf_messages.specs.declared.message.TrainAnswer.{TrainAnswer}
pub use Rattle.taf_messages.specs.declared.message.TrainOffer.{TrainOffer}
pub use Rattle.taf_messages.specs.declared.movement.Movement.{Movement}
pub use Rattle.taf_messages.specs.declared.movement.MovementKind.{MovementKind}
pub use Rattle.taf_messages.specs.declared.movement.MovementKind.TheVariants.{Release, Departure, YardArrival, YardDeparture, Exception, Estimate, Arrival, Delivery}
pub use Rattle.call_reader.specs.Values.{◌>>=◌, Misses, member, list, short_list}
unfoldable pub use Rattle.call_reader.specs.Values.{each, leg, unit_load}
pub use Rattle.call_reader.specs.declared.value.DecodeError.{DecodeError}
pub use Rattle.call_reader.specs.declared.value.DecodeError.TheVariants.{Bad, Memory}
