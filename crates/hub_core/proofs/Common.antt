-- What the proofs of this crate have in common: the names of other crates, of the standard library and of its own definitions.
pub use Rattle.std.specs.Option.{option_or}
pub use Rattle.std.specs.Prelude.{IfOk, max, bytes_eq, map, is_some, if◌then◌else◌}
pub use Rattle.std.specs.Vec.Iter.{drain_items}
pub use Rattle.std.proofs.Common.{◌≡◌, ℕ, ◌<◌, Bool, true, false, cond, length, List, [], ◌∷◌, ◌++◌, Option, Some, None, refl, ap, ◌∙◌, sym, subst, ◌≤◌, ◌+◌, arith, append_assoc, append-nil, ◌^◌, rules, suc, take, slice_get}
pub use Rattle.std.proofs.lemmas.Bool.{le-ltb}
pub use Rattle.std.proofs.lemmas.List.{length-append, map-append}
pub use Rattle.std.proofs.lemmas.List.Elements.{All-weaker, All-more, All-from_recursion, recursion_from_All, filter-append}
pub use Rattle.std.proofs.lemmas.Option.{slice_get_within, slice_get_read}
pub use Rattle.taf_codes.specs.Equality.{texts}
pub use Rattle.taf_codes.specs.declared.code.Railway.{Railway}
pub use Rattle.trip_plan.specs.Rules.{has}
pub use Rattle.taf_messages.specs.Bodies.{moment_in}
pub use Rattle.taf_messages.specs.declared.call.Call.TheVariants.{Send, Ack}
pub use Rattle.taf_messages.specs.declared.item.ItemBody.{ItemBody}
pub use Rattle.taf_messages.specs.declared.message.Body.{Body}
pub use Rattle.taf_messages.specs.declared.message.Message.{Message}
pub use Rattle.taf_messages.specs.declared.reply.Reply.{Reply}
pub use Rattle.taf_messages.specs.declared.reply.Reply.TheVariants.{Accepted, Acknowledged}
pub use Rattle.taf_messages.specs.Refusals.{refused}
pub use Rattle.history_pages.proofs.EntryLemmas.{slice_get-left}
pub use Rattle.replay_numbers.specs.Names.{same_name}
pub use Rattle.replay_numbers.specs.SentPositions.{has_room, position_of}
pub use Rattle.outbox.specs.Keeping.{Keeps, Acknowledges, PushesLast}
pub use Rattle.outbox.specs.OutboxStates.{OutboxState, outbox_state_of, last_of, acknowledged_up_to, with_items}
pub use Rattle.journey.specs.TrackStates.{without_newest}
pub use Rattle.eti_chain.specs.Estimates.{fits}
pub use Rattle.hub_model.specs.Bounds.{IsWithinLimits, ItemsAreFew}
pub use Rattle.hub_model.specs.Faults.{fault}
pub use Rattle.hub_model.specs.Histories.{answer, state_of, IsLegal}
pub use Rattle.hub_model.specs.HubState.{HubState, FirstSend}
pub use Rattle.hub_model.specs.Items.{items_to, items_of}
pub use Rattle.hub_model.specs.Laws.{IsMoment, EstimatesFit, OpenIsOffered, EachSend, IsSend}
pub use Rattle.hub_model.specs.Overtaking.{is_apart}
pub use Rattle.hub_model.specs.Replies.{verdict, send_reply, unit_reply}
pub use Rattle.hub_model.specs.Units.{unit_wagon}
pub use Rattle.hub_model.specs.Updates.{after_acceptance, with_acknowledgement, after, after_new, offer_given}
pub use Rattle.hub_model.specs.declared.addressed_item.AddressedItem.{AddressedItem}
pub use Rattle.hub_model.specs.declared.entry.Entry.{Entry}
pub use Rattle.hub_model.specs.declared.fault.Fault.{Fault}
pub use Rattle.hub_model.proofs.HistoryLemmas.{one_more_entry}
pub use Rattle.hub_model.proofs.NoFaultLemmas.{or_none_left, or_none_right}
pub use Rattle.hub_model.proofs.StepLemmas.{state_of-push}
pub use Rattle.hub_tables.specs.Acceptance.{IsStateBefore}
pub use Rattle.hub_tables.specs.Changes.{AreChanges, IsChange, IsTaken, changed}
pub use Rattle.hub_tables.specs.GoingOn.{KeepsCalendar}
pub use Rattle.hub_tables.specs.TableStates.{IsAcceptable, table_part, TableEntries, table_state}
pub use Rattle.hub_tables.specs.declared.changes.Change.{Change}
pub use Rattle.hub_core.specs.Delivery.{AreReady, IsReady}
pub use Rattle.hub_core.specs.States.{Represents, KeepsLimits, known_before_changes, LeadsTo, OffersWereSent, entry_of, SendKeepsLimits}
pub use Rattle.std.proofs.lemmas.Grind.{get_or_at_push}
pub use mathlib.Core.Path.{transport⁻¹}
