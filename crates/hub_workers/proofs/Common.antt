-- What the proofs of this crate have in common: the names of other crates, of the standard library and of its own definitions.
pub use Rattle.std.specs.List.{All}
pub use Rattle.std.proofs.Common.{◌≡◌, ℕ, zero, suc, ◌+◌, ◌<◌, List, [], ◌++◌, length, get_or, take, drop, refl, sym, ap, ◌∙◌, subst, arith, append-nil, ◌≤◌, ◌*◌, ◌^◌, sum_by, rules, ◌∷◌, length-append, map, set, slice_index_or, ◌%◌, vec_len, vec_capacity, slice_get, Option, Some, None, Result, Ok, Err}
pub use Rattle.std.proofs.lemmas.Iterator.Adapters.{YieldsList-from_vec}
pub use Rattle.std.proofs.lemmas.Iterator.Consumers.{YieldsList-turn, YieldsList-end}
pub use Rattle.std.proofs.lemmas.List.Sums.{sum_by-append, sum_by-cons}
pub use Rattle.std.proofs.lemmas.List.{drop_all, take_all, get_or_read, get_or_append_left, get_or_push, get_or-append-add, get_or-set_same, get_or-set_other, length_push, map-id, map-append, length-map}
pub use Rattle.taf_messages.specs.declared.call.Call.{Call}
pub use Rattle.taf_messages.specs.declared.reply.Reply.{Reply}
pub use Rattle.hub_model.specs.declared.entry.Entry.{Entry}
pub use Rattle.tallies.specs.declared.fault.HubFault.{HubFault}
pub use Rattle.tallies.specs.declared.tally.Told.{Told}
pub use Rattle.inbox.specs.declared.rule.Job.{Job}
pub use Rattle.inbox.specs.Rules.{ALL_PARTS}
pub use Rattle.inbox.specs.States.{PassState, new_pass}
pub use Rattle.session_lines.specs.Steps.{with_entry}
pub use Rattle.session_lines.specs.Tallies.{tally_with}
pub use Rattle.session_lines.specs.declared.session.Done.{Done}
pub use Rattle.session_lanes.specs.Ends.{Streams, HasEnded}
pub use Rattle.session_lanes.specs.declared.ends.SessionEnd.{SessionEnd}
pub use Rattle.session_lanes.proofs.TellingLemmas.{tells_own}
pub use Rattle.hub_shared.specs.Settling.{StandsIn}
pub use Rattle.hub_workers.specs.Answers.{TellsHistory}
pub use Rattle.session_lanes.specs.Lanes.{LaneState, new_lane, lane_capacity, EachAt, of_lane, HandsOut, EachLane, TakesBack, IsPassOf}
pub use Rattle.session_lanes.specs.declared.ends.SessionStart.{SessionStart}
pub use Rattle.session_lanes.proofs.FallLemmas.{EachAt-push}
pub use Rattle.hub_shared.specs.Seats.{SeatState, new_seat}
pub use Rattle.hub_workers.specs.declared.worker.Worker.{Worker}
