-- What the proofs of this crate have in common: the names of other crates, of the standard library and of its own definitions.
pub use Rattle.std.specs.List.{All, count_by}
pub use Rattle.std.proofs.Common.{◌≡◌, ℕ, zero, suc, ◌+◌, ◌*◌, ◌/◌, ltb, ◌%◌, ◌<◌, ◌≤◌, eqb, eq-eqb, ne_eqb, cond, Bool, true, false, List, [], ◌∷◌, ◌++◌, length, map, get_or, take, drop, set, refl, sym, ap, ◌∙◌, subst, arith, append_assoc, append-nil, Result, Ok, Err, is_ok, rules, tests, sum_by, vec_len, vec_capacity, length-append, OnOk, OnErr, Option, ◌≢◌}
pub use Rattle.std.proofs.KnownBytes.{Consumes-nil, Appends-nil}
pub use Rattle.std.proofs.lemmas.Bool.{lt-ltb, le-ltb}
pub use Rattle.std.proofs.Math.Decide.{dec_lt}
pub use Rattle.std.proofs.Math.Nat.{mod-eq_of_lt, mod-lt, mod_self, suc-mod, mod-add-div', zero-div, div-eq_of_lt-le, add-mul}
pub use Rattle.std.proofs.lemmas.Iterator.Adapters.{YieldsList-from_vec}
pub use Rattle.std.proofs.lemmas.Iterator.Consumers.{YieldsList-turn, YieldsList-end}
pub use Rattle.std.proofs.lemmas.List.{drop_all, take_all, get_or_append_left, get_or_push, get_or-set_same, get_or-set_other, length_push, map-id, get_or_read, map-append, length-map, drop-append-le, append_cancel_left}
pub use Rattle.std.proofs.lemmas.List.Elements.{All-nil, All-push}
pub use Rattle.tallies.specs.Tallies.{TallyState}
pub use Rattle.inbox.specs.Rules.{ALL_PARTS}
pub use Rattle.inbox.specs.States.{PassState, IsKeptBy, new_pass, after_put}
pub use Rattle.inbox.specs.declared.rule.Job.{Job}
pub use Rattle.session_lines.specs.States.{State, new_state, state_with_tally, jobs_out}
pub use Rattle.session_lines.specs.declared.session.Slot.{Slot}
pub use Rattle.session_serving.specs.Faults.{Failures, Explains, sends_all}
pub use Rattle.session_serving.specs.declared.fault.SessionFault.{SessionFault}
pub use Rattle.session_serving.specs.declared.fault.SessionFault.TheVariants.{Port}
pub use Rattle.session_lanes.specs.Ends.{Streams, streams_of, end_of, HasEnded, HasEndedBehind, IsServed, IsServedNext}
pub use Rattle.session_lanes.specs.Lanes.{LaneState, EachAt, EachPair, of_lane, HandsOut, TakesBack, EachLane, new_lane, sessions_of, lane_capacity, IsPassOf}
pub use Rattle.session_lanes.specs.declared.ends.Served.{Served}
pub use Rattle.session_lanes.specs.declared.ends.SessionEnd.{SessionEnd}
pub use Rattle.session_lanes.specs.declared.ends.SessionEnd.TheVariants.{Fault, Complete}
pub use Rattle.session_lanes.specs.declared.ends.SessionStart.{SessionStart}
pub use Rattle.taf_messages.specs.declared.call.Call.{Call}
pub use Rattle.taf_messages.specs.declared.reply.Reply.{Reply}
pub use Rattle.tallies.specs.declared.fault.HubFault.{HubFault}
pub use Rattle.tallies.specs.declared.tally.Told.{Told}
pub use Rattle.session_lines.specs.declared.meaning.Meaning.{Meaning}
pub use Rattle.session_lines.specs.declared.meaning.Meaning.TheVariants.{Blank, Hello, Wrong, Calls}
pub use Rattle.session_lines.specs.declared.session.Done.{Done}
pub use Rattle.session_lines.specs.declared.session.Slot.TheVariants.{JobOut, HeldLine}
pub use Rattle.session_lines.specs.declared.session.Step.TheVariants.{Ended}
pub use Rattle.session_lines.specs.Meanings.{meaning, meaning_without_memory, is_answered}
pub use Rattle.session_lines.specs.Steps.{sound_step, after_sound, step_at, after_line, is_own, is_job_in_front, with_entry, with_answer, after_stranger, after_done, done_line, done_line_without_memory}
pub use Rattle.session_lines.specs.Runs.{Event, LineRead, LineReadWithoutMemory, DoneTaken, DoneTakenWithoutMemory, HeldLineTaken, Run, step_jobs, step_lines, run_with_line, run_with_done, after_event, run, new_run}
pub use Rattle.session_serving.specs.Advances.{ReadsWhileSound}
pub use Rattle.std.proofs.Math.Seq.{drop-length}
pub use Rattle.session_lanes.specs.Passes.{put_since, PutsOnly, PutsMore}
pub use Rattle.session_lines.specs.LockStep.{lock_step}
pub use Rattle.session_lines.specs.Tallies.{own_dones, answers_of, IsOwnTally}
pub use Rattle.session_lines.specs.Texts.{line_fault_text}
pub use Rattle.session_lines.specs.declared.fault.LineFault.TheVariants.{NoMemory}
pub use Rattle.session_lines.proofs.AnswerLemmas.{each_line_is_answered}
pub use Rattle.session_lines.proofs.EndedLemmas.{ended_in_step}
pub use Rattle.session_lines.proofs.TallyLemmas.{IsOwnTally-run, all_answered}
pub use Rattle.session_lanes.specs.Telling.{TellsOwnJobs}
