-- What the proofs of this crate have in common: the names of other crates, of the standard library and of its own definitions.
pub use Rattle.std.specs.Str.{is_utf8, IsUtf8}
pub use Rattle.std.proofs.Common.{◌≡◌, inl, inr, ℕ, ◌+◌, ◌<◌, ◌≤◌, Bool, true, false, cond, List, [], ◌∷◌, ◌++◌, None, length, refl, ap, sym, ◌∙◌, subst, arith, Some, ◌-◌, ◌==◌, ◌&&◌, Option, append_assoc, length-append, rules, tests, nat_lt, not, ◌||◌, ◌≢◌, ◌⊎◌, slice_get, bytes_eq, Result, Ok, Err}
pub use Rattle.std.proofs.lemmas.Bool.{false≢true}
pub use Rattle.std.specs.List.{All}
pub use Rattle.std.proofs.lemmas.List.Elements.{All-head, All-tail}
pub use Rattle.std.proofs.lemmas.List.Sums.{fold-append, sum_by-append, sum_by-cons}
pub use Rattle.std.proofs.lemmas.Str.{IsUtf8-from_is_utf8, is_utf8-from_IsUtf8}
pub use Rattle.serde_json.specs.Data.{Data}
pub use Rattle.taf_codes.specs.declared.code.Railway.{Railway}
pub use Rattle.taf_messages.specs.declared.call.Call.{Call}
pub use Rattle.taf_messages.specs.declared.fault.RecordFault.{RecordFault}
pub use Rattle.taf_messages.specs.declared.reply.Reply.{Reply}
pub use Rattle.tallies.specs.declared.fault.HubFault.{HubFault}
pub use Rattle.tallies.specs.declared.tally.Told.{Told}
pub use Rattle.inbox.specs.declared.rule.Job.{Job}
pub use Rattle.call_lines.specs.Lines.{is_blank, call_in, parsed_as}
unfoldable pub use Rattle.call_lines.specs.Lines.{parsed_line}
pub use Rattle.session_lines.specs.LockStep.{Transcript, Answers, lock_step, transcript_after, new_transcript}
pub use Rattle.session_lines.specs.Law.{EachLineIsAnswered}
pub use Rattle.session_lines.specs.Meanings.{meaning, meaning_without_memory, is_answered, sender_of, meaning_after_hello, is_hello, hello_meaning, first_record_meaning, first_json_meaning, text_meaning}
unfoldable pub use Rattle.session_lines.specs.Meanings.{json_of_line, meaning_by_length}
pub use Rattle.session_lines.specs.Runs.{Event, LineRead, LineReadWithoutMemory, DoneTaken, DoneTakenWithoutMemory, HeldLineTaken, Run, run_with_line, after_event, new_run, run, oldest_index, HasOwnDones, slot_lines, tally_with_slots, completed_transcript, step_lines, step_jobs, optional_line, run_with_done, run_of}
pub use Rattle.session_lines.specs.States.{State, new_state, jobs_out}
pub use Rattle.session_lines.specs.Steps.{step_at, sound_step, after_sound, TakesAs, TakesLine, is_own, is_job_in_front, with_answer, after_done, after_stranger, front_line, slots_with, step_with, saying_step, after_saying, with_job, done_line, slots_after_front, with_entry, job, done_line_without_memory}
pub use Rattle.session_lines.specs.Tallies.{own_done, own_done_in, own_dones, tally_with, AreJobsFrom, AreDonesFrom, IsOwnTally, answer_of, answers_of}
pub use Rattle.session_lines.specs.Texts.{hello_text, answer_text, answer_text_without_memory, line_fault_text}
pub use Rattle.session_lines.specs.declared.fault.LineFault.TheVariants.{Stranger, NoMemory, LineTooLong, WrongSender, NoHello}
pub use Rattle.session_lines.specs.declared.meaning.Meaning.{Meaning}
pub use Rattle.session_lines.specs.declared.meaning.Meaning.TheVariants.{Blank, Hello, Wrong, Calls}
pub use Rattle.session_lines.specs.declared.session.Done.{Done}
pub use Rattle.session_lines.specs.declared.session.Slot.{Slot}
pub use Rattle.session_lines.specs.declared.session.Slot.TheVariants.{JobOut, HeldLine}
pub use Rattle.session_lines.specs.declared.session.Step.{Step}
pub use Rattle.session_lines.specs.declared.session.Step.TheVariants.{Nothing, Say, Held, Ask, Ended}
