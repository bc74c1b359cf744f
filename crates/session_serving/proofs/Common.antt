-- What the proofs of this crate have in common: the names of other crates, of the standard library and of its own definitions.
pub use Rattle.std.specs.Io.KnownBytes.{Consumes, Keeps, IsAtEnd, Appends}
pub use Rattle.std.specs.List.{slice_range}
pub use Rattle.std.proofs.Common.{◌≡◌, ℕ, ◌+◌, ◌-◌, ◌<◌, ◌≤◌, Bool, true, false, cond, eqb, List, [], ◌∷◌, ◌++◌, length, take, drop, get_or, fold, refl, ap, sym, ◌∙◌, append_assoc, take_all, length-append, length-drop, take-append-drop, suc, zero, Some, None, arith, Option, Result, Ok, Err, is_ok, append-nil, subst, ◌⊎◌, inl, inr, rules, tests, length-take-le, vec_len, vec_capacity}
pub use Rattle.std.proofs.KnownBytes.{Consumes-nil, Consumes-trans, Consumes-kept, Appends-nil, Appends-trans}
pub use Rattle.std.proofs.Math.Seq.{take-add, take-append-add}
pub use Rattle.std.proofs.lemmas.Bool.{false≢true}
pub use Rattle.std.proofs.lemmas.List.{take_more, get_or-drop}
pub use Rattle.std.proofs.lemmas.List.Sums.{fold-append}
pub use Rattle.inbox.specs.declared.rule.Job.{Job}
pub use Rattle.call_lines.specs.Lines.{has_no_newline}
pub use Rattle.call_lines.proofs.LineLemmas.{not_newline, rest_unbroken}
pub use Rattle.session_lines.specs.Meanings.{meaning, meaning_without_memory}
pub use Rattle.session_lines.specs.Runs.{Event, LineRead, LineReadWithoutMemory, DoneTaken, DoneTakenWithoutMemory, HeldLineTaken, Run, run_with_line, run_with_done, after_event, new_run, run, step_jobs, step_lines, optional_line}
pub use Rattle.session_lines.specs.States.{State}
pub use Rattle.session_lines.specs.Steps.{step_at, TakesLine, is_job_in_front, done_line, done_line_without_memory, after_done, front_line, slots_after_front, after_front}
pub use Rattle.session_lines.specs.declared.meaning.Meaning.{Meaning}
pub use Rattle.session_lines.specs.declared.session.Done.{Done}
pub use Rattle.session_lines.specs.declared.session.Slot.{Slot}
pub use Rattle.session_lines.specs.declared.session.Slot.TheVariants.{JobOut, HeldLine}
pub use Rattle.session_lines.specs.declared.session.Step.{Step}
pub use Rattle.session_lines.proofs.EventLemmas.{after_done-kept, after_done-fewer, IsOneLine-line}
pub use Rattle.session_lines.proofs.LockStepLemmas.{append_nil}
pub use Rattle.session_serving.specs.Advances.{ReadsWhileSound, Advances, Discards}
pub use Rattle.session_serving.specs.Bytes.{Cut, max_kept, max_kept_is, add_byte, cut_after, CutsNext, text, whole_lines}
pub use Rattle.session_serving.specs.Faults.{Blames, FirstFails, writes_all, sends_all}
pub use Rattle.session_serving.specs.Output.{output_of, Writes, Output, Says, HasRoom, HaveRoom}
pub use Rattle.session_serving.specs.Serving.{Exchange, exchange_of, Serves, ServesFirst, StillServes, ReadsLines, Traffic, traffic_of, IsServed, Sends, IsReady}
pub use Rattle.session_serving.specs.declared.fault.SessionFault.{SessionFault}
pub use Rattle.session_serving.specs.declared.fault.SessionFault.TheVariants.{Read, Write, NoEnd, Port, Memory}
