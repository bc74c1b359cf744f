-- What the proofs of this crate have in common: the names of other crates, of the standard library and of its own definitions.
pub use Rattle.std.specs.Io.KnownBytes.{Appends, Keeps, Consumes}
pub use Rattle.std.specs.List.{count_by, slice_range, All}
pub use Rattle.std.specs.Prelude.{IfErr, IsErr, option_to_list}
pub use Rattle.std.proofs.Common.{◌≡◌, ℕ, ◌+◌, nat_lt, true, false, cond, List, [], ◌∷◌, ◌++◌, length, length-append, arith, codes, refl, subst, ap, ◌∙◌, ◌-◌, ◌<◌, ◌≤◌, ◌==◌, Bool, get_or, take, drop, map, sym, append_assoc, append-nil, length-drop, ◌^◌, Option, Result, Ok, Err, OnOk, OnErr, Some, None, take-append-drop, ◌*◌}
pub use Rattle.std.proofs.Math.Seq.{take-add}
pub use Rattle.std.proofs.lemmas.Bool.{lt-ltb, false≢true}
pub use Rattle.std.proofs.lemmas.Grind.{common_steps}
pub use Rattle.std.proofs.lemmas.List.{drop-drop, drop-take, drop_all, length-take-le, take_all}
pub use Rattle.std.proofs.lemmas.List.Elements.{All-same, All-tail, All-push}
pub use Rattle.std.proofs.lemmas.List.Folds.{drop_split}
pub use Rattle.std.proofs.lemmas.List.Sums.{sum_by-cons, fold-append}
pub use Rattle.taf_messages.specs.declared.call.Call.{Call}
pub use Rattle.taf_messages.specs.declared.reply.Reply.{Reply}
pub use Rattle.call_lines.specs.Lines.{fault_text, has_no_newline, reply_text, IsNotMemory}
unfoldable pub use Rattle.call_lines.specs.Lines.{parsed_line}
pub use Rattle.call_lines.specs.declared.parsed.ParsedLine.{ParsedLine}
pub use Rattle.call_lines.specs.declared.parsed.ParsedLine.TheVariants.{Blank, TooLong, Fault, Called}
pub use Rattle.call_lines.proofs.LineLemmas.{not_newline, rest_unbroken, line_split, too_long}
pub use Rattle.hub_model.specs.declared.entry.Entry.{Entry}
pub use Rattle.hub_replay.specs.Batches.{IsBatch}
pub use Rattle.hub_replay.specs.Lines.{parsed_lines, onto_first, lines_of, after_newline, after_skipping, IsTaken, IsCut}
pub use Rattle.hub_replay.specs.Outcomes.{Outcome, outcome, is_answered, Answers, start_of, after, one_fault_more, one_call_more, IsStopped}
unfoldable pub use Rattle.hub_replay.specs.Outcomes.{with_fault_line, with_reply_line, entry_of}
pub use Rattle.hub_replay.specs.Running.{IsUnderway, Advances, StopsWithin, IsLateFault, ExplainsFault, Blames, RunState, AnswersLines, line_total}
pub use Rattle.hub_replay.specs.declared.batch.Batch.{Batch}
pub use Rattle.hub_replay.specs.declared.counts.Counts.{Counts}
pub use Rattle.hub_replay.specs.declared.fault.RunFault.{RunFault}
pub use Rattle.hub_replay.specs.declared.fault.RunFault.TheVariants.{Read, Write, NoEnd, Memory}
pub use Rattle.hub_replay.specs.declared.output.Output.{Output}
