use Rattle.std.proofs.Common.{◌≡◌, List, take, length, ap, sym, ◌∙◌}
use Rattle.std.proofs.Math.Seq.{take-append_seam}
use Rattle.hub_model.specs.declared.entry.Entry.{Entry}
use Rattle.hub_replay.specs.Lines.{parsed_lines}
use Rattle.journal_lines.specs.CallLines.{last_sum}
use Rattle.journaled_hub.specs.HistoryLines.{calls_of, lines_of_history}
use Rattle.journaled_hub.proofs.AnsweringLemmas.{answers_lead, history_goes_on, stopped_goes_on}
use Rattle.journaled_hub.proofs.journaled.JournaledHub.answer_lines.Goals as goal

-- what was in the history is noted
pub note_from-requires-clause-noted : goal.note_from-requires-clause-noted
note_from-requires-clause-noted g c =
    let old = c.args.self.now.hub in
    let ok = c.in-Ok.ensures.ok in
    let more = history_goes_on old (parsed_lines ok.0) c.run.new.hub ok.1 (answers_lead old ok.0 c.run.new.hub ok.1 c.in-Ok._counts ok.5) in
    let front : take c.len-from.result c.run.new.hub ≡ old = ap (λ n. take n c.run.new.hub) c.len-from.ensures.value ∙ (ap (take (length old)) more.1 ∙ take-append_seam old more.0) in
    record {
      on_disk = c.requires.on_disk;
      lines = λ sound. c.requires.lines sound ∙ ap lines_of_history (sym front);
      last = c.requires.last ∙ ap (λ (h : List Entry). last_sum (calls_of h)) (sym front);
    }

-- the history grows, wherever it ends
pub returns-in_default-clause-grows : goal.returns-in_default-clause-grows
returns-in_default-clause-grows g c =
    let e = c.in_default.ensures.err in
    stopped_goes_on c.args.self.now.hub (parsed_lines e.0) e.1 c.run.new.hub e.4

pub returns-clause-grows : goal.returns-clause-grows
returns-clause-grows g c =
    let old = c.args.self.now.hub in
    let ok = c.in-Ok.ensures.ok in
    let more = history_goes_on old (parsed_lines ok.0) c.run.new.hub ok.1 (answers_lead old ok.0 c.run.new.hub ok.1 c.in-Ok._counts ok.5) in
    (more.0, c.note_from.ensures.history ∙ more.1)

pub returns-in_err-note_from-clause-grows : goal.returns-in_err-note_from-clause-grows
returns-in_err-note_from-clause-grows g c =
    let old = c.args.self.now.hub in
    let ok = c.in-Ok.ensures.ok in
    let more = history_goes_on old (parsed_lines ok.0) c.run.new.hub ok.1 (answers_lead old ok.0 c.run.new.hub ok.1 c.in-Ok._counts ok.5) in
    (more.0, c.note_from.ensures.history ∙ more.1)
