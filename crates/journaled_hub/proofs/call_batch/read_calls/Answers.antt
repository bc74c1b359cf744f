use Rattle.std.proofs.Common.{◌≡◌, ◌++◌, [], ◌∷◌, drop, arith, ap, ◌∙◌, sym, subst, refl}
use Rattle.std.specs.Prelude.{fold, None, Some}
use Rattle.std.proofs.lemmas.List.Elements.{All-same, All-push}
use Rattle.reply_writer.specs.Laws.{IsCall}
use Rattle.journal.specs.Lines.{text_lines}
use Rattle.journal_lines.specs.CallLines.{call_sum, lines_after}
use Rattle.journal_lines.specs.declared.fault.LineFault.{LineFault}
use Rattle.journal_lines.specs.declared.fault.LineFault.TheVariants.{Memory}
use Rattle.journaled_hub.specs.CallBatches.{IsCallBatch}
use Rattle.journaled_hub.specs.declared.call_batch.CallBatch.{CallBatch}
use Rattle.journaled_hub.proofs.AheadLemmas.{one_line_more, one_sum_more}
use Rattle.journaled_hub.proofs.call_batch.read_calls.Goals as goal

pub lines-preserved : goal.lines-preserved
lines-preserved c =
    let i = c.lines.invariant in
    let n = c.in-Some.ensures in
    let text = c.args.text.now in
    let before = c.args.before in
    let call = c.in-Ok.read.0 in
    let own = c.in-Ok.read.1 in
    let line = c.in-Some.found.line.now in
    let calls = c.lines.calls.items in
    let more = c.push_back.new.self.items in
    let grown : more ≡ calls ++ call ∷ [] = c.in-Ok-push_back.ensures.items in
    record {
      within = n.order.1;
      lines = one_line_more before c.lines.sum own line calls more call i.sum c.in-Ok.ensures.sum grown (text_lines text) (text_lines (drop c.lines.from text)) (text_lines (drop c.in-Some.found.next text)) i.lines n.line c.in-Ok.ensures.text;
      sum = one_sum_more before c.lines.sum own line calls more call i.sum c.in-Ok.ensures.sum grown;
      limits = All-same IsCall more (calls ++ call ∷ []) grown (All-push IsCall calls call i.limits c.in-Ok.ensures.limits);
    }

-- no line is left
pub returns : goal.returns
returns c =
    let i = c.lines.invariant in
    let prior = lines_after c.args.before c.lines.calls.items in
    let batch : CallBatch = record { calls = c.lines.calls; sum = c.lines.sum; fault = None } in
    let is : IsCallBatch (text_lines c.args.text.now) c.args.before batch = record {
      left = [];
      lines_are = i.lines ∙ ap (λ l. prior ++ l) c.in_default.ensures.none;
      sum = i.sum;
      limits = i.limits;
      is_left = refl;
    } in
    subst (IsCallBatch (text_lines c.args.text.now) c.args.before) (sym c.batch_of-2.ensures) is

-- the next line is not taken
pub returns-in-Err : goal.returns-in-Err
returns-in-Err c =
    let i = c.lines.invariant in
    let text = c.args.text.now in
    let batch : CallBatch = record { calls = c.lines.calls; sum = c.lines.sum; fault = Some c.in-Err.fault } in
    let is : IsCallBatch (text_lines text) c.args.before batch = record {
      left = text_lines (drop c.lines.from text);
      lines_are = i.lines;
      sum = i.sum;
      limits = i.limits;
      is_left = record { line = c.in-Some.found.line.now; rest = text_lines (drop c.in-Some.found.next text); split = c.in-Some.ensures.line; is = c.in-Err.ensures.fault };
    } in
    subst (IsCallBatch (text_lines text) c.args.before) (sym c.batch_of.ensures) is

-- memory was refused for the list
pub returns-in_default-push_back : goal.returns-in_default-push_back
returns-in_default-push_back c =
    let i = c.lines.invariant in
    let text = c.args.text.now in
    let before = c.args.before in
    let calls = c.push_back.new.self in
    let same : calls.items ≡ c.lines.calls.items = c.in_default-push_back.ensures.items in
    let rest = text_lines (drop c.lines.from text) in
    let batch : CallBatch = record { calls = calls; sum = c.lines.sum; fault = Some Memory } in
    let is : IsCallBatch (text_lines text) before batch = record {
      left = rest;
      lines_are = i.lines ∙ ap (λ l. lines_after before l ++ rest) (sym same);
      sum = i.sum ∙ ap (λ l. fold call_sum before l) (sym same);
      limits = All-same IsCall calls.items c.lines.calls.items same i.limits;
      is_left = record { line = c.in-Some.found.line.now; rest = text_lines (drop c.in-Some.found.next text); split = c.in-Some.ensures.line; is = tt };
    } in
    subst (IsCallBatch (text_lines text) before) (sym c.batch_of-in_default-push_back.ensures) is
