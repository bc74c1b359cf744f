use Rattle.std.proofs.Common.{◌∙◌, ap, map, take_all}
use Rattle.wimo_report.specs.Report.{line_of}
use Rattle.wimo_report.proofs.report.lines_of.Goals as goal

pub returns : goal.returns
returns c = c.loop-shown.invariant ∙ ap (map line_of) (take_all c.loop-shown.shown-index c.args.records.now c.loop-shown-test.false)
