use Rattle.std.proofs.Common.{◌≡◌, take, map, string_bytes}
use Rattle.wimo_report.specs.Report.{line_of}
use Rattle.wimo_report.proofs.report.lines_of.Given as goal

abbrev pub invariant-loop-shown : goal.invariant-loop-shown
invariant-loop-shown l = map string_bytes l.lines.items ≡ map line_of (take l.shown-index l.records)
