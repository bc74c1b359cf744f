use Rattle.session_lines.proofs.AnswerLemmas.{each_line_is_answered}
use Rattle.session_lines.proofs.law.each_line_is_answered.Goals as goal

pub returns : goal.returns
returns c = each_line_is_answered
