use Rattle.session_serving.proofs.Common.{rules, arith, refl}
use Rattle.session_serving.proofs.CutLemmas.{found-line, found-none}
use Rattle.session_serving.proofs.lines.next_line.Goals as goal

pub returns-in-Some-clause-cut : goal.returns-in-Some-clause-cut
returns-in-Some-clause-cut c = found-line c.args.line.now.items c.args.chunk.now _ c.keep.new.line.items c.args.from c.in-Some.end c.in-Some.ensures.0 c.in-Some.ensures.1 c.in-Some.ensures.2 c.in-Some.ensures.3 (search (arith, rules)) refl c.keep.ensures.items

pub returns-in-None-clause-cut : goal.returns-in-None-clause-cut
returns-in-None-clause-cut c = found-none c.args.line.now.items c.args.chunk.now _ c.keep-in-None.new.line.items c.args.from c.requires.order c.in-None.ensures (search (arith, rules)) refl c.keep-in-None.ensures.items
