use Rattle.std.proofs.Common.{refl}
use Rattle.journal.proofs.RunLemmas.{searched_none, searched_some}
use Rattle.journal.proofs.lines.next_newline.Goals as goal

pub returns-in-None : goal.returns-in-None
returns-in-None c = searched_none c.args.bytes.now _ c.args.from c.requires refl c.in-None.ensures

pub returns-in-Some : goal.returns-in-Some
returns-in-Some c = searched_some c.args.bytes.now _ c.args.from c.in-Some.at c.requires refl c.in-Some.ensures.0.high c.in-Some.ensures.1 c.in-Some.ensures.0.before
