use Rattle.json_tokens.proofs.Common.{Some, None}
use Rattle.json_tokens.proofs.TapeFindLemmas.{item_taken, still_read}
use Rattle.json_tokens.proofs.tape.TapeItems.next.Goals as goal

pub invariant_of-self : goal.invariant_of-self
invariant_of-self c = record { read = still_read c.args.self.now.items c.next.new.self c.next.result c.args.self.now.read c.next.ensures.value c.next.ensures.stays }

pub invariant_of-result : goal.invariant_of-result
invariant_of-result c = record { read = (item_taken c.args.self.now.items c.next.new.self (Some c.in-Some.element) c.args.self.now.read c.in-Some.ensures.value).0 }

pub returns-in-Some : goal.returns-in-Some
returns-in-Some c = (item_taken c.args.self.now.items c.next.new.self (Some c.in-Some.element) c.args.self.now.read c.in-Some.ensures.value).2

pub returns-in-None : goal.returns-in-None
returns-in-None c = item_taken c.args.self.now.items c.next.new.self None c.args.self.now.read c.in-None.ensures.value
