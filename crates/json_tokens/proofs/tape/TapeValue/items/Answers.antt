use Rattle.json_tokens.proofs.Common.{Some, None}
use Rattle.json_tokens.proofs.TapeFindLemmas.{items_found}
use Rattle.json_tokens.proofs.tape.TapeValue.items.Goals as goal

pub invariant_of-result : goal.invariant_of-result
invariant_of-result c = record { read = (items_found c.args.self.now.element (Some c.in-Some.items) c.args.self.now.read c.in-Some.ensures).0 }

pub returns-in-Some : goal.returns-in-Some
returns-in-Some c = (items_found c.args.self.now.element (Some c.in-Some.items) c.args.self.now.read c.in-Some.ensures).1

pub returns-in-None : goal.returns-in-None
returns-in-None c = items_found c.args.self.now.element None c.args.self.now.read c.in-None.ensures
