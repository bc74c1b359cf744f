use Rattle.json_tokens.proofs.Common.{Some, None}
use Rattle.json_tokens.proofs.TapeFindLemmas.{member_found}
use Rattle.json_tokens.proofs.tape.TapeValue.get.Goals as goal

pub invariant_of-result : goal.invariant_of-result
invariant_of-result c = record { read = (member_found c.args.self.now.element c.args.name.now (Some c.in-Some.element) c.args.self.now.read c.in-Some.ensures).0 }

pub returns-in-Some : goal.returns-in-Some
returns-in-Some c = (member_found c.args.self.now.element c.args.name.now (Some c.in-Some.element) c.args.self.now.read c.in-Some.ensures).1

pub returns-in-None : goal.returns-in-None
returns-in-None c = member_found c.args.self.now.element c.args.name.now None c.args.self.now.read c.in-None.ensures
