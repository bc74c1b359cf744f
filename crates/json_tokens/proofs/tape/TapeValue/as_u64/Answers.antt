use Rattle.json_tokens.proofs.Common.{Some, None, ◌∙◌}
use Rattle.json_tokens.proofs.TapeFindLemmas.{number_found}
use Rattle.json_tokens.proofs.tape.TapeValue.as_u64.Goals as goal

pub returns-in-Some : goal.returns-in-Some
returns-in-Some c = c.whole.ensures.exact ∙ number_found c.args.self.now.element (Some c.in-Some.digits.now) c.args.self.now.read c.in-Some.ensures

pub returns-in-None : goal.returns-in-None
returns-in-None c = number_found c.args.self.now.element None c.args.self.now.read c.in-None.ensures
