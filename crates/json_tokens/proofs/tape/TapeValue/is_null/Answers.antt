use Rattle.json_tokens.proofs.TapeFindLemmas.{null_found}
use Rattle.json_tokens.proofs.tape.TapeValue.is_null.Goals as goal

pub returns : goal.returns
returns c = null_found c.args.self.now.element c.is_null.result c.args.self.now.read c.is_null.ensures
