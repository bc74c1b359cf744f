use Rattle.json_tokens.proofs.TapeFindLemmas.{text_found}
use Rattle.json_tokens.proofs.tape.TapeValue.as_str.Goals as goal

pub returns : goal.returns
returns c = text_found c.args.self.now.element _ c.args.self.now.read c.as_str.ensures
