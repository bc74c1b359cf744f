use Rattle.json_tokens.proofs.Common.{◌∙◌}
use Rattle.json_tokens.proofs.TapeFindLemmas.{object_found}
use Rattle.json_tokens.proofs.tape.TapeValue.is_object.Goals as goal

pub returns : goal.returns
returns c = c.is_some.ensures ∙ object_found c.args.self.now.element c.members.result c.args.self.now.read c.members.ensures
