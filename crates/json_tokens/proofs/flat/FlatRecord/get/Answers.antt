use Rattle.json_tokens.proofs.Common.{ap, option_map, ◌∙◌, last_under, scalar_data}
use Rattle.json_tokens.proofs.FlatLemmas.{flat_get}
use Rattle.json_tokens.proofs.flat.FlatRecord.get.Goals as goal

pub returns : goal.returns
returns c =
    ap (option_map scalar_data) (c.last_of.ensures ∙ ap (last_under c.args.name.now) c.as_slice.ensures.value) ∙ flat_get c.args.name.now c.args.self.now.members.items
