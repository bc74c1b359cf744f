use Rattle.json_tokens.proofs.WritingLemmas.{key_text}
use Rattle.json_tokens.proofs.writer.Writer.key.Goals as goal

pub add-requires-clause-text : goal.add-requires-clause-text
add-requires-clause-text c = rw c.as_bytes.ensures.value (key_text c.args.name.now c.requires)
