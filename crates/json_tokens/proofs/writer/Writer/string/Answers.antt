use Rattle.json_tokens.proofs.WritingLemmas.{quoted_text}
use Rattle.json_tokens.proofs.writer.Writer.string.Goals as goal

pub add-requires-clause-text : goal.add-requires-clause-text
add-requires-clause-text c = rw c.as_bytes.ensures.value (quoted_text c.args.text.now c.requires)
