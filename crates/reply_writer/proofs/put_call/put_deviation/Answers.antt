use Rattle.reply_writer.specs.CallShapes.{deviation_fields}
use Rattle.reply_writer.proofs.put_call.put_deviation.Goals as goal

pub returns-clause-ok : goal.returns-clause-ok
unfolding deviation_fields
returns-clause-ok c = cc (c.in_ok-put_field.ensures.ok, c.in_ok-put_field-2.ensures.ok, c.in_ok-put_text.ensures.ok)
