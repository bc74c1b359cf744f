use Rattle.reply_writer.proofs.Common.{eti_fields}
use Rattle.reply_writer.proofs.put_reply.put_eti.Goals as goal

pub returns-clause-ok : goal.returns-clause-ok
unfolding eti_fields
returns-clause-ok c = cc (c.in_ok-put_field.ensures.ok, c.in_ok-put_field-2.ensures.ok, c.in_ok-put_field-3.ensures.ok, c.in_ok-put_text.ensures.ok, c.in_ok-put_field-4.ensures.ok)
