use Rattle.reply_writer.proofs.Common.{middle_record_fields}
use Rattle.reply_writer.proofs.put_record.put_middle_fields.Goals as goal

pub returns-clause-ok : goal.returns-clause-ok
unfolding middle_record_fields
returns-clause-ok c = cc (c.in_ok-put_field.ensures.ok, c.in_ok-put_field-2.ensures.ok, c.in_ok-put_field-3.ensures.ok, c.in_ok-put_field-4.ensures.ok, c.in_ok-put_field-5.ensures.ok)
