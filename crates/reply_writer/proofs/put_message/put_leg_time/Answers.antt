use Rattle.reply_writer.proofs.Common.{leg_time_fields}
use Rattle.reply_writer.proofs.put_message.put_leg_time.Goals as goal

pub returns-clause-ok : goal.returns-clause-ok
unfolding leg_time_fields
returns-clause-ok c = cc (c.in_ok-put_field.ensures.ok, c.in_ok-put_field-2.ensures.ok, c.in_ok-put_field-3.ensures.ok, c.in_ok-put_field-4.ensures.ok, c.in_ok-put_field-5.ensures.ok, c.in_ok-put_field-6.ensures.ok)
