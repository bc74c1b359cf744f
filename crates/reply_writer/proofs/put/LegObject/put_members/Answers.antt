use Rattle.reply_writer.proofs.Common.{leg_fields}
use Rattle.reply_writer.proofs.put.LegObject.put_members.Goals as goal

pub returns-clause-ok : goal.returns-clause-ok
unfolding leg_fields
returns-clause-ok c = cc (c.in_ok-put_field.ensures.ok, c.in_ok-put_field-2.ensures.ok, c.in_ok-put_field-3.ensures.ok, c.in_ok-put_field-4.ensures.ok)
