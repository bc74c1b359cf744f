use Rattle.reply_writer.proofs.Common.{fault_fields}
use Rattle.reply_writer.proofs.put_reply.RecordFaultObject.put_members.Goals as goal

pub returns-in-BadJson-clause-ok : goal.returns-in-BadJson-clause-ok
unfolding fault_fields
returns-in-BadJson-clause-ok c = rw c.in-BadJson.is c.put_text.ensures.ok

pub returns-in_ok-put_field-in-MissingField-clause-ok : goal.returns-in_ok-put_field-in-MissingField-clause-ok
unfolding fault_fields
returns-in_ok-put_field-in-MissingField-clause-ok c =
    rw c.in-MissingField.is (cc (c.in_ok-put_text-in-MissingField.ensures.ok, c.in_ok-put_field-in-MissingField.ensures.ok))
