use Rattle.reply_writer.proofs.Common.{reply_fields}
use Rattle.reply_writer.proofs.put_reply.ReplyObject.put_members.Goals as goal

pub returns-in_ok-put_text-in-Acknowledged-clause-ok : goal.returns-in_ok-put_text-in-Acknowledged-clause-ok
unfolding reply_fields
returns-in_ok-put_text-in-Acknowledged-clause-ok c =
    rw c.in-Acknowledged.is (cc (c.in_ok-put_field-in-Acknowledged.ensures.ok, c.in_ok-put_text-in-Acknowledged.ensures.ok))

pub returns-in_ok-put_text-in-One-clause-ok : goal.returns-in_ok-put_text-in-One-clause-ok
unfolding reply_fields
returns-in_ok-put_text-in-One-clause-ok c =
    rw c.in-One.is (cc (c.in_ok-put_field-in-One.ensures.ok, c.in_ok-put_text-in-One.ensures.ok))

pub returns-in_ok-put_text-in-Many-clause-ok : goal.returns-in_ok-put_text-in-Many-clause-ok
unfolding reply_fields
returns-in_ok-put_text-in-Many-clause-ok c =
    rw c.in-Many.is (cc (c.in_ok-put_field-in-Many.ensures.ok, c.in_ok-put_text-in-Many.ensures.ok))

pub returns-in_ok-put_text-in-Items-clause-ok : goal.returns-in_ok-put_text-in-Items-clause-ok
unfolding reply_fields
returns-in_ok-put_text-in-Items-clause-ok c =
    rw c.in-Items.is (cc (c.in_ok-put_field-in-Items.ensures.ok, c.in_ok-put_text-in-Items.ensures.ok))

pub returns-in_ok-put_text-in-Accepted-clause-ok : goal.returns-in_ok-put_text-in-Accepted-clause-ok
unfolding reply_fields
returns-in_ok-put_text-in-Accepted-clause-ok c =
    rw c.in-Accepted.is (cc (c.in_ok-put_field-in-Accepted.ensures.ok, c.in_ok-put_text-in-Accepted.ensures.ok))
