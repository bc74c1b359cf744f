use Rattle.reply_writer.proofs.Common.{item_fields}
use Rattle.reply_writer.proofs.put_reply.ItemObject.put_members.Goals as goal

pub returns-in_ok-put_text-in-Notice-clause-ok : goal.returns-in_ok-put_text-in-Notice-clause-ok
unfolding item_fields
returns-in_ok-put_text-in-Notice-clause-ok c =
    rw c.in-Notice.is (cc (c.in_ok-put_field-in-Notice.ensures.ok, c.in_ok-put_field-in-Notice-2.ensures.ok, c.in_ok-put_text-in-Notice.ensures.ok))

pub returns-in_ok-put_field-in-Eta-3-clause-ok : goal.returns-in_ok-put_field-in-Eta-3-clause-ok
unfolding item_fields
returns-in_ok-put_field-in-Eta-3-clause-ok c =
    rw c.in-Eta.is (cc (c.in_ok-put_field-in-Eta.ensures.ok, c.in_ok-put_field-in-Eta-2.ensures.ok, c.in_ok-put_text-in-Eta.ensures.ok, c.in_ok-put_field-in-Eta-3.ensures.ok))

pub returns-in_ok-put_field-in-AlertBegins-3-clause-ok : goal.returns-in_ok-put_field-in-AlertBegins-3-clause-ok
unfolding item_fields
returns-in_ok-put_field-in-AlertBegins-3-clause-ok c =
    rw c.in-AlertBegins.is (cc (c.in_ok-put_field-in-AlertBegins.ensures.ok, c.in_ok-put_field-in-AlertBegins-2.ensures.ok, c.in_ok-put_text-in-AlertBegins.ensures.ok, c.in_ok-put_field-in-AlertBegins-3.ensures.ok))

pub returns-in_ok-put_field-in-AlertEnds-2-clause-ok : goal.returns-in_ok-put_field-in-AlertEnds-2-clause-ok
unfolding item_fields
returns-in_ok-put_field-in-AlertEnds-2-clause-ok c =
    rw c.in-AlertEnds.is (cc (c.in_ok-put_field-in-AlertEnds.ensures.ok, c.in_ok-put_text-in-AlertEnds.ensures.ok, c.in_ok-put_field-in-AlertEnds-2.ensures.ok))
