use Rattle.reply_writer.proofs.Common.{◌∙◌, sym, body_fields}
use Rattle.reply_writer.proofs.put_message.MessageObject.put_members.Goals as goal

pub returns-in_ok-put_field-in-EtiAsk-4-clause-ok : goal.returns-in_ok-put_field-in-EtiAsk-4-clause-ok
unfolding body_fields
returns-in_ok-put_field-in-EtiAsk-4-clause-ok c =
    rw (sym c.body.ensures ∙ c.in-EtiAsk.is) (cc (c.in_ok-put_field-in-EtiAsk.ensures.ok, c.in_ok-put_field-in-EtiAsk-2.ensures.ok, c.in_ok-put_field-in-EtiAsk-3.ensures.ok, c.in_ok-put_field-in-EtiAsk-4.ensures.ok))

pub returns-in_ok-put_field-in-Withdraw-5-clause-ok : goal.returns-in_ok-put_field-in-Withdraw-5-clause-ok
unfolding body_fields
returns-in_ok-put_field-in-Withdraw-5-clause-ok c =
    rw (sym c.body.ensures ∙ c.in-Withdraw.is) (cc (c.in_ok-put_field-in-Withdraw.ensures.ok, c.in_ok-put_field-in-Withdraw-2.ensures.ok, c.in_ok-put_field-in-Withdraw-3.ensures.ok, c.in_ok-put_field-in-Withdraw-4.ensures.ok, c.in_ok-put_field-in-Withdraw-5.ensures.ok))

pub returns-in_ok-put_field-in-Reroute-5-clause-ok : goal.returns-in_ok-put_field-in-Reroute-5-clause-ok
unfolding body_fields
returns-in_ok-put_field-in-Reroute-5-clause-ok c =
    rw (sym c.body.ensures ∙ c.in-Reroute.is) (cc (c.in_ok-put_field-in-Reroute.ensures.ok, c.in_ok-put_field-in-Reroute-2.ensures.ok, c.in_ok-put_field-in-Reroute-3.ensures.ok, c.in_ok-put_field-in-Reroute-4.ensures.ok, c.in_ok-put_field-in-Reroute-5.ensures.ok))
