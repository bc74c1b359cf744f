use Rattle.reply_writer.proofs.Common.{first_plan_fields, last_plan_fields, adds_more}
use Rattle.reply_writer.proofs.put_message.put_plan.Goals as goal

pub returns-clause-ok : goal.returns-clause-ok
returns-clause-ok c =
    adds_more c.args.out.now c.put_first_plan_fields.new.out c.put_last_plan_fields.new.out (first_plan_fields c.args.by c.args.plan.now) (last_plan_fields c.args.no c.args.plan.now)
    c.in_ok-put_first_plan_fields.ensures.ok c.in_ok-put_last_plan_fields.ensures.ok
