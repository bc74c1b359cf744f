use Rattle.reply_writer.proofs.Common.{on_ok_weaker, adds_object}
use Rattle.reply_writer.proofs.put.put_object.Goals as goal

pub returns-clause-ok : goal.returns-clause-ok
returns-clause-ok g c =
    on_ok_weaker c.end_object.result (λ ok. adds_object c.args.out.now c.begin_object.new.self c.put_members.new.out c.end_object.new.self (g.T.Object.members c.args.object.now) c.in_ok-begin_object.ensures.ok c.in_ok-put_members.ensures.ok ok) c.end_object.ensures.ok
