use Rattle.reply_writer.proofs.Common.{map, on_ok_weaker, adds_array}
use Rattle.reply_writer.proofs.put.RefSliceJson.put.Goals as goal

pub returns-clause-ok : goal.returns-clause-ok
returns-clause-ok g c =
    on_ok_weaker c.end_array.result (λ ok. adds_array c.args.out.now c.begin_array.new.self c.put_items.new.out c.end_array.new.self (map g.T.Json.shape c.args.self.now.now) c.in_ok-begin_array.ensures.ok c.in_ok-put_items.ensures.ok ok) c.end_array.ensures.ok
