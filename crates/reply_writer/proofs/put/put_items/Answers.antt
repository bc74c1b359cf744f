use Rattle.reply_writer.proofs.Common.{take, ◌∙◌, map, adds_item, taken}
use Rattle.reply_writer.proofs.put.put_items.Goals as goal

pub loop-item-preserved : goal.loop-item-preserved
loop-item-preserved g c = record {
  so_far = rw (taken g.T.Json.shape c.args.items.now c.loop-item.item-index c.item-item.result c.loop-item-test.true c.item-item.is)
      (adds_item c.args.out.now c.loop-item.out c.put.new.out (map g.T.Json.shape (take c.loop-item.item-index c.args.items.now)) (g.T.Json.shape c.item-item.result) c.loop-item.invariant.so_far c.in_ok-put.ensures.ok);
  before = c.put.ensures.before ∙ c.loop-item.invariant.before;
}
