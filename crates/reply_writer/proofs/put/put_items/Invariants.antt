use Rattle.reply_writer.proofs.Common.{◌≡◌, take, map, Adds, item_tokens}
use Rattle.reply_writer.proofs.put.put_items.Given as goal

abbrev pub invariant-loop-item : goal.invariant-loop-item
invariant-loop-item g l = record {
  so_far : Adds l.initial.out l.out (item_tokens (map g.T.Json.shape (take l.item-index l.items)));
  before : l.out.before ≡ l.initial.out.before;
}
