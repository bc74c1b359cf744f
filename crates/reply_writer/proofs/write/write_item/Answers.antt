use Rattle.reply_writer.proofs.Common.{item_data, read_result}
use Rattle.reply_writer.proofs.ShapeLemmas.{item_ordered}
use Rattle.reply_writer.proofs.write.write_item.Goals as goal

pub returns-clause-read_back : goal.returns-clause-read_back
returns-clause-read_back c = read_result c.text_of.result (λ text. text.items) (item_data c.args.item.now) (item_ordered 123 c.args.item.now) c.text_of.ensures.text c.text_of.ensures.small
