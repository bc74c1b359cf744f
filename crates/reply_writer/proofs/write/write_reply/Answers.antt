use Rattle.reply_writer.proofs.Common.{reply_data, read_result}
use Rattle.reply_writer.proofs.ShapeLemmas.{reply_ordered}
use Rattle.reply_writer.proofs.write.write_reply.Goals as goal

pub returns-clause-read_back : goal.returns-clause-read_back
returns-clause-read_back c = read_result c.text_of.result (λ text. text.items) (reply_data c.args.reply.now) (reply_ordered 121 c.args.reply.now) c.text_of.ensures.text c.text_of.ensures.small
