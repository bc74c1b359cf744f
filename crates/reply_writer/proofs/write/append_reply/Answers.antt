use Rattle.reply_writer.proofs.Common.{on_ok_weaker, reply_data, read_small}
use Rattle.reply_writer.proofs.ShapeLemmas.{reply_ordered}
use Rattle.reply_writer.proofs.write.append_reply.Goals as goal

pub returns-in_default-clause-read_back : goal.returns-in_default-clause-read_back
returns-in_default-clause-read_back c = on_ok_weaker c.append.result (read_small (reply_data c.args.reply.now) (reply_ordered 121 c.args.reply.now)) c.append.ensures.small
