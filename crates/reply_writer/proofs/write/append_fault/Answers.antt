use Rattle.reply_writer.proofs.Common.{on_ok_weaker, fault_data, read_small}
use Rattle.reply_writer.proofs.ShapeLemmas.{fault_ordered}
use Rattle.reply_writer.proofs.write.append_fault.Goals as goal

pub returns-clause-read_back : goal.returns-clause-read_back
returns-clause-read_back c = on_ok_weaker c.append.result (read_small (fault_data c.args.fault.now) (fault_ordered 126 c.args.fault.now)) c.append.ensures.small
