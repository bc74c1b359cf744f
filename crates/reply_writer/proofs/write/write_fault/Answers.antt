use Rattle.reply_writer.proofs.Common.{fault_data, read_result}
use Rattle.reply_writer.proofs.ShapeLemmas.{fault_ordered}
use Rattle.reply_writer.proofs.write.write_fault.Goals as goal

pub returns-clause-read_back : goal.returns-clause-read_back
returns-clause-read_back c = read_result c.text_of.result (λ text. text.items) (fault_data c.args.fault.now) (fault_ordered 126 c.args.fault.now) c.text_of.ensures.text c.text_of.ensures.small
