use Rattle.reply_writer.proofs.Common.{record_data, read_result}
use Rattle.reply_writer.proofs.ShapeLemmas.{record_ordered}
use Rattle.reply_writer.proofs.write.write_record.Goals as goal

pub returns-clause-read_back : goal.returns-clause-read_back
returns-clause-read_back c = read_result c.text_of.result (λ text. text.items) (record_data c.args.shown.now) (record_ordered 124 c.args.shown.now) c.text_of.ensures.text c.text_of.ensures.small
