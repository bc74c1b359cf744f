use Rattle.reply_writer.proofs.Common.{wagon_legs_data, read_result}
use Rattle.reply_writer.proofs.ShapeLemmas.{wagon_legs_ordered}
use Rattle.reply_writer.proofs.legs.write_wagon_legs.Goals as goal

pub returns-clause-read_back : goal.returns-clause-read_back
returns-clause-read_back c = read_result c.text_of.result (λ text. text.items) (wagon_legs_data c.args.shown.now) (wagon_legs_ordered 124 c.args.shown.now) c.text_of.ensures.text c.text_of.ensures.small
