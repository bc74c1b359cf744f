use Rattle.reply_writer.proofs.Common.{fleet_legs_data, read_result}
use Rattle.reply_writer.proofs.ShapeLemmas.{fleet_legs_ordered}
use Rattle.reply_writer.proofs.legs.write_fleet_legs.Goals as goal

pub returns-clause-read_back : goal.returns-clause-read_back
returns-clause-read_back c = read_result c.text_of.result (λ text. text.items) (fleet_legs_data c.args.fleet.now) (fleet_legs_ordered 122 c.args.fleet.now) c.text_of.ensures.text c.text_of.ensures.small
