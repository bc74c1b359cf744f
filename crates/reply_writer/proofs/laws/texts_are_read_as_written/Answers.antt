use Rattle.reply_writer.proofs.ShapeLemmas.{reply_ordered, item_ordered, record_ordered, fault_ordered}
use Rattle.reply_writer.proofs.Common.{read-compact_text, reply_data, item_data, fault_data, record_data}
use Rattle.reply_writer.proofs.laws.texts_are_read_as_written.Goals as goal

pub returns : goal.returns
returns c = record {
  reply = λ r. read-compact_text (reply_data r) (reply_ordered 121 r);
  item = λ i. read-compact_text (item_data i) (item_ordered 123 i);
  shown = λ r. read-compact_text (record_data r) (record_ordered 124 r);
  fault = λ f. read-compact_text (fault_data f) (fault_ordered 126 f);
}
