use Rattle.reply_writer.proofs.Common.{ap, ◌∙◌, read, compact_text, IsMessage, IsReadAs, call_read, message_data, Message, read-compact_text, read_kept}
use Rattle.taf_messages.specs.declared.call.Call.TheVariants as calls
use Rattle.reply_writer.proofs.MessageLemmas.{message_read}
use Rattle.reply_writer.proofs.ShapeLemmas.{message_ordered}
use Rattle.reply_writer.proofs.SpeltLemmas.{message_spelt}
use Rattle.reply_writer.proofs.Utf8Lemmas.{small-HasTexts, utf8-compact_text}
use Rattle.reply_writer.proofs.laws.messages_are_read_back.Goals as goal

text_read : (m : Message) → IsMessage m → IsReadAs (compact_text (message_data m)) (calls.Send m)
text_read m h =
    let d = message_data m in
    let spelt = message_spelt m h in
    (utf8-compact_text d spelt, ap call_read (read-compact_text d (message_ordered 124 m) (small-HasTexts d spelt)) ∙ message_read m h)

pub returns : goal.returns
returns c = record {
  tree = message_read;
  text = text_read;
  kept = λ text. read_kept (read text);
  notice = λ text m h. text_read m (read_kept (read text) m h);
}
