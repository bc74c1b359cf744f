use Rattle.serde_json.specs.Read.{read}
use Rattle.reply_writer.proofs.CallLemmas.{call_text_is_read}
use Rattle.reply_writer.proofs.CallKeptLemmas.{call_kept}
use Rattle.reply_writer.proofs.laws.calls_are_read_back.Goals as goal

pub returns : goal.returns
returns c = record { text = call_text_is_read; kept = λ text. call_kept (read text) }
