use Rattle.reply_writer.proofs.Common.{◌≡◌, true, sym, subst, is_plain}
use Rattle.reply_writer.proofs.PlainTextLemmas.{moment_is_plain}
use Rattle.reply_writer.proofs.put.MomentJson.put.Goals as goal

pub string-requires : goal.string-requires
string-requires c = subst (λ text. is_plain text ≡ true) (sym c.as_str.ensures) (moment_is_plain c.text.result c.args.self.now c.text.ensures.read)
