use Rattle.reply_writer.proofs.Common.{◌∙◌, refl, subst, AreSmall, text_after}
use Rattle.reply_writer.proofs.write.append.Goals as goal

pub returns-in-Ok-clause-ok : goal.returns-in-Ok-clause-ok
returns-in-Ok-clause-ok g c =
    let made = c.new-writer.ensures in
    text_after (g.T.Json.shape c.args.value.now) _ _ _ _ c.into_inner.ensures.items (c.put-put.ensures.before ∙ made.before ∙ rw c.replace.ensures.value refl) (c.in-Ok.ensures.ok ∙ rw made.tokens refl)

pub returns-in-Ok-clause-small : goal.returns-in-Ok-clause-small
returns-in-Ok-clause-small g c = subst AreSmall (c.in-Ok.ensures.ok ∙ rw c.new-writer.ensures.tokens refl) c.into_inner.ensures.small
