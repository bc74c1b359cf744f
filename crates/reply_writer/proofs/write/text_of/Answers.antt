use Rattle.reply_writer.proofs.Common.{◌∙◌, refl, subst, AreSmall, text_after}
use Rattle.reply_writer.proofs.write.text_of.Goals as goal

pub returns-clause-text : goal.returns-clause-text
returns-clause-text g c =
    let made = c.new-out.ensures in
    text_after (g.T.Json.shape c.args.value.now) _ _ _ _ (c.into_vec.ensures ∙ c.into_inner.ensures.items) (c.put.ensures.before ∙ made.before ∙ c.new.ensures ∙ c.in_ok-with_capacity.ensures.items) (c.in_ok-put.ensures.ok ∙ rw made.tokens refl)

pub returns-clause-small : goal.returns-clause-small
returns-clause-small g c = subst AreSmall (c.in_ok-put.ensures.ok ∙ rw c.new-out.ensures.tokens refl) c.into_inner.ensures.small
