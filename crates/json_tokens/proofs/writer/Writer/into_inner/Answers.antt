use Rattle.json_tokens.proofs.Common.{◌≡◌, ◌++◌, sym, ap, ◌∙◌, subst, take, take-append-drop, print, AreSmall}
use Rattle.json_tokens.proofs.WritingLemmas.{shows_printed}
use Rattle.json_tokens.proofs.writer.Writer.into_inner.Goals as goal

pub returns-clause-items : goal.returns-clause-items
returns-clause-items c =
    let w = c.self.inside in
    let h = c.self.invariant in
    let printed : h.printed ≡ c.args.self.tokens = sym (shows_printed w h) ∙ ap (λ v. v.tokens) c.self.view_is in
    sym (take-append-drop w.start w.out.items) ∙ ap (λ l. take w.start w.out.items ++ l) h.text ∙ (λ i. (c.self.view_is i).before ++ print (printed i))

pub returns-clause-small : goal.returns-clause-small
returns-clause-small c =
    let h = c.self.invariant in
    subst AreSmall (sym (shows_printed c.self.inside h) ∙ ap (λ v. v.tokens) c.self.view_is) h.small
