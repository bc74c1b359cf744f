use Rattle.json_tokens.proofs.Common.{◌∷◌, [], ◌++◌, cond, refl, ap, ◌∙◌, token_of}
use Rattle.json_tokens.proofs.WritingLemmas.{pushed, pushed_tokens, pushed_before, printable, small}
use Rattle.json_tokens.proofs.writer.Writer.add.Goals as goal

pub invariant_of-self : goal.invariant_of-self
invariant_of-self c =
    let w = c.self.inside in
    let t = token_of c.args.token in
    let made = c.in-Ok.ensures.ok ∙ (λ i. w.out.items ++ (cond (c.wants_comma-comma.ensures i) (44 ∷ []) [] ++ c.requires.text i)) in
    pushed w _ c.self.invariant t (printable t c.requires.can) (small t c.requires.can) refl c.ends-self-inside.ensures made

pub returns-in-Ok : goal.returns-in-Ok
returns-in-Ok c =
    let w = c.self.inside in
    let v = record w { out = c.put_parts.new.out; after_value = c.ends-self-inside.result } in
    let t = token_of c.args.token in
    let made = c.in-Ok.ensures.ok ∙ (λ i. w.out.items ++ (cond (c.wants_comma-comma.ensures i) (44 ∷ []) [] ++ c.requires.text i)) in
    record {
      ok = pushed_tokens w v c.self.invariant t (printable t c.requires.can) (small t c.requires.can) refl c.ends-self-inside.ensures made
          ∙ ap (λ s. s.tokens ++ t ∷ []) c.self.view_is;
      err = tt;
      before = pushed_before w v c.self.invariant t (printable t c.requires.can) (small t c.requires.can) refl c.ends-self-inside.ensures made
          ∙ ap (λ s. s.before) c.self.view_is;
    }
