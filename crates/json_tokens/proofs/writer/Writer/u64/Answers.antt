use Rattle.json_tokens.proofs.Common.{true, append-nil, arith, ◌∷◌, [], ◌++◌, refl, sym, ap, ◌∙◌, Token, decimal}
use Rattle.json_tokens.proofs.WritingLemmas.{pushed, pushed_tokens, pushed_before, printable, small, comma_before_number}
use Rattle.json_tokens.proofs.DigitLemmas.{twenty_digits}
use Rattle.json_tokens.specs.Writing.{CanBePut}
use Rattle.json_tokens.proofs.writer.Writer.u64.Goals as goal

pub put_number-requires : goal.put_number-requires
put_number-requires c = omega (arith, c.in_ok-reserve.ensures.ready, twenty_digits c.args.number c.ranges.number.fits)

pub invariant_of-self-2 : goal.invariant_of-self-2
invariant_of-self-2 c =
    let w = c.self.inside in
    let text = decimal c.args.number in
    let t = Token.number text in
    let can : CanBePut t = (c.args.number, c.ranges.number.fits, refl) in
    let made = c.put_number.ensures ∙ (λ i. c.in_ok-reserve.ensures.items i ++ (sym (comma_before_number w.after_value text) i ++ append-nil text i)) in
    pushed w _ c.self.invariant t (printable t can) (small t can) refl refl made

pub returns : goal.returns
returns c =
    let w = c.self.inside in
    let v = record w { out = c.put_number.new.self; after_value = true } in
    let text = decimal c.args.number in
    let t = Token.number text in
    let can : CanBePut t = (c.args.number, c.ranges.number.fits, refl) in
    let made = c.put_number.ensures ∙ (λ i. c.in_ok-reserve.ensures.items i ++ (sym (comma_before_number w.after_value text) i ++ append-nil text i)) in
    record {
      ok = pushed_tokens w v c.self.invariant t (printable t can) (small t can) refl refl made
          ∙ ap (λ s. s.tokens ++ t ∷ []) c.self.view_is;
      err = tt;
      before = pushed_before w v c.self.invariant t (printable t can) (small t can) refl refl made
          ∙ ap (λ s. s.before) c.self.view_is;
    }
