use Rattle.replay_numbers.proofs.Common.{◌∙◌, sym, ap, Some, is_some, option_map, bytes_eq, lookup, slice_get-map, texts}
use Rattle.replay_numbers.proofs.railways.is_at.Goals as goal

pub returns-in-Some-clause-at : goal.returns-in-Some-clause-at
returns-in-Some-clause-at c = λ same.
    let there = sym c.get_index.ensures.entry ∙ ap (option_map _) c.in-Some.is in
    slice_get-map (λ e. e.0) c.args.railways.now.entries c.args.place ∙ ap (option_map (λ e. e.0)) there
    ∙ ap (λ k. Some k) (texts.equal c.in-Some.found.now c.args.by (sym c.eq.ensures ∙ same))

pub returns-in-Some-clause-has : goal.returns-in-Some-clause-has
returns-in-Some-clause-has c = λ same.
    ap (λ r. is_some (lookup (bytes_eq r) c.args.railways.now.entries)) (sym (texts.equal c.in-Some.found.now c.args.by (sym c.eq.ensures ∙ same)))
    ∙ ap is_some c.in-Some.ensures.value
