use Rattle.replay_numbers.proofs.Common.{◌∙◌, sym, ap, Some, option_map, lookup_key_same, bytes_eq-Decides, slice_get-map}
use Rattle.replay_numbers.proofs.railways.place_of.Goals as goal

pub returns-in-Some-clause-found : goal.returns-in-Some-clause-found
returns-in-Some-clause-found c =
    let railways = c.args.railways.now.entries in
    let key = lookup_key_same bytes_eq-Decides c.args.by railways _ (sym c.get_full.ensures.key ∙ ap (option_map _) c.in-Some.is) in
    slice_get-map (λ e. e.0) railways c.in-Some.place ∙ ap (option_map (λ e. e.0)) c.in-Some.ensures.entry ∙ ap (λ k. Some k) (sym key)
