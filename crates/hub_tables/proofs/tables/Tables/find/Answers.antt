use Rattle.hub_tables.proofs.Common.{◌∙◌, sym, ap, Some, option_map, slice_get, keys_of, lookup_key_same, Decides-eqb}
use Rattle.hub_tables.proofs.EntryLemmas.{key_at}
use Rattle.hub_tables.proofs.tables.Tables.find.Goals as goal

pub returns-in-Some-clause-position : goal.returns-in-Some-clause-position
returns-in-Some-clause-position c =
    let wagons = c.self.inside.wagons.entries in
    let key = lookup_key_same Decides-eqb c.args.wagon wagons _ (sym c.get_full.ensures.key ∙ ap (option_map _) c.in-Some.is) in
    ap (λ t. slice_get (keys_of t.wagons) c.in-Some.position) (sym c.self.view_is) ∙ key_at wagons c.in-Some.position _ c.in-Some.ensures.entry ∙ ap (λ k. Some k) (sym key)
