use Rattle.std.proofs.Common.{ℕ, Some, true, false, ap, ◌∙◌, ◌++◌, ◌∷◌, [], if◌then◌else◌}
use Rattle.std.specs.Option.{option_map, option_map_or}
use Rattle.indexmap.proofs.CallerLemmas.{insert_entry-new}
use Rattle.taf_codes.specs.declared.code.Railway.{Railway}
use Rattle.replay_numbers.specs.Names.{same_name}
use Rattle.interchange.specs.declared.offer.OfferEntry.{OfferEntry}
use Rattle.interchange.specs.OfferTable.{offer_of, is_standing}
use Rattle.interchange.proofs.OfferTableLemmas.{none_made, offer_if, open_if}
use Rattle.interchange.proofs.offers.Offers.open_reserved.Goals as goal

pub returns-clause-offers : goal.returns-clause-offers
returns-clause-offers c =
    let name : Railway × ℕ = (c.args.offer.by, c.args.offer.no) in
    let entry : OfferEntry = record { offer = c.args.offer; is_open = true } in
    let added : (Railway × ℕ) × OfferEntry = (name, entry) in
    let none = none_made _ (ap (λ v. offer_of v c.args.offer.by c.args.offer.no) c.self.view_is ∙ c.requires.new) in
    let entries = rw c.unwrap-before.ensures at c.insert.ensures.entries in
    entries ∙ insert_entry-new (λ a b. same_name a.0 a.1 b.0 b.1) c.self.inside.table name entry none ∙ ap (λ v. v.offers ++ added ∷ []) c.self.view_is

pub returns-clause-finds : goal.returns-clause-finds
returns-clause-finds c by number =
    let offer = c.args.offer in
    let updates = rw c.unwrap-before.ensures at c.insert.ensures.updates in
    let e = updates.0 (by, number) in
    ap (option_map (λ entry. entry.offer)) e ∙ offer_if (same_name offer.by offer.no by number) offer true _ ∙ ap (λ v. if same_name offer.by offer.no by number then Some offer else offer_of v by number) c.self.view_is

pub returns-clause-opens : goal.returns-clause-opens
returns-clause-opens c by number =
    let offer = c.args.offer in
    let updates = rw c.unwrap-before.ensures at c.insert.ensures.updates in
    let e = updates.0 (by, number) in
    ap (λ entry. option_map_or (λ m. m.is_open) entry false) e ∙ open_if (same_name offer.by offer.no by number) offer true _ ∙ ap (λ v. if same_name offer.by offer.no by number then true else is_standing v by number) c.self.view_is
