use Rattle.hub_tables.proofs.Common.{◌∙◌, sym, ap, subst, option_copied_mut, slice_get, keys_of, List, Event, without_newest, IsStateBefore, TableEntries, events_in, table_state, with_journey}
use Rattle.hub_tables.proofs.EntryLemmas.{there, known_there, entries_there, begun_beside}
use Rattle.hub_tables.proofs.tables.Tables.take_back_one.Goals as goal

pub take_back-requires : goal.take_back-requires
take_back-requires c =
    let position = ap (λ (t : TableEntries). slice_get (keys_of t.wagons) c.args.change.position) c.self.view_is ∙ c.requires.position_is in
    let value = sym c.get_index_mut.ensures.value ∙ ap option_copied_mut c.in-Some.is in
    let same = sym (ap (λ (t : TableEntries). events_in t.wagons c.args.change.wagon) c.self.view_is) ∙ there c.self.inside.wagons _ _ _ c.get_index_mut.ensures.unique position value in
    subst (λ (es : List Event). IsStateBefore es c.args.change.before) same c.requires.before_is

pub returns : goal.returns
returns c =
    let position = ap (λ (t : TableEntries). slice_get (keys_of t.wagons) c.args.change.position) c.self.view_is ∙ c.requires.position_is in
    let value = sym c.get_index_mut.ensures.value ∙ ap option_copied_mut c.in-Some.is in
    known_there c.self.inside.wagons _ _ _ c.get_index_mut.ensures.unique position value c.take_back.new.self without_newest c.take_back.ensures _ _ c.self.inside.offers ∙
    ap (λ (t : TableEntries). with_journey (table_state t) c.args.change.wagon without_newest) c.self.view_is

pub invariant_of-self : goal.invariant_of-self
invariant_of-self c =
    let position = ap (λ (t : TableEntries). slice_get (keys_of t.wagons) c.args.change.position) c.self.view_is ∙ c.requires.position_is in
    let value = sym c.get_index_mut.ensures.value ∙ ap option_copied_mut c.in-Some.is in
    let unique = c.get_index_mut.ensures.unique in
    let same = sym (ap (λ (t : TableEntries). events_in t.wagons c.args.change.wagon) c.self.view_is) ∙ there c.self.inside.wagons _ _ _ unique position value in
    let before = subst (λ (es : List Event). IsStateBefore es c.args.change.before) same c.requires.before_is in
    entries_there c.self.inside.wagons _ _ _ unique position value c.take_back.new.self without_newest c.take_back.ensures c.self.invariant (begun_beside _ c.args.change.before before)
