use Rattle.hub_tables.proofs.Common.{◌≡◌, true, None, ◌∙◌, ◌++◌, ◌∷◌, [], sym, ap, subst, option_copied_mut, slice_get, keys_of, List, Event, refusal, fits, TableEntries, events_in, table_state, with_journey}
use Rattle.hub_tables.proofs.EntryLemmas.{there, begun_there, known_there, kept_there, entries_there, still_begun}
use Rattle.hub_tables.proofs.tables.Tables.add.Goals as goal

pub add-requires : goal.add-requires
add-requires c =
    let e = c.args.event in
    let position = ap (λ (t : TableEntries). slice_get (keys_of t.wagons) c.args.position) c.self.view_is ∙ c.requires.position in
    let value = sym c.get_index_mut.ensures.value ∙ ap option_copied_mut c.in-Some.is in
    let same = sym (ap (λ (t : TableEntries). events_in t.wagons c.args.wagon) c.self.view_is) ∙ there c.self.inside.wagons _ _ _ c.get_index_mut.ensures.unique position value in
    record {
      admitted = subst (λ (es : List Event). refusal es e.by e.body ≡ None) same c.requires.admitted;
      fits = subst (λ (es : List Event). fits (es ++ e ∷ []) ≡ true) same c.requires.fits;
    }

-- where memory is refused, the journeys are as they were
pub returns-in_default-clause-err : goal.returns-in_default-clause-err
returns-in_default-clause-err c =
    let position = ap (λ (t : TableEntries). slice_get (keys_of t.wagons) c.args.position) c.self.view_is ∙ c.requires.position in
    let value = sym c.get_index_mut.ensures.value ∙ ap option_copied_mut c.in-Some.is in
    kept_there c.self.inside.wagons _ _ _ c.get_index_mut.ensures.unique position value c.add.new.self c.in_default.ensures.err _ _ c.self.inside.offers ∙ ap table_state c.self.view_is

pub invariant_of-self : goal.invariant_of-self
invariant_of-self c =
    let position = ap (λ (t : TableEntries). slice_get (keys_of t.wagons) c.args.position) c.self.view_is ∙ c.requires.position in
    let value = sym c.get_index_mut.ensures.value ∙ ap option_copied_mut c.in-Some.is in
    let unique = c.get_index_mut.ensures.unique in
    entries_there c.self.inside.wagons _ _ _ unique position value c.add.new.self (λ events. events) c.in_default.ensures.err c.self.invariant (begun_there c.self.inside.wagons _ _ _ unique position value c.self.invariant)

pub returns-clause-ok : goal.returns-clause-ok
returns-clause-ok c =
    let position = ap (λ (t : TableEntries). slice_get (keys_of t.wagons) c.args.position) c.self.view_is ∙ c.requires.position in
    let value = sym c.get_index_mut.ensures.value ∙ ap option_copied_mut c.in-Some.is in
    let last : List Event → List Event = λ events. events ++ c.args.event ∷ [] in
    known_there c.self.inside.wagons _ _ _ c.get_index_mut.ensures.unique position value c.add.new.self last c.in-Ok.ensures.ok _ _ c.self.inside.offers ∙ ap (λ (t : TableEntries). with_journey (table_state t) c.args.wagon last) c.self.view_is

pub invariant_of-self-2 : goal.invariant_of-self-2
invariant_of-self-2 c =
    let e = c.args.event in
    let position = ap (λ (t : TableEntries). slice_get (keys_of t.wagons) c.args.position) c.self.view_is ∙ c.requires.position in
    let value = sym c.get_index_mut.ensures.value ∙ ap option_copied_mut c.in-Some.is in
    entries_there c.self.inside.wagons _ _ _ c.get_index_mut.ensures.unique position value c.add.new.self (λ events. events ++ e ∷ []) c.in-Ok.ensures.ok c.self.invariant (still_begun _ e)
