use Rattle.hub_core.proofs.Common.{rules, ◌≡◌, List, [], ◌∷◌, ◌++◌, Some, None, cond, length, ap, ◌∙◌, ◌<◌, ◌^◌, sym, subst, transport⁻¹, Message, Accepted, same_name, position_of, outbox_state_of, with_items, AddressedItem, items_to, table_state, AreChanges, known_before_changes, Represents, entry_of, if◌then◌else◌, slice_get, All-weaker, has, without_newest, HubState, IsStateBefore, IsChange, changed, TableEntries, Change}
use Rattle.hub_core.proofs.SendLemmas.{few_items, new_answer, kept_accepted}
use Rattle.hub_core.proofs.acceptance.accept.Goals as goal

-- a change in tables that know the same
change_stays : (old new : TableEntries) (c : Change) → table_state new ≡ table_state old → IsChange old c → IsChange new c
change_stays old new c same change = record {
  position_is = ap (λ (s : HubState). slice_get s.fleet c.position) same ∙ change.position_is;
  before_is = subst (λ (s : HubState). IsStateBefore (s.journey c.wagon) c.before) (sym same) change.before_is;
}

pub take_back-requires : goal.take_back-requires
take_back-requires c = record {
  changes = let b = c.args.state.now in
      let n = c.prepare.new.state in
      let r = c.in-Err.ensures in
      let all = c.requires.gone_on.changes in
      subst (AreChanges n.tables) (sym r.changes) (record { differ = all.differ; each = All-weaker (IsChange b.tables) (IsChange n.tables) (λ d. change_stays b.tables n.tables d r.err) b.changes.items all.each });
}

pub returns-in-Err : goal.returns-in-Err
returns-in-Err c =
    let r = c.in-Err.ensures in
    let tables : table_state c.take_back.new.self ≡ known_before_changes c.args.state.now = c.take_back.ensures ∙
    (λ i. record (r.err i) { journey = λ w. if has (changed (r.changes i)) w then without_newest ((r.err i).journey w) else (r.err i).journey w }) in
    let kept = transport⁻¹ (λ i. Represents (r.entries i) (tables i) (position_of (r.seen i)) (λ q. r.boxes q i)) c.requires.ready.0 in
    search (rules, kept)

pub returns : goal.returns
returns c =
    let b = c.args.state.now in
    let m = c.args.message in
    let r = c.in_default.ensures in
    let e = c.enter_send.ensures in
    let told : c.no-no.result ≡ m.no = c.no-no.ensures ∙ ap (λ (x : Message). x.no) c.get.ensures in
    let kept = transport⁻¹ (λ i. Represents ((e.entries ∙ (λ j. r.entries j ++ entry_of (record { message = m; reply = Accepted (told j) }) ∷ [])) i) ((ap table_state e.tables ∙ r.tables) i)
    (λ by n. (e.seen by n ∙ (λ j. cond (same_name m.by m.no by n) (Some (length (r.entries j))) (position_of (r.seen j) by n))) i)
    (λ q. ((λ j. outbox_state_of (e.outboxes j) q) ∙ c.deliver.ensures q ∙ (λ j. with_items (r.boxes q j) (items_to q (r.items j)))) i))
    (kept_accepted c.requires.ready.0 c.requires.ready.1 m c.requires.new.1 c.requires.new.0 c.boxes_keep_the_lists.ensures.push c.requires.acceptable.sound) in
    let answered = ap Accepted told ∙ new_answer c.requires.ready.0 c.requires.ready.1 m c.requires.new.1 c.requires.new.0 None c.requires.acceptable.sound in
    search (rules, kept, answered)

pub deliver-requires-clause-few : goal.deliver-requires-clause-few
deliver-requires-clause-few c =
    subst (λ (is : List AddressedItem). length is < 2 ^ 62) (sym c.in_default.ensures.items)
    (few_items c.requires.ready.0 c.requires.ready.1 c.args.message c.requires.new.1 c.requires.new.0 c.items_and_events_are_bounded.ensures.items c.requires.acceptable.sound)
