use Rattle.hub_items.proofs.Common.{◌≡◌, true, has, has_at, arith, common_steps, same_Some, continues_journeys, named_wagons, changed, ap, ◌∙◌, sym, Bool, ℕ, List, Event, if◌then◌else◌, All-contains, IsChange, Journey, without_newest, state_before, events_in}
use Rattle.hub_items.proofs.ChangeLemmas.{continues_here, journeys_with}
use Rattle.hub_items.proofs.wagon_change.WagonChange.of.Goals as goal

pub returns : goal.returns
returns c =
    let s = state_before c.args.from in
    let m = c.args.from.message.now in
    let t = c.args.from.tables.now in
    let cs = c.args.from.changes.now in
    let w = c.args.change.now.wagon in
    let gone = c.requires.acceptable.1 in
    let change = All-contains (IsChange t) cs c.args.change.now gone.changes.each c.requires.among in
    let is_changed : has (changed cs) w ≡ true = grind (arith, common_steps, has_at (changed cs) c.requires.among.0 w, c.requires.among.1, c.requires.among.2) in
    let goes_on = continues_here (continues_journeys m.body) (named_wagons s.offer m) (changed cs) w gone.wagons is_changed in
    let same = same_Some _ w (sym c.in-Some.ensures.found ∙ change.position_is) in
    let events = ap (λ (j : Journey). j.events) c.in-Some.ensures.journey ∙ ap (events_in t.wagons) same in
    record {
      wagon_is = ap (λ (j : Journey). j.wagon) c.in-Some.ensures.journey ∙ same;
      before_is = ap without_newest events ∙ sym (ap (λ (b : Bool). if b then without_newest (events_in t.wagons w) else events_in t.wagons w) is_changed);
      after_is = events ∙ ap (λ (journey : ℕ → List Event). journey w) (journeys_with s t m gone.known goes_on);
    }
