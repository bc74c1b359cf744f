-- What its lead sees of each planned wagon is the wagon.
use Rattle.std.proofs.Common.{◌≡◌, ◌∙◌, ℕ, true, List, [], ◌∷◌, Option, Some, None, option_map, filter_map, cond, refl, ap, subst}
use Rattle.std.proofs.lemmas.Option.{none-some, same_Some}
use Rattle.std.proofs.lemmas.Slice.Eq.{bytes_eq-Decides}
use Rattle.std.specs.List.{cons_option}
use Rattle.std.specs.Option.{option_and_then}
use Rattle.trip_plan.specs.Trip.{Trip}
use Rattle.taf_messages.specs.declared.record.Record.{Record}
use Rattle.taf_messages.specs.declared.record.Stage.{Stage}
use Rattle.journey.specs.declared.event.Event.{Event}
use Rattle.journey.specs.Stages.{stage, plan}
use Rattle.wimo.specs.Records.{record_in, record_of, may_see}
use Rattle.hub_model.specs.HubState.{HubState}
use Rattle.hub_model.specs.Replies.{records_of}
use Rattle.hub_model.proofs.NeedToKnowLemmas.{wagon_in}
use Rattle.hub_answers.specs.declared.shown.ShownWagon.{ShownWagon}
use Rattle.hub_answers.specs.Shown.{shown_of, shown_wagon, with_legs}

-- the wagon of a record, as its lead is shown it
abbrev pub seen_by_lead : HubState → Record → Option ShownWagon
seen_by_lead s r = shown_of s r.lead r.wagon

lead_in : (w : ℕ) (events : List Event) (p : Option Trip) (st : Option Stage) (r : Record) → option_and_then (λ q. option_map (record_in w events q) st) p ≡ Some r →
    option_map (λ q. q.lead) p ≡ Some r.lead
lead_in w events None st r h = absurd (none-some r h)
lead_in w events (Some p) None r h = absurd (none-some r h)
lead_in w events (Some p) (Some st) r h = ap (λ (x : Record). Some x.lead) (same_Some (record_in w events p st) r h)

lead_may_see : (events : List Event) (r : Record) → option_map (λ q. q.lead) (plan events) ≡ Some r.lead → may_see events r.lead ≡ true
lead_may_see events r h = rw (h, (bytes_eq-Decides r.lead r.lead).1 refl)

lead_sees : (s : HubState) (w : ℕ) (r : Record) → record_of w (s.journey w) ≡ Some r → seen_by_lead s r ≡ shown_wagon (s.journey w) w
lead_sees s w r h =
    let events = s.journey w in
    let sees = lead_may_see events r (lead_in w events (plan events) (stage events) r h) in
    subst (λ v. shown_of s r.lead v ≡ shown_wagon events w) (wagon_in w events (plan events) (stage events) r h)
    (ap (λ b. cond b (shown_wagon events w) None) sees)

one_more : (s : HubState) (w : ℕ) (o : Option Record) → record_of w (s.journey w) ≡ o → (records : List Record) (seen : List ShownWagon) →
    filter_map (seen_by_lead s) records ≡ seen → filter_map (seen_by_lead s) (cons_option o records) ≡ cons_option (option_map (with_legs (s.journey w)) o) seen
one_more s w None here records seen before = before
one_more s w (Some r) here records seen before =
    let found : seen_by_lead s r ≡ Some (with_legs (s.journey w) r) = lead_sees s w r here ∙ ap (option_map (with_legs (s.journey w))) here in
    ap (λ o. cons_option o (filter_map (seen_by_lead s) records)) found ∙ ap (λ rest. with_legs (s.journey w) r ∷ rest) before

pub all_seen : (s : HubState) (ws : List ℕ) → filter_map (seen_by_lead s) (records_of s ws) ≡ filter_map (λ w. shown_wagon (s.journey w) w) ws
all_seen s [] = refl
all_seen s (w ∷ ws) = one_more s w (record_of w (s.journey w)) refl (records_of s ws) (filter_map (λ v. shown_wagon (s.journey v) v) ws) (all_seen s ws)
