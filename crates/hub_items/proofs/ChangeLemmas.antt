-- What the journeys of a message's wagons were before it, and are with it.
use Rattle.hub_items.proofs.Common.{◌≡◌, ℕ, Bool, true, false, if◌then◌else◌, List, [], ◌∷◌, ◌++◌, refl, ap, ◌∙◌, sym, flat_map, filter_map, option_to_list, false≢true, has, Message, Body, TrainAnswer, Railway, notice_receivers, Event, HubState, journey_after, TableEntries, table_state, continues_journeys, gone_on, lead_of}
use Rattle.taf_messages.specs.declared.message.Body.TheVariants as body
use Rattle.hub_items.proofs.NewsLemmas.{found_of_each}

-- a message that changes a journey goes on with it
pub continues_here : (b : Bool) (ws vs : List ℕ) (w : ℕ) → vs ≡ (if b then ws else []) → has vs w ≡ true → b ≡ true
continues_here true ws vs w are h = refl
continues_here false ws vs w are h = absurd (false≢true (sym (ap (λ (vs : List ℕ). has vs w) are) ∙ h))

pub continues_unless_plan : (says : Body) → ((p : _) → says ≡ body.Plan p → ⊥) → continues_journeys says ≡ true
continues_unless_plan (body.Plan p) h = absurd (h p refl)
continues_unless_plan _ h = refl

-- the journeys are those with the message
pub journeys_with : (s : HubState) (t : TableEntries) (m : Message) → table_state t ≡ gone_on s m → continues_journeys m.body ≡ true → (table_state t).journey ≡ journey_after s m
journeys_with s t m known on = ap (λ (k : HubState). k.journey) known ∙ (λ i w. if on i then journey_after s m w else s.journey w)

-- and so are the leads of the wagons of an answer
pub answer_receivers : (s : HubState) (t : TableEntries) (m : Message) (a : TrainAnswer) → table_state t ≡ gone_on s m → m.body ≡ body.Answer a →
    notice_receivers s (journey_after s m) m.by m.body ≡ a.offerer ∷ flat_map (λ w. option_to_list (lead_of ((table_state t).journey w))) (a.received ++ a.refused)
answer_receivers s t m a known is =
    ap (notice_receivers s (journey_after s m) m.by) is ∙
    ap (λ (journey : ℕ → List Event). a.offerer ∷ filter_map (λ w. lead_of (journey w)) (a.received ++ a.refused)) (sym (journeys_with s t m known (ap continues_journeys is))) ∙
    ap (λ (rs : List Railway). a.offerer ∷ rs) (found_of_each (λ w. lead_of ((table_state t).journey w)) (a.received ++ a.refused))
