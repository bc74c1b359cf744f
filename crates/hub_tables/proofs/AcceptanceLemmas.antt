-- What the tables know once they have taken a message.
use Rattle.hub_tables.proofs.Common.{◌≡◌, ℕ, ◌==◌, Bool, true, false, if◌then◌else◌, List, [], ◌∷◌, ◌++◌, Some, None, Result, Ok, Err, OnOk, refl, sym, ap, ◌∙◌, append-nil, true≢false, unwrap_or, option_or, list_all, and_parts, Railway, UnitCode, ConsignmentId, has, all_differ, times_named, Message, Body, OfferTable, offer_of, is_standing, same_name, matches, wagons_of, HubState, new_state, wagons_in, whole_fault, after_acceptance, plan_given, unit_plan_given, offer_given, opening_given, planned_in, fleet_after, answer_fits, numbers, TableEntries, table_state, table_part, continues_journeys, HasAccepted, journey_after, gone_on}
use Rattle.taf_messages.specs.declared.message.Body.TheVariants as body
use Rattle.hub_tables.proofs.DifferLemmas.{both_true, passes_named}

pub on_both : {A E : Type 0} {P Q R : Type 0} (r : Result A E) → (P → Q → R) → OnOk r P → OnOk r Q → OnOk r R
on_both (Ok x) f p q = f p q
on_both (Err e) f p q = tt

-- what each look-up has taken is all that is known
pub taken_known : (s : HubState) (new : TableEntries) (m : Message) → HasAccepted s new m → table_state new ≡ table_part (after_acceptance s m)
taken_known s new m h =
    λ i. record new_state {
      journey = λ w. h.events w i;
      plan_of = λ c. h.plans c i;
      unit_plan = λ u. h.units u i;
      offer = λ by n. h.offers by n i;
      is_open = λ by n. h.opens by n i;
      fleet = h.keys i;
    }

no_plan_given : (says : Body) (c : ConsignmentId) → continues_journeys says ≡ true → plan_given says c ≡ None
no_plan_given (body.Plan p) c h = absurd (true≢false (sym h))
no_plan_given _ c h = refl

no_unit_given : (says : Body) (u : UnitCode) → continues_journeys says ≡ true → unit_plan_given says u ≡ None
no_unit_given (body.Plan p) u h = absurd (true≢false (sym h))
no_unit_given _ u h = refl

none_planned : (says : Body) → continues_journeys says ≡ true → planned_in says ≡ []
none_planned (body.Plan p) h = absurd (true≢false (sym h))
none_planned _ h = refl

-- a message by which journeys have gone on is taken where offers are
pub goes_taken : (s : HubState) (t old : TableEntries) (offers : OfferTable) (m : Message) → t ≡ old → continues_journeys m.body ≡ true → table_state old ≡ gone_on s m →
    ((by : Railway) (n : ℕ) → offer_of offers by n ≡ option_or (offer_given m m.body by n) (offer_of t.offers by n)) →
    ((by : Railway) (n : ℕ) → is_standing offers by n ≡ unwrap_or (opening_given m m.body by n) (is_standing t.offers by n)) → HasAccepted s (record t { offers = offers }) m
goes_taken s t old offers m same goes on finds opens =
    let known : table_state t ≡ gone_on s m = ap table_state same ∙ on in
    record {
      events = λ w. ap (λ (k : HubState). k.journey w) known ∙ ap (λ (b : Bool). if b then journey_after s m w else s.journey w) goes;
      plans = λ c. ap (λ (k : HubState). k.plan_of c) known ∙ ap (λ o. option_or o (s.plan_of c)) (sym (no_plan_given m.body c goes));
      units = λ u. ap (λ (k : HubState). k.unit_plan u) known ∙ ap (λ o. option_or o (s.unit_plan u)) (sym (no_unit_given m.body u goes));
      offers = λ by n. finds by n ∙ ap (λ (k : HubState). option_or (offer_given m m.body by n) (k.offer by n)) known;
      opens = λ by n. opens by n ∙ ap (λ (k : HubState). unwrap_or (opening_given m m.body by n) (k.is_open by n)) known;
      keys = ap (λ (k : HubState). k.fleet) known ∙ sym (append-nil s.fleet) ∙ ap (fleet_after s.fleet) (sym (none_planned m.body goes));
    }

closed_else : (b before : Bool) → (if b then false else before) ≡ unwrap_or (if b then Some false else None) before
closed_else true before = refl
closed_else false before = refl

-- one that closes an offer
pub closing_taken : (s : HubState) (t old : TableEntries) (offers : OfferTable) (m : Message) (of : Railway) (k : ℕ) → t ≡ old → continues_journeys m.body ≡ true → table_state old ≡ gone_on s m →
    ((by : Railway) (n : ℕ) → offer_given m m.body by n ≡ None) → ((by : Railway) (n : ℕ) → opening_given m m.body by n ≡ (if same_name of k by n then Some false else None)) →
    ((by : Railway) (n : ℕ) → offer_of offers by n ≡ offer_of t.offers by n) → ((by : Railway) (n : ℕ) → is_standing offers by n ≡ (if same_name of k by n then false else is_standing t.offers by n)) →
    HasAccepted s (record t { offers = offers }) m
closing_taken s t old offers m of k same goes on makes_none closes_one finds closes =
    goes_taken s t old offers m same goes on
    (λ by n. finds by n ∙ ap (λ x. option_or x (offer_of t.offers by n)) (sym (makes_none by n)))
    (λ by n. closes by n ∙ closed_else (same_name of k by n) (is_standing t.offers by n) ∙ ap (λ x. unwrap_or x (is_standing t.offers by n)) (sym (closes_one by n)))

-- one that speaks of a single wagon
pub single_taken : (s : HubState) (old : TableEntries) (m : Message) (says : Body) → m.body ≡ says → ((p : _) → says ≡ body.Plan p → ⊥) → ((o : _) → says ≡ body.Offer o → ⊥) → ((a : _) → says ≡ body.Answer a → ⊥) →
    ((at : _) (k : _) → says ≡ body.Withdraw at k → ⊥) → table_state old ≡ gone_on s m → HasAccepted s old m
single_taken s old m says is p o a w on =
    goes_taken s old old old.offers m refl (ap continues_journeys is ∙ goes says p) on
    (λ by n. ap (λ x. option_or x (offer_of old.offers by n)) (sym (ap (λ b. offer_given m b by n) is ∙ makes_none says o by n)))
    (λ by n. ap (λ x. unwrap_or x (is_standing old.offers by n)) (sym (ap (λ b. opening_given m b by n) is ∙ opens_none says o a w by n)))
  where
    goes : (b : Body) → ((q : _) → b ≡ body.Plan q → ⊥) → continues_journeys b ≡ true
    goes (body.Plan q) h = absurd (h q refl)
    goes _ h = refl

    makes_none : (b : Body) → ((q : _) → b ≡ body.Offer q → ⊥) → (by : Railway) (n : ℕ) → offer_given m b by n ≡ None
    makes_none (body.Offer v) h by n = absurd (h v refl)
    makes_none _ h by n = refl

    opens_none : (b : Body) → ((q : _) → b ≡ body.Offer q → ⊥) → ((q : _) → b ≡ body.Answer q → ⊥) → ((at : _) (k : _) → b ≡ body.Withdraw at k → ⊥) → (by : Railway) (n : ℕ) → opening_given m b by n ≡ None
    opens_none (body.Offer v) h g f by n = absurd (h v refl)
    opens_none (body.Answer v) h g f by n = absurd (g v refl)
    opens_none (body.Withdraw at k) h g f by n = absurd (f at k refl)
    opens_none _ h g f by n = refl

all_among : (test : ℕ → Bool) (offered ws : List ℕ) → list_all test offered ≡ true → list_all (λ w. has offered w) ws ≡ true → list_all test ws ≡ true
all_among test offered [] h k = refl
all_among test offered (w ∷ ws) h k =
    let parts = and_parts (has offered w) (list_all (λ v. has offered v) ws) k in
    both_true (test w) (list_all test ws) (passes_named test offered w h parts.0) (all_among test offered ws h parts.1)

-- the wagons of an answer that matches its offer are all different
matched_differ : (offered answered : List ℕ) → matches offered answered ≡ true → all_differ answered ≡ true
matched_differ offered answered h =
    let parts = and_parts (list_all (λ w. times_named answered w == 1) offered) (list_all (λ w. has offered w) answered) h in
    all_among (λ w. times_named answered w == 1) offered answered parts.0 parts.1

one_differs : (w : ℕ) → all_differ (w ∷ []) ≡ true
one_differs w = rw (numbers.itself w) refl

-- the wagons of a message that begins no journey, makes no offer and withdraws none differ
pub others_differ : (s : HubState) (m : Message) (says : Body) → ((o : _) → says ≡ body.Offer o → ⊥) → ((at : _) (k : _) → says ≡ body.Withdraw at k → ⊥) → whole_fault s m.by says ≡ None → continues_journeys says ≡ true →
    all_differ (wagons_in s.offer m.by says) ≡ true
others_differ s m (body.Plan p) o w whole goes = absurd (true≢false (sym goes))
others_differ s m (body.Movement v) o w whole goes = one_differs v.wagon
others_differ s m (body.EtiAsk v) o w whole goes = one_differs v
others_differ s m (body.LegTime v leg minutes) o w whole goes = one_differs v
others_differ s m (body.Offer v) o w whole goes = absurd (o v refl)
others_differ s m (body.Answer a) o w whole goes = matched_differ (wagons_of (s.offer a.offerer a.offer)) (a.received ++ a.refused) (answer_fits s m.by a whole).1
others_differ s m (body.Withdraw at k) o w whole goes = absurd (w at k refl)
others_differ s m (body.Reroute v route) o w whole goes = one_differs v
