-- Who gets the estimates and alerts of a wagon is involved in it.
use Rattle.hub_model.proofs.Common.{◌≡◌, ℕ, ◌+◌, Bool, true, false, cond, not, List, [], ◌∷◌, ◌++◌, length, get_or, Option, Some, None, refl, ap, ◌∙◌, sym, inl, inr, eqb, map, filter, flat_map, filter_map, slice_get, option_map, option_to_list, bytes_eq, All, Contains, cons_option, or_right, cond_both, none-some, same_Some, slice_get-map, slice_get_within, get_or_from_slice_get, slice_get-get_or, All-nil, All-cons, All-head, All-tail, All-append, All-map, All-filter, All-weaker, Railway, Leg, has, ItemBody, EstimateAt, Event, responsible, legs, lead_of, runner_of, estimates, AddressedItem, each_once, runners, estimate_item, is_news, estimate_items, alert, alert_receivers, alert_items, IsInvolved, estimated_wagon}
use Rattle.taf_messages.specs.declared.item.ItemBody.TheVariants as item
use Rattle.hub_model.proofs.DependencyLemmas.{has_first}

-- the railway of a leg is among those of the legs
pub in_runners : (ls : List Leg) (i : ℕ) (r : Railway) → option_map (λ l. l.ru) (slice_get ls i) ≡ Some r → Contains (runners ls) r
in_runners ls i r h =
    let there : slice_get (runners ls) i ≡ Some r = slice_get-map (λ l. l.ru) ls i ∙ h in
    (i, slice_get_within (runners ls) i r there, get_or_from_slice_get (runners ls) i r r there)

pub own_runners : (ls : List Leg) → All (λ l. Contains (runners ls) l.ru) ls
own_runners ls k d h = in_runners ls k (get_or ls k d).ru (ap (option_map (λ l. l.ru)) (slice_get-get_or ls k d h))

-- lists whose elements are of a kind
pub each_option : {A : Type 0} (P : A → Type 0) (o : Option A) → ((x : A) → o ≡ Some x → P x) → All P (option_to_list o)
each_option P None h = All-nil P
each_option P (Some x) h = All-cons P x [] (h x refl) (All-nil P)

each_cons : {A : Type 0} (P : A → Type 0) (o : Option A) (xs : List A) → ((x : A) → o ≡ Some x → P x) → All P xs → All P (cons_option o xs)
each_cons P None xs h all = all
each_cons P (Some x) xs h all = All-cons P x xs (h x refl) all

has_rest : (w v : ℕ) (ws : List ℕ) → has ws v ≡ true → has (w ∷ ws) v ≡ true
has_rest w v ws h = or_right (eqb w v) (has ws v) h

pub each_found : {A : Type 0} (P : A → Type 0) (f : ℕ → Option A) (ws : List ℕ) → ((w : ℕ) → has ws w ≡ true → (x : A) → f w ≡ Some x → P x) → All P (filter_map f ws)
each_found P f [] h = All-nil P
each_found P f (w ∷ ws) h = each_cons P (f w) (filter_map f ws) (h w (has_first w ws)) (each_found P f ws (λ v e. h v (has_rest w v ws e)))

-- what is found of those that pass a test
pub each_passed : {A : Type 0} (P : A → Type 0) (f : ℕ → Option A) (p : ℕ → Bool) (ws : List ℕ) → ((w : ℕ) → p w ≡ true → (x : A) → f w ≡ Some x → P x) → All P (filter_map f (filter p ws))
each_passed P f p [] h = All-nil P
each_passed P f p (w ∷ ws) h =
    let rest = each_passed P f p ws h in
    cond_both (p w) (w ∷ filter p ws) (filter p ws) (λ vs. All P (filter_map f vs)) (λ e. each_cons P (f w) (filter_map f (filter p ws)) (h w e) rest) (λ e. rest)

pub each_of_wagons : {A : Type 0} (P : A → Type 0) (f : ℕ → List A) (ws : List ℕ) → ((w : ℕ) → has ws w ≡ true → All P (f w)) → All P (flat_map f ws)
each_of_wagons P f [] h = All-nil P
each_of_wagons P f (w ∷ ws) h = All-append P (f w) (flat_map f ws) (h w (has_first w ws)) (each_of_wagons P f ws (λ v e. h v (has_rest w v ws e)))

each_of_all : {A B : Type 0} (P : B → Type 0) (f : A → List B) (xs : List A) → ((x : A) → All P (f x)) → All P (flat_map f xs)
each_of_all P f [] h = All-nil P
each_of_all P f (x ∷ xs) h = All-append P (f x) (flat_map f xs) (h x) (each_of_all P f xs h)

each_of_option : {A B : Type 0} (P : B → Type 0) (f : A → List B) (o : Option A) → ((x : A) → o ≡ Some x → All P (f x)) → All P (flat_map f (option_to_list o))
each_of_option P f None h = All-nil P
each_of_option P f (Some x) h = All-append P (f x) [] (h x refl) (All-nil P)

pub each_of_once : (P : Railway → Type 0) (rs : List Railway) → All P rs → All P (each_once rs)
each_of_once P [] h = All-nil P
each_of_once P (r ∷ rs) h =
    All-cons P r (filter (λ q. not (bytes_eq q r)) (each_once rs)) (All-head P r rs h)
    (All-filter (λ q. not (bytes_eq q r)) P (each_once rs) (each_of_once P rs (All-tail P r rs h)))

-- the lead, the railways of the legs and the responsible railway are involved
module _ (events : List Event) where
  pub lead_involved : All (IsInvolved events) (option_to_list (lead_of events))
  lead_involved = each_option (IsInvolved events) (lead_of events) (λ r h. inl (inl h))

  pub runner_involved : (i : ℕ) → All (IsInvolved events) (option_to_list (runner_of events i))
  runner_involved i = each_option (IsInvolved events) (runner_of events i) (λ r h. inl (inr (in_runners (legs events) i r h)))

  pub responsible_involved : All (IsInvolved events) (option_to_list (responsible events))
  responsible_involved = each_option (IsInvolved events) (responsible events) (λ r h. inr h)

  alerted_involved : All (IsInvolved events) (alert_receivers events)
  alerted_involved =
      each_of_once (IsInvolved events) (option_to_list (lead_of events) ++ option_to_list (responsible events))
      (All-append (IsInvolved events) (option_to_list (lead_of events)) (option_to_list (responsible events)) lead_involved responsible_involved)

-- an alert is of its wagon
alert_cases : (w : ℕ) (b c : Bool) (o : Option ℕ) (says : ItemBody) → cond b (cond c None (Some (item.AlertEnds w))) (option_map (λ minutes. item.AlertBegins w minutes) o) ≡ Some says → estimated_wagon says ≡ Some w
alert_cases w true true o says h = absurd (none-some says h)
alert_cases w true false o says h = ap estimated_wagon (sym (same_Some (item.AlertEnds w) says h))
alert_cases w false c None says h = absurd (none-some says h)
alert_cases w false c (Some minutes) says h = ap estimated_wagon (sym (same_Some (item.AlertBegins w minutes) says h))

-- the items of the estimates and alerts of a wagon, by its events before and after a message
module _ (before after : List Event) (w : ℕ) where
  -- the item is of the wagon, and goes to a railway that is involved in it
  abbrev pub IsForInvolved : AddressedItem → Type 0
  IsForInvolved i = (estimated_wagon i.body ≡ Some w) × IsInvolved after i.to

  estimate_involved : (e : EstimateAt) → All IsForInvolved (estimate_item after w e)
  estimate_involved e =
      let eta : Railway → AddressedItem = λ r. record { to = r; body = item.Eta w e.at } in
      let eti : Railway → AddressedItem = λ r. record { to = r; body = item.Eti w e.leg e.at } in
      let lead = option_to_list (lead_of after) in
      let runner = option_to_list (runner_of after (e.leg + 1)) in
      cond_both (eqb (e.leg + 1) (length (legs after))) (map eta lead) (map eti runner) (All IsForInvolved)
      (λ h. All-map IsForInvolved eta lead (All-weaker (IsInvolved after) (λ r. IsForInvolved (eta r)) (λ r k. (refl, k)) lead (lead_involved after)))
      (λ h. All-map IsForInvolved eti runner (All-weaker (IsInvolved after) (λ r. IsForInvolved (eti r)) (λ r k. (refl, k)) runner (runner_involved after (e.leg + 1))))

  pub estimates_involved : All IsForInvolved (estimate_items before after w)
  estimates_involved = each_of_all IsForInvolved (estimate_item after w) (filter (is_news before after) (estimates after)) estimate_involved

  pub alerts_involved : All IsForInvolved (alert_items before after w)
  alerts_involved =
      let rs = alert_receivers after in
      each_of_option IsForInvolved (λ says. map (λ r. record { to = r; body = says }) rs) (alert before after w)
      (λ says e.
      let alerted : Railway → AddressedItem = λ r. record { to = r; body = says } in
      let its = alert_cases w _ _ _ says e in
      All-map IsForInvolved alerted rs (All-weaker (IsInvolved after) (λ r. IsForInvolved (alerted r)) (λ r k. (its, k)) rs (alerted_involved after)))
