-- Interleavings of lists that are each several lists.
use Rattle.hub_service.proofs.Common.{◌≡◌, ℕ, suc, zero, ◌+◌, ◌-◌, ◌<◌, eqb, eq-eqb, ne_eqb, cond, List, [], ◌∷◌, ◌++◌, length, map, get_or, set, refl, sym, ap, ◌∙◌, subst, arith, flat_map, get_or_append_left, get_or-append-add, set-append_left, set-append_right, get_or-set_same, get_or-set_other, map-set, length-map, length-append, items_of_label, Interleaves, read_map}
use mathlib.Core.Logic.{dite}
use native.Mathlib.Decide.{ℕ_discrete}

-- lists, one after another
abbrev pub joined : {T : Type 0} → List (List T) → List T
joined lists = flat_map (λ l. l) lists

-- the first item of an interleaving is that of one of its lists, and the others are an interleaving of what is left
pub record FirstOf {T : Type 0} (lists : List (List T)) (x : T) (items : List T) : Type 0 where
  pub at : ℕ
  pub rest : List T
  pub inside : at < length lists
  pub here : get_or lists at [] ≡ x ∷ rest
  pub others : Interleaves (set lists at rest) items

within : {T : Type 0} (lists : List (List T)) (at : ℕ) (x : T) (rest : List T) → get_or lists at [] ≡ x ∷ rest → at < length lists
within [] at x rest e = absurd (cc e)
within (l ∷ lists) zero x rest e = omega arith
within (l ∷ lists) (suc at) x rest e = let r = within lists at x rest e in omega (arith, r)

pub first_of : {T : Type 0} (lists : List (List T)) (x : T) (items : List T) → Interleaves lists (x ∷ items) → FirstOf lists x items
first_of lists x items ([], fits, each) = absurd (omega (arith, fits))
first_of {T} lists x items (w ∷ labels, fits, each) =
    let rest = items_of_label w labels items in
    let here : get_or lists w [] ≡ x ∷ rest = each w ∙ ap (λ b. cond b (x ∷ rest) rest) (eq-eqb w w refl) in
    let inside = within lists w x rest here in
    record {
      at = w;
      rest = rest;
      inside = inside;
      here = here;
      others = (
        labels,
        omega (arith, fits),
        λ k. dite (ℕ_discrete k w)
            (λ e. subst (λ m. get_or (set lists w rest) m [] ≡ items_of_label m labels items) (sym e) (get_or-set_same lists w rest [] inside))
            (λ ne. get_or-set_other lists w k rest [] ne ∙ (each k ∙ ap (λ b. cond b (x ∷ items_of_label k labels items) (items_of_label k labels items)) (ne_eqb w k (λ e. ne (sym e))))),
      );
    }

pub with_first : {T : Type 0} (lists : List (List T)) (x : T) (items : List T) → FirstOf lists x items → Interleaves lists (x ∷ items)
with_first lists x items t =
    let labels = t.others.0 in
    let fits = t.others.1 in (
      t.at ∷ labels,
      omega (arith, fits),
      λ k. dite (ℕ_discrete k t.at)
          (λ e. subst (λ m. get_or lists m [] ≡ cond (eqb t.at m) (x ∷ items_of_label m labels items) (items_of_label m labels items)) (sym e)
          (t.here ∙ (ap (λ l. x ∷ l) (sym (get_or-set_same lists t.at t.rest [] t.inside) ∙ t.others.2 t.at) ∙ sym (ap (λ b. cond b (x ∷ items_of_label t.at labels items) (items_of_label t.at labels items)) (eq-eqb t.at t.at refl)))))
          (λ ne. sym (get_or-set_other lists t.at k t.rest [] ne) ∙ (t.others.2 k ∙ sym (ap (λ b. cond b (x ∷ items_of_label k labels items) (items_of_label k labels items)) (ne_eqb t.at k (λ e. ne (sym e)))))),
    )

-- the first item of lists that are joined is that of the first list that has one
record Front {T : Type 0} (lists : List (List T)) (x : T) (items : List T) : Type 0 where
  at : ℕ
  rest : List T
  inside : at < length lists
  here : get_or lists at [] ≡ x ∷ rest
  after : joined (set lists at rest) ≡ items

front : {T : Type 0} (lists : List (List T)) (x : T) (items : List T) → joined lists ≡ x ∷ items → Front lists x items
front [] x items e = absurd (cc e)
front ([] ∷ lists) x items e =
    let f = front lists x items e in
    record { at = suc f.at; rest = f.rest; inside = (let i = f.inside in omega (arith, i)); here = f.here; after = f.after }
front ((y ∷ l) ∷ lists) x items e =
    record { at = 0; rest = l; inside = omega arith; here = ap (λ u. u ∷ l) (cc e); after = cc e }

-- where a list of a group stands among all lists
record Stands {T : Type 0} (groups : List (List (List T))) (p m : ℕ) : Type 0 where
  at : ℕ
  inside : at < length (joined groups)
  here : get_or (joined groups) at [] ≡ get_or (get_or groups p []) m []
  put : (t : List T) → joined (set groups p (set (get_or groups p []) m t)) ≡ set (joined groups) at t

stands : {T : Type 0} (groups : List (List (List T))) (p m : ℕ) → p < length groups → m < length (get_or groups p []) → Stands groups p m
stands [] p m low in_group = absurd (omega (arith, low))
stands (g ∷ groups) zero m low in_group =
    let long = length-append g (joined groups) in
    record {
      at = m;
      inside = omega (arith, long, in_group);
      here = get_or_append_left g (joined groups) [] m in_group;
      put = λ t. sym (set-append_left g (joined groups) m t in_group);
    }
stands (g ∷ groups) (suc p) m low in_group =
    let s = stands groups p m (omega (arith, low)) in_group in
    let long = length-append g (joined groups) in
    let inside = s.inside in
    let back : length g + s.at - length g ≡ s.at = omega arith in
    record {
      at = length g + s.at;
      inside = omega (arith, long, inside);
      here = get_or-append-add g (joined groups) s.at [] ∙ s.here;
      put = λ t. ap (λ l. g ++ l) (s.put t) ∙ sym (set-append_right g (joined groups) (length g) (length g + s.at) t refl (omega arith) ∙ ap (λ n. g ++ set (joined groups) n t) back);
    }

-- where nothing is in the groups, nothing is in their lists
silent_in : {T : Type 0} (g rest : List (List T)) → joined g ≡ [] → ((k : ℕ) → get_or rest k [] ≡ []) → (k : ℕ) → get_or (g ++ rest) k [] ≡ []
silent_in [] rest e none k = none k
silent_in ([] ∷ g) rest e none zero = refl
silent_in ([] ∷ g) rest e none (suc k) = silent_in g rest e none k
silent_in ((y ∷ l) ∷ g) rest e none k = absurd (cc e)

silent : {T : Type 0} (groups : List (List (List T))) → ((p : ℕ) → get_or (map joined groups) p [] ≡ []) → (k : ℕ) → get_or (joined groups) k [] ≡ []
silent [] none k = refl
silent (g ∷ groups) none k = silent_in g (joined groups) (none zero) (silent groups (λ p. none (suc p))) k

no_items : {T : Type 0} (k : ℕ) (labels : List ℕ) → items_of_label {T = T} k labels [] ≡ []
no_items k [] = refl
no_items k (w ∷ labels) = refl

pub regroup : {T : Type 0} (items : List T) (groups : List (List (List T))) → Interleaves (map joined groups) items → Interleaves (joined groups) items
regroup [] groups i = ([], refl, silent groups (λ p. i.2 p ∙ no_items p i.0))
regroup {T} (x ∷ items) groups i =
    let t = first_of (map joined groups) x items i in
    let long = length-map groups joined in
    let inside = t.inside in
    let low : t.at < length groups = omega (arith, long, inside) in
    let group : List (List T) = get_or groups t.at [] in
    let f = front group x t.rest (sym (read_map joined groups t.at [] [] low) ∙ t.here) in
    let place = stands groups t.at f.at low f.inside in
    let same : map joined (set groups t.at (set group f.at f.rest)) ≡ set (map joined groups) t.at t.rest = map-set joined groups t.at (set group f.at f.rest) ∙ ap (λ l. set (map joined groups) t.at l) f.after in
    let more = regroup items (set groups t.at (set group f.at f.rest)) (subst (λ l. Interleaves l items) (sym same) t.others) in
    with_first (joined groups) x items (record {
      at = place.at;
      rest = f.rest;
      inside = place.inside;
      here = place.here ∙ f.here;
      others = subst (λ l. Interleaves l items) (place.put f.rest) more;
    })
