-- Lists, their totals and their interleavings.
use Rattle.inbox.proofs.Common.{◌≡◌, ◌≢◌, ℕ, zero, suc, ◌+◌, ◌<◌, ◌≤◌, eqb, eq-eqb, ne_eqb, cond, Bool, true, false, List, [], ◌∷◌, ◌++◌, map, length, get_or, set, refl, sym, ap, ◌∙◌, arith, append-nil, zero-add, lt_of_not-le, length-map, items_of_label, Interleaves, times, total, AllBelow}
use mathlib.Core.Option.{some, some-ne-none, some-injective}
use mathlib.Core.Logic.{dite}
use native.Mathlib.Decide.{ℕ_discrete, dec_le}
use lib.ListN.{get_elem?}

cond_append : {T : Type 0} (b : Bool) (y : T) (l m : List T) → cond b (y ∷ (l ++ m)) (l ++ m) ≡ cond b (y ∷ l) l ++ m
cond_append true y l m = refl
cond_append false y l m = refl

pub items_of_label-snoc : {T : Type 0} (k : ℕ) (labels : List ℕ) (q : List T) (w : ℕ) (x : T) → length labels ≡ length q → items_of_label k (labels ++ w ∷ []) (q ++ x ∷ []) ≡ items_of_label k labels q ++ cond (eqb w k) (x ∷ []) []
items_of_label-snoc k [] [] w x fit = refl
items_of_label-snoc k [] (y ∷ q) w x fit = absurd (omega arith)
items_of_label-snoc k (v ∷ labels) [] w x fit = absurd (omega arith)
items_of_label-snoc k (v ∷ labels) (y ∷ q) w x fit = ap (λ t. cond (eqb v k) (y ∷ t) t) (items_of_label-snoc k labels q w x (omega arith)) ∙ cond_append (eqb v k) y (items_of_label k labels q) (cond (eqb w k) (x ∷ []) [])

pub items_of_label-same : {T : Type 0} (k : ℕ) (labels : List ℕ) (q : List T) (x : T) → length labels ≡ length q → items_of_label k (labels ++ k ∷ []) (q ++ x ∷ []) ≡ items_of_label k labels q ++ x ∷ []
items_of_label-same k labels q x fit = items_of_label-snoc k labels q k x fit ∙ ap (λ b. items_of_label k labels q ++ cond b (x ∷ []) []) (eq-eqb k k refl)

pub items_of_label-other : {T : Type 0} (k : ℕ) (labels : List ℕ) (q : List T) (w : ℕ) (x : T) → length labels ≡ length q → w ≢ k → items_of_label k (labels ++ w ∷ []) (q ++ x ∷ []) ≡ items_of_label k labels q
items_of_label-other k labels q w x fit ne = items_of_label-snoc k labels q w x fit ∙ (ap (λ b. items_of_label k labels q ++ cond b (x ∷ []) []) (ne_eqb w k ne) ∙ append-nil (items_of_label k labels q))

pub items_of_label-none : {T : Type 0} (n k : ℕ) (labels : List ℕ) (q : List T) → AllBelow n labels → n ≤ k → items_of_label k labels q ≡ []
items_of_label-none n k [] q b le = refl
items_of_label-none n k (w ∷ labels) [] b le = refl
items_of_label-none n k (w ∷ labels) (x ∷ q) b le = let ne : w ≢ k = (λ e. let l = b.0 in omega arith) in ap (λ b. cond b (x ∷ items_of_label k labels q) (items_of_label k labels q)) (ne_eqb w k ne) ∙ items_of_label-none n k labels q b.1 le

pub below-snoc : (n w : ℕ) (labels : List ℕ) → AllBelow n labels → w < n → AllBelow n (labels ++ w ∷ [])
below-snoc n w [] b lt = (lt, tt)
below-snoc n w (v ∷ labels) b lt = (b.0, below-snoc n w labels b.1 lt)

pub below-more : (n : ℕ) (labels : List ℕ) → AllBelow n labels → AllBelow (n + 1) labels
below-more n [] b = tt
below-more n (v ∷ labels) b = ((let l = b.0 in omega arith), below-more n labels b.1)

pub times-append : (a : ℕ) (xs ys : List ℕ) → times a (xs ++ ys) ≡ times a xs + times a ys
times-append a [] ys = omega arith
times-append a (x ∷ xs) ys = omega (arith, times-append a xs ys)

pub times-one : (a : ℕ) → times a (a ∷ []) ≡ 1
times-one a = ap (λ b. cond b 1 0 + 0) (eq-eqb a a refl)

pub times-other : (a b : ℕ) → b ≢ a → times a (b ∷ []) ≡ 0
times-other a b ne = ap (λ b. cond b 1 0 + 0) (ne_eqb b a ne)

pub total-append : {A : Type 0} (f : A → ℕ) (xs ys : List A) → total f (xs ++ ys) ≡ total f xs + total f ys
total-append f [] ys = omega arith
total-append f (x ∷ xs) ys = omega (arith, total-append f xs ys)

-- one element of the list is replaced
pub total_set : {A : Type 0} (f : A → ℕ) (l : List A) (i : ℕ) (v w : A) → get_elem? l i ≡ some v → total f (set l i w) + f v ≡ total f l + f w
total_set f [] i v w at = absurd (some-ne-none v (sym at))
total_set f (x ∷ xs) zero v w at = let e = ap f (some-injective x v at) in omega (arith, e)
total_set f (x ∷ xs) (suc i) v w at = omega (arith, total_set f xs i v w at)

pub total_put : {A : Type 0} (f : A → ℕ) (l : List A) (i : ℕ) (w d : A) → i < length l → total f (set l i w) + f (get_or l i d) ≡ total f l + f w
total_put f [] i w d lt = absurd (omega arith)
total_put f (x ∷ xs) zero w d lt = omega arith
total_put f (x ∷ xs) (suc i) w d lt = omega (arith, total_put f xs i w d (omega arith))

pub total_at : {A : Type 0} (f : A → ℕ) (l : List A) (i : ℕ) (v : A) → get_elem? l i ≡ some v → f v ≤ total f l
total_at f [] i v at = absurd (some-ne-none v (sym at))
total_at f (x ∷ xs) zero v at = let e = ap f (some-injective x v at) in omega (arith, e)
total_at f (x ∷ xs) (suc i) v at = omega (arith, total_at f xs i v at)

pub total_both : {A : Type 0} (f : A → ℕ) (l : List A) (i j : ℕ) (v u : A) → get_elem? l i ≡ some v → get_elem? l j ≡ some u → i ≢ j → f v + f u ≤ total f l
total_both f [] i j v u at at' ne = absurd (some-ne-none v (sym at))
total_both f (x ∷ xs) zero zero v u at at' ne = absurd (ne refl)
total_both f (x ∷ xs) zero (suc j) v u at at' ne = let e = ap f (some-injective x v at) in omega (arith, e, total_at f xs j u at')
total_both f (x ∷ xs) (suc i) zero v u at at' ne = let e = ap f (some-injective x u at') in omega (arith, e, total_at f xs i v at)
total_both f (x ∷ xs) (suc i) (suc j) v u at at' ne = omega (arith, total_both f xs i j v u at at' (λ e. ne (ap suc e)))

pub total_get : {A : Type 0} (f : A → ℕ) (l : List A) (i : ℕ) (d : A) → f d ≡ 0 → f (get_or l i d) ≤ total f l
total_get f [] i d nil = omega arith
total_get f (x ∷ xs) zero d nil = omega arith
total_get f (x ∷ xs) (suc i) d nil = omega (arith, total_get f xs i d nil)

pub total_two : {A : Type 0} (f : A → ℕ) (l : List A) (i j : ℕ) (d : A) → f d ≡ 0 → i ≢ j → f (get_or l i d) + f (get_or l j d) ≤ total f l
total_two f [] i j d nil ne = omega arith
total_two f (x ∷ xs) zero zero d nil ne = absurd (ne refl)
total_two f (x ∷ xs) zero (suc j) d nil ne = omega (arith, total_get f xs j d nil)
total_two f (x ∷ xs) (suc i) zero d nil ne = omega (arith, total_get f xs i d nil)
total_two f (x ∷ xs) (suc i) (suc j) d nil ne = omega (arith, total_two f xs i j d nil (λ e. ne (ap suc e)))

total_nil : {A : Type 0} (f : A → ℕ) (l : List A) (d : A) → ((j : ℕ) → f (get_or l j d) ≡ 0) → total f l ≡ 0
total_nil f [] d none = refl
total_nil f (x ∷ xs) d none = let h = none 0 in omega (arith, h, total_nil f xs d (λ j. none (suc j)))

-- where all others count nothing
pub total_alone : {A : Type 0} (f : A → ℕ) (l : List A) (i : ℕ) (d : A) → f d ≡ 0 → ((j : ℕ) → j ≢ i → f (get_or l j d) ≡ 0) → total f l ≡ f (get_or l i d)
total_alone f [] i d nil none = sym nil
total_alone f (x ∷ xs) zero d nil none = omega (arith, total_nil f xs d (λ j. none (suc j) (λ e. absurd (omega arith))))
total_alone f (x ∷ xs) (suc i) d nil none = let h = none 0 (λ e. absurd (omega arith)) in omega (arith, h, total_alone f xs i d nil (λ j ne. none (suc j) (λ e. ne (omega arith))))

pub row_one : {A B : Type 0} (f : A → B) (r : List A) (b : B) → b ∷ [] ≡ map f r → (a : A) × (r ≡ a ∷ []) × (b ≡ f a)
row_one f [] b e = absurd (cc)
row_one f (a ∷ []) b e = (a, refl, cc)
row_one f (a ∷ a' ∷ r) b e = absurd (cc)

pub row_none : {A B : Type 0} (f : A → B) (r : List A) → [] ≡ map f r → r ≡ []
row_none f [] e = refl
row_none f (a ∷ r) e = absurd (cc)

counts : (b a : ℕ) → b ≡ a → ◌≡◌ {A = ℕ} (cond (eqb b a) 1 0) 1
counts b a e = let f : Bool → ℕ = λ t. cond t 1 0 in ap f (eq-eqb b a e)

pub row_same : {B : Type 0} (f g : ℕ → B) (a : ℕ) (r : List ℕ) → times a r ≡ 0 → ((b : ℕ) → a ≢ b → f b ≡ g b) → map f r ≡ map g r
row_same f g a [] none same = refl
row_same f g a (b ∷ r) none same =
    let ne : a ≢ b = (λ e. let one = counts b a (sym e) in omega (arith, one, none)) in
    let rest : times a r ≡ 0 = omega arith in
    ap (λ x. x ∷ map f r) (same b ne) ∙ ap (λ l. g b ∷ l) (row_same f g a r rest same)

-- where a label stands in a row
abbrev pub place : List ℕ → ℕ → ℕ
place [] w = 0
place (a ∷ r) w = cond (eqb a w) 0 (suc (place r w))

place-here : (a w : ℕ) (r : List ℕ) → a ≡ w → place (a ∷ r) w ≡ 0
place-here a w r e = ap (λ (t : Bool). cond t 0 (suc (place r w))) (eq-eqb a w e)

place-later : (a w : ℕ) (r : List ℕ) → a ≢ w → place (a ∷ r) w ≡ suc (place r w)
place-later a w r ne = ap (λ (t : Bool). cond t 0 (suc (place r w))) (ne_eqb a w ne)

times-here : (a w : ℕ) (r : List ℕ) → a ≡ w → times w (a ∷ r) ≡ suc (times w r)
times-here a w r e = let h = counts a w e in omega (arith, h)

times-later : (a w : ℕ) (r : List ℕ) → a ≢ w → times w (a ∷ r) ≡ times w r
times-later a w r ne = let f : Bool → ℕ = λ t. cond t 1 0 + times w r in ap f (ne_eqb a w ne) ∙ zero-add (times w r)

-- a label of the row stands where `place` says
pub place-in : (r : List ℕ) (w : ℕ) → 0 < times w r → (place r w < length r) × (get_or r (place r w) 0 ≡ w)
place-in [] w has = absurd (omega arith)
place-in (a ∷ r) w has = dite (ℕ_discrete a w)
    (λ e. rw (place-here a w r e) ((omega arith), e))
    (λ ne. let t = times-later a w r ne in let h = place-in r w (omega (arith, has, t)) in rw (place-later a w r ne) ((let l = h.0 in omega arith), h.1))

-- in a row without repeats, a label stands at one place
pub place-get : (r : List ℕ) (k : ℕ) → ((w : ℕ) → times w r ≤ 1) → k < length r → place r (get_or r k 0) ≡ k
place-get [] k once lt = absurd (omega arith)
place-get (a ∷ r) zero once lt = place-here a a r refl
place-get (a ∷ r) (suc k) once lt =
    let b = get_or r k 0 in
    let there : 0 < times b r = times-get r k (omega arith) in
    let ne : a ≢ b = (λ e. let t = times-here a b r e in let o = once b in omega (arith, t, o, there)) in
    let less : (w : ℕ) → times w r ≤ 1 = (λ w. let o = once w in omega (arith, o)) in
    place-later a b r ne ∙ ap suc (place-get r k less (omega arith))
  where
    times-get : (r : List ℕ) (k : ℕ) → k < length r → 0 < times (get_or r k 0) r
    times-get [] k lt = absurd (omega arith)
    times-get (a ∷ r) zero lt = let t = times-here a a r refl in omega (arith, t)
    times-get (a ∷ r) (suc k) lt = let h = times-get r k (omega arith) in omega (arith, h)

get_or-map : {B : Type 0} (f : ℕ → B) (r : List ℕ) (k : ℕ) (d : B) → k < length r → get_or (map f r) k d ≡ f (get_or r k 0)
get_or-map f [] k d lt = absurd (omega arith)
get_or-map f (a ∷ r) zero d lt = refl
get_or-map f (a ∷ r) (suc k) d lt = get_or-map f r k d (omega arith)

get_or-past : {B : Type 0} (f : ℕ → B) (r : List ℕ) (k : ℕ) (d : B) → length r ≤ k → get_or (map f r) k d ≡ d
get_or-past f [] k d le = refl
get_or-past f (a ∷ r) zero d le = absurd (omega arith)
get_or-past f (a ∷ r) (suc k) d le = get_or-past f r k d (omega arith)

tests_agree : (u v w x : ℕ) → (u ≡ v → w ≡ x) → (w ≡ x → u ≡ v) → eqb u v ≡ eqb w x
tests_agree u v w x to from = dite (ℕ_discrete u v) (λ e. eq-eqb u v e ∙ sym (eq-eqb w x (to e))) (λ ne. ne_eqb u v ne ∙ sym (ne_eqb w x (λ e. ne (from e))))

relabel_hit : {T : Type 0} (r : List ℕ) (n : ℕ) (labels : List ℕ) (q : List T) (k : ℕ) → AllBelow n labels → ((w : ℕ) → w < n → times w r ≡ 1) → ((w : ℕ) → times w r ≤ 1) → k < length r
    → items_of_label (get_or r k 0) labels q ≡ items_of_label k (map (place r) labels) q
relabel_hit r n [] q k b one once lt = refl
relabel_hit r n (w ∷ labels) [] k b one once lt = refl
relabel_hit r n (w ∷ labels) (x ∷ q) k b one once lt =
    let known : 0 < times w r = (let o = one w b.0 in omega (arith, o)) in
    let same : eqb w (get_or r k 0) ≡ eqb (place r w) k = tests_agree w (get_or r k 0) (place r w) k
    (λ e. ap (place r) e ∙ place-get r k once lt)
    (λ e. sym (place-in r w known).1 ∙ ap (λ i. get_or r i 0) e) in
    ap (λ t. cond t (x ∷ items_of_label (get_or r k 0) labels q) (items_of_label (get_or r k 0) labels q)) same ∙ ap (λ l. cond (eqb (place r w) k) (x ∷ l) l) (relabel_hit r n labels q k b.1 one once lt)

relabel_past : {T : Type 0} (r : List ℕ) (n : ℕ) (labels : List ℕ) (q : List T) (k : ℕ) → AllBelow n labels → ((w : ℕ) → w < n → times w r ≡ 1) → length r ≤ k → items_of_label k (map (place r) labels) q ≡ []
relabel_past r n [] q k b one le = refl
relabel_past r n (w ∷ labels) [] k b one le = refl
relabel_past r n (w ∷ labels) (x ∷ q) k b one le =
    let known : 0 < times w r = (let o = one w b.0 in omega (arith, o)) in
    let ne : place r w ≢ k = (λ e. let l = (place-in r w known).0 in omega (arith, l, e)) in
    ap (λ t. cond t (x ∷ items_of_label k (map (place r) labels) q) (items_of_label k (map (place r) labels) q)) (ne_eqb (place r w) k ne) ∙ relabel_past r n labels q k b.1 one le

-- the lists of a row that has each label below n once, and no other
pub interleaves_row : {T : Type 0} (r : List ℕ) (n : ℕ) (labels : List ℕ) (q : List T) → length labels ≡ length q → AllBelow n labels → ((w : ℕ) → (w < n → times w r ≡ 1) × (n ≤ w → times w r ≡ 0))
    → Interleaves (map (λ a. items_of_label a labels q) r) q
interleaves_row r n labels q fit b row =
    let one : (w : ℕ) → w < n → times w r ≡ 1 = (λ w lt. (row w).0 lt) in
    let once : (w : ℕ) → times w r ≤ 1 = (λ w. dite (dec_le n w) (λ le. let e = (row w).1 le in omega (arith, e)) (λ nle. let e = (row w).0 (lt_of_not-le nle) in omega (arith, e))) in (
      map (place r) labels,
      length-map labels (place r) ∙ fit,
      λ k. dite (dec_le (length r) k)
          (λ le. get_or-past (λ a. items_of_label a labels q) r k [] le ∙ sym (relabel_past r n labels q k b one le))
          (λ nle. let lt : k < length r = lt_of_not-le nle in get_or-map (λ a. items_of_label a labels q) r k [] lt ∙ relabel_hit r n labels q k b one once lt),
    )
