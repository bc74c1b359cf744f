-- A history that is told is an interleaving of what the sessions were told.
use Rattle.hub_shared.proofs.Common.{◌≡◌, ◌≢◌, ℕ, suc, zero, ◌+◌, ◌-◌, ◌<◌, ◌≤◌, eqb, eq-eqb, ne_eqb, cond, Some, None, List, [], ◌∷◌, length, map, drop, get_or, sum_by, refl, sym, ap, ◌∙◌, subst, arith, length-drop, slice_get, All, All-nil, All-head, All-tail, sum_by-cons, Entry, Told, TallyState, entry_of, StandsIn, IsLater, times_told, IsRising, IsTold, items_of_label, Interleaves, entries_of}
use mathlib.Core.Logic.{dite}
use native.Mathlib.Decide.{ℕ_discrete}

-- the first session that was told of a position
abbrev teller : ℕ → List TallyState → ℕ
teller at [] = 0
teller at (p ∷ ps) = cond (eqb (times_told at p.entries) 0) (1 + teller at ps) 0

-- the session of each entry of a history, whose first position is n
abbrev labels : List TallyState → ℕ → List Entry → List ℕ
labels ps n [] = []
labels ps n (e ∷ es) = teller n ps ∷ labels ps (n + 1) es

labels_fit : (ps : List TallyState) (n : ℕ) (es : List Entry) → length (labels ps n es) ≡ length es
labels_fit ps n [] = refl
labels_fit ps n (e ∷ es) = let rest = labels_fit ps (n + 1) es in omega (arith, rest)

-- what session k was told
abbrev told_at : List TallyState → ℕ → List Told
told_at [] k = []
told_at (p ∷ ps) zero = p.entries
told_at (p ∷ ps) (suc k) = told_at ps k

told_read : (ps : List TallyState) (k : ℕ) → get_or (entries_of ps) k [] ≡ map entry_of (told_at ps k)
told_read [] k = refl
told_read (p ∷ ps) zero = refl
told_read (p ∷ ps) (suc k) = told_read ps k

abbrev count_at : ℕ → List TallyState → ℕ
count_at at ps = sum_by (λ (p : TallyState). times_told at p.entries) ps

none_tells : (at : ℕ) (ps : List TallyState) → count_at at ps ≡ 0 → (k : ℕ) → times_told at (told_at ps k) ≡ 0
none_tells at [] h k = refl
none_tells at (p ∷ ps) h zero = let more = sum_by-cons (λ (q : TallyState). times_told at q.entries) p ps in omega (arith, more, h)
none_tells at (p ∷ ps) h (suc k) = let more = sum_by-cons (λ (q : TallyState). times_told at q.entries) p ps in none_tells at ps (omega (arith, more, h)) k

abbrev one_if : ℕ → ℕ → ℕ
one_if a b = cond (eqb a b) 1 0

hit : (a b : ℕ) → a ≡ b → one_if a b ≡ 1
hit a b e = ap (λ t. cond t 1 0) (eq-eqb a b e)

miss : (a b : ℕ) → a ≢ b → one_if a b ≡ 0
miss a b ne = ap (λ t. cond t 1 0) (ne_eqb a b ne)

one_tells : (at : ℕ) (ps : List TallyState) → count_at at ps ≡ 1 → (k : ℕ) → times_told at (told_at ps k) ≡ one_if (teller at ps) k
one_tells at [] h k = absurd (cc)
one_tells at (p ∷ ps) h k =
    let more = sum_by-cons (λ (q : TallyState). times_told at q.entries) p ps in
    let mine = times_told at p.entries in
    dite (ℕ_discrete mine 0)
    (λ none.
    let first : teller at (p ∷ ps) ≡ 1 + teller at ps = ap (λ t. cond t (1 + teller at ps) 0) (eq-eqb mine 0 none) in
    let rest : count_at at ps ≡ 1 = omega (arith, more, h, none) in
    later first none (λ j. one_tells at ps rest j) k)
    (λ some.
    let first : teller at (p ∷ ps) ≡ 0 = ap (λ t. cond t (1 + teller at ps) 0) (ne_eqb mine 0 some) in
    let rest : count_at at ps ≡ 0 = omega (arith, more, h, some) in
    let whole : mine ≡ 1 = omega (arith, more, h, some) in
    here first whole rest k)
  where
    later : teller at (p ∷ ps) ≡ 1 + teller at ps → times_told at p.entries ≡ 0 → ((j : ℕ) → times_told at (told_at ps j) ≡ one_if (teller at ps) j) → (k : ℕ) → times_told at (told_at (p ∷ ps) k) ≡ one_if (teller at (p ∷ ps)) k
    later first none tail zero = none ∙ sym (miss (teller at (p ∷ ps)) 0 (λ e. omega (arith, first, e)))
    later first none tail (suc k) = tail k ∙ dite (ℕ_discrete (teller at ps) k)
        (λ e. hit (teller at ps) k e ∙ sym (hit (teller at (p ∷ ps)) (suc k) (omega (arith, first, e))))
        (λ ne. miss (teller at ps) k ne ∙ sym (miss (teller at (p ∷ ps)) (suc k) (λ e. ne (omega (arith, first, e)))))

    here : teller at (p ∷ ps) ≡ 0 → times_told at p.entries ≡ 1 → count_at at ps ≡ 0 → (k : ℕ) → times_told at (told_at (p ∷ ps) k) ≡ one_if (teller at (p ∷ ps)) k
    here first whole rest zero = whole ∙ sym (hit (teller at (p ∷ ps)) 0 first)
    here first whole rest (suc k) = none_tells at ps rest k ∙ sym (miss (teller at (p ∷ ps)) (suc k) (λ e. omega (arith, first, e)))

-- positions rise, from n on
abbrev RisesFrom : ℕ → List Told → Type 0
RisesFrom n [] = Unit {0}
RisesFrom n (t ∷ ts) = (n ≤ t.position) × RisesFrom (t.position + 1) ts

rises_after : (t : Told) (ts : List Told) → IsRising (t ∷ ts) → RisesFrom (t.position + 1) ts
rises_after t [] r = tt
rises_after t (u ∷ ts) r =
    let first : t.position < u.position = r 0 t (omega arith) in (
      omega (arith, first),
      rises_after u ts (λ k d low. subst (λ m. (get_or (u ∷ ts) k d).position < (get_or (t ∷ u ∷ ts) m d).position) (let z : suc k + 1 ≡ suc (k + 1) = omega arith in z) (r (suc k) d (omega (arith, low)))),
    )

rises_from : (n : ℕ) (ts : List Told) → All (IsLater n) ts → IsRising ts → RisesFrom n ts
rises_from n [] later r = tt
rises_from n (t ∷ ts) later r = (All-head (IsLater n) t ts later, rises_after t ts r)

told_one : (at : ℕ) (t : Told) (ts : List Told) → times_told at (t ∷ ts) ≡ one_if t.position at + times_told at ts
told_one at t ts = sum_by-cons (λ (u : Told). one_if u.position at) t ts

-- below the first position nothing is told
none_below : (at n : ℕ) (ts : List Told) → RisesFrom n ts → at < n → times_told at ts ≡ 0
none_below at n [] r low = refl
none_below at n (t ∷ ts) r low =
    let high = r.0 in
    let one = told_one at t ts in
    let not_here = miss t.position at (λ e. omega (arith, high, low, e)) in
    let rest = none_below at (t.position + 1) ts r.1 (omega (arith, high, low)) in
    omega (arith, one, not_here, rest)

labelled_hit : {T : Type 0} (k w : ℕ) (who : List ℕ) (x : T) (q : List T) → w ≡ k → items_of_label k (w ∷ who) (x ∷ q) ≡ x ∷ items_of_label k who q
labelled_hit k w who x q e = ap (λ b. cond b (x ∷ items_of_label k who q) (items_of_label k who q)) (eq-eqb w k e)

labelled_miss : {T : Type 0} (k w : ℕ) (who : List ℕ) (x : T) (q : List T) → w ≢ k → items_of_label k (w ∷ who) (x ∷ q) ≡ items_of_label k who q
labelled_miss k w who x q ne = ap (λ b. cond b (x ∷ items_of_label k who q) (items_of_label k who q)) (ne_eqb w k ne)

-- what session k was told from position n on is what is labelled with it from there on
lines_up : (history : List Entry) (ps : List TallyState) (k n : ℕ) (es : List Entry) (ts : List Told)
    → ((j : ℕ) → slice_get history (n + j) ≡ slice_get es j)
    → RisesFrom n ts → All (StandsIn history) ts
    → ((at : ℕ) → n ≤ at → at < n + length es → times_told at ts ≡ one_if (teller at ps) k)
    → map entry_of ts ≡ items_of_label k (labels ps n es) es
lines_up history ps k n [] [] here rises stands counts = refl
lines_up history ps k n [] (t ∷ ts) here rises stands counts =
    let low = rises.0 in
    let is : slice_get history t.position ≡ Some (entry_of t) = All-head (StandsIn history) t ts stands in
    let none : slice_get history t.position ≡ None = ap (λ m. slice_get history m) (let z : t.position ≡ n + (t.position - n) = omega (arith, low) in z) ∙ here (t.position - n) in
    let no : Some (entry_of t) ≡ None = sym is ∙ none in
    absurd (cc (no))
lines_up history ps k n (e ∷ es) [] here rises stands counts =
    let next : (j : ℕ) → slice_get history (n + 1 + j) ≡ slice_get es j = λ j. ap (λ m. slice_get history m) (let z : n + 1 + j ≡ n + suc j = omega arith in z) ∙ here (suc j) in
    let inside : n < n + length (e ∷ es) = omega arith in
    let at_n = counts n (omega arith) inside in
    let other : teller n ps ≢ k = λ same. (let one = hit (teller n ps) k same in absurd (omega (arith, at_n, one))) in
    sym (labelled_miss k (teller n ps) (labels ps (n + 1) es) e es other
    ∙ sym (lines_up history ps k (n + 1) es [] next tt (All-nil (StandsIn history)) (λ at low high. counts at (omega (arith, low)) (omega (arith, high)))))
lines_up history ps k n (e ∷ es) (t ∷ ts) here rises stands counts =
    let next : (j : ℕ) → slice_get history (n + 1 + j) ≡ slice_get es j = λ j. ap (λ m. slice_get history m) (let z : n + 1 + j ≡ n + suc j = omega arith in z) ∙ here (suc j) in
    let inside : n < n + length (e ∷ es) = omega arith in
    let at_n = counts n (omega arith) inside in
    let low = rises.0 in
    let one = told_one n t ts in
    dite (ℕ_discrete t.position n)
    (λ now.
    let first = hit t.position n now in
    let mine : teller n ps ≡ k = dite (ℕ_discrete (teller n ps) k) (λ same. same) (λ other. (let zero_is = miss (teller n ps) k other in absurd (omega (arith, at_n, one, first, zero_is)))) in
    let stand : slice_get history t.position ≡ Some (entry_of t) = All-head (StandsIn history) t ts stands in
    let at_zero : slice_get history t.position ≡ Some e = ap (λ m. slice_get history m) (let z : t.position ≡ n + 0 = omega (arith, now) in z) ∙ here zero in
    let found : Some (entry_of t) ≡ Some e = sym stand ∙ at_zero in
    let same : entry_of t ≡ e = cc (found) in
    let after : RisesFrom (n + 1) ts = subst (λ m. RisesFrom (m + 1) ts) now rises.1 in
    let rest = lines_up history ps k (n + 1) es ts next after (All-tail (StandsIn history) t ts stands)
    (λ at from to.
    let all = counts at (omega (arith, from)) (omega (arith, to)) in
    let split = told_one at t ts in
    let not_here = miss t.position at (λ is. omega (arith, is, now, from)) in
    omega (arith, all, split, not_here)) in
    ap (λ x. x ∷ map entry_of ts) same ∙ (ap (λ l. e ∷ l) rest ∙ sym (labelled_hit k (teller n ps) (labels ps (n + 1) es) e es mine)))
    (λ later.
    let after : RisesFrom (n + 1) (t ∷ ts) = (omega (arith, low, later), rises.1) in
    let nothing = none_below n (n + 1) (t ∷ ts) after (omega arith) in
    let other : teller n ps ≢ k = λ same. (let yes = hit (teller n ps) k same in absurd (omega (arith, at_n, nothing, yes))) in
    let rest = lines_up history ps k (n + 1) es (t ∷ ts) next after stands (λ at from to. counts at (omega (arith, from)) (omega (arith, to))) in
    rest ∙ sym (labelled_miss k (teller n ps) (labels ps (n + 1) es) e es other))

rises_at : (ps : List TallyState) → All (λ (p : TallyState). IsRising p.entries) ps → (k : ℕ) → IsRising (told_at ps k)
rises_at [] all k = λ j d low. absurd (omega (arith, low))
rises_at (p ∷ ps) all zero = All-head (λ (q : TallyState). IsRising q.entries) p ps all
rises_at (p ∷ ps) all (suc k) = rises_at ps (All-tail (λ (q : TallyState). IsRising q.entries) p ps all) k

all_at : (P : Told → Type 0) (ps : List TallyState) → All (λ (p : TallyState). All P p.entries) ps → (k : ℕ) → All P (told_at ps k)
all_at P [] all k = All-nil P
all_at P (p ∷ ps) all zero = All-head (λ (q : TallyState). All P q.entries) p ps all
all_at P (p ∷ ps) all (suc k) = all_at P ps (All-tail (λ (q : TallyState). All P q.entries) p ps all) k

-- what stands in a list from a place on
from_place : (es : List Entry) (n j : ℕ) → slice_get es (n + j) ≡ slice_get (drop n es) j
from_place es zero j = ap (λ m. slice_get es m) (let z : 0 + j ≡ j = omega arith in z)
from_place [] (suc n) j = refl
from_place (e ∷ es) (suc n) j = ap (λ m. slice_get (e ∷ es) m) (let z : suc n + j ≡ suc (n + j) = omega arith in z) ∙ from_place es n j

pub told_in_order : (history : List Entry) (earlier : ℕ) (ps : List TallyState) → IsTold history earlier ps → Interleaves (entries_of ps) (drop earlier history)
told_in_order history earlier ps told =
    let since = drop earlier history in
    let long = length-drop earlier history in (
      labels ps earlier since,
      labels_fit ps earlier since,
      λ k.
          told_read ps k
          ∙ lines_up history ps k earlier since (told_at ps k) (from_place history earlier)
          (rises_from earlier (told_at ps k) (all_at (IsLater earlier) ps told.later k) (rises_at ps told.rises k))
          (all_at (StandsIn history) ps told.stands k)
          (λ at low high. one_tells at ps (told.once at low (omega (arith, long, low, high))) k),
    )
