-- Which items fall to a lane, and what a lane keeps count of.
use Rattle.session_lanes.proofs.Common.{◌≡◌, ℕ, ◌+◌, ◌%◌, ◌<◌, ◌≤◌, ◌/◌, zero, suc, ltb, eqb, eq-eqb, ne_eqb, cond, Bool, true, false, List, [], ◌∷◌, ◌++◌, length, map, get_or, set, refl, sym, ap, ◌∙◌, subst, arith, append_assoc, append-nil, get_or_append_left, get_or_push, get_or-set_same, get_or-set_other, length_push, PassState, LaneState, EachAt, EachPair, of_lane, sessions_of, HandsOut, TakesBack, EachLane, lt-ltb, le-ltb, mod-eq_of_lt, mod-lt, mod_self, suc-mod, mod-add-div', zero-div, div-eq_of_lt-le, add-mul, dec_lt}
use mathlib.Core.Logic.{dite}
use native.Mathlib.Decide.{ℕ_discrete}

pub EachAt-push : {X : Type 0} (P : ℕ → X → Type 0) (xs : List X) (x : X) → EachAt P xs → P (length xs) x → EachAt P (xs ++ x ∷ [])
EachAt-push P xs x each last k d low = dite (ℕ_discrete k (length xs))
    (λ e.
    let here = get_or_push xs x d k (sym e) in
    rw here (subst (λ n. P n x) (sym e) last))
    (λ ne.
    let long = length_push xs x in
    let inside : k < length xs = omega (arith, long, low, ne) in
    rw (get_or_append_left xs (x ∷ []) d k inside) (each k d inside))

pub of_lane-push : {X : Type 0} (k lanes i : ℕ) (xs : List X) (x : X) → of_lane k lanes i (xs ++ x ∷ []) ≡ of_lane k lanes i xs ++ cond (eqb ((i + length xs) % lanes) k) (x ∷ []) []
of_lane-push k lanes i [] x = ap (λ n. cond (eqb (n % lanes) k) (x ∷ []) []) (let z : i ≡ i + 0 = omega arith in z)
of_lane-push k lanes i (y ∷ xs) x =
    let same : i + 1 + length xs ≡ i + length (y ∷ xs) = omega arith in
    let rest : of_lane k lanes (i + 1) (xs ++ x ∷ []) ≡ of_lane k lanes (i + 1) xs ++ cond (eqb ((i + length (y ∷ xs)) % lanes) k) (x ∷ []) [] =
    subst (λ n. of_lane k lanes (i + 1) (xs ++ x ∷ []) ≡ of_lane k lanes (i + 1) xs ++ cond (eqb (n % lanes) k) (x ∷ []) []) same (of_lane-push k lanes (i + 1) xs x) in
    let last = cond (eqb ((i + length (y ∷ xs)) % lanes) k) (x ∷ []) [] in
    let b = eqb (i % lanes) k in
    ap (λ l. cond b (y ∷ l) l) rest ∙ out b y (of_lane k lanes (i + 1) xs) last
  where
    out : {X : Type 0} (b : Bool) (y : X) (l m : List X) → cond b (y ∷ (l ++ m)) (l ++ m) ≡ cond b (y ∷ l) l ++ m
    out true y l m = refl
    out false y l m = refl

pub of_lane-fits : {X : Type 0} (k lanes i : ℕ) (xs : List X) → length (of_lane k lanes i xs) ≤ length xs
of_lane-fits k lanes i [] = omega arith
of_lane-fits k lanes i (x ∷ xs) = out (eqb (i % lanes) k) (of_lane k lanes (i + 1) xs) (of_lane-fits k lanes (i + 1) xs)
  where
    out : (b : Bool) (l : List _) → length l ≤ length xs → length (cond b (x ∷ l) l) ≤ length (x ∷ xs)
    out true l h = omega (arith, h)
    out false l h = omega (arith, h)

-- as many fall to a lane of one list as of another that is as long
pub of_lane-alike : {X Y : Type 0} (k lanes i : ℕ) (xs : List X) (ys : List Y) → length xs ≡ length ys → length (of_lane k lanes i xs) ≡ length (of_lane k lanes i ys)
of_lane-alike k lanes i [] [] e = refl
of_lane-alike k lanes i [] (y ∷ ys) e = absurd (omega (arith, e))
of_lane-alike k lanes i (x ∷ xs) [] e = absurd (omega (arith, e))
of_lane-alike k lanes i (x ∷ xs) (y ∷ ys) e =
    let rest = of_lane-alike k lanes (i + 1) xs ys (omega (arith, e)) in
    out (eqb (i % lanes) k) (of_lane k lanes (i + 1) xs) (of_lane k lanes (i + 1) ys) rest
  where
    out : (b : Bool) (l : List _) (m : List _) → length l ≡ length m → length (cond b (x ∷ l) l) ≡ length (cond b (y ∷ m) m)
    out true l m h = omega (arith, h)
    out false l m h = h

pub of_lane-map : {X Y : Type 0} (f : X → Y) (k lanes i : ℕ) (xs : List X) → of_lane k lanes i (map f xs) ≡ map f (of_lane k lanes i xs)
of_lane-map f k lanes i [] = refl
of_lane-map f k lanes i (x ∷ xs) =
    ap (λ l. cond (eqb (i % lanes) k) (f x ∷ l) l) (of_lane-map f k lanes (i + 1) xs) ∙ out (eqb (i % lanes) k) (of_lane k lanes (i + 1) xs)
  where
    out : (b : Bool) (l : List _) → cond b (f x ∷ map f l) (map f l) ≡ map f (cond b (x ∷ l) l)
    out true l = refl
    out false l = refl

-- a change of the lane that the next item falls to
pub one_more : {X : Type 0} (R : LaneState → LaneState → List X → Type 0)
    → ((a b c : LaneState) (l : List X) (x : X) → R a b l → R b c (x ∷ []) → R a c (l ++ x ∷ []))
    → (lanes : ℕ) (old now : List LaneState) (j : ℕ) (r : LaneState) (xs : List X) (x : X)
    → length old ≡ lanes → length now ≡ lanes → j ≡ length xs % lanes → j < lanes
    → EachLane (λ k a b. R a b (of_lane k lanes 0 xs)) old now
    → ((d : LaneState) → R (get_or now j d) r (x ∷ []))
    → EachLane (λ k a b. R a b (of_lane k lanes 0 (xs ++ x ∷ []))) old (set now j r)
one_more R add lanes old now j r xs x old_is now_is falls within each step k d low =
    let pushed = of_lane-push k lanes 0 xs x in
    dite (ℕ_discrete j k)
    (λ e.
    let hit : eqb (length xs % lanes) k ≡ true = eq-eqb (length xs % lanes) k (sym falls ∙ e) in
    let grown : of_lane k lanes 0 (xs ++ x ∷ []) ≡ of_lane k lanes 0 xs ++ x ∷ [] = pushed ∙ ap (λ b. of_lane k lanes 0 xs ++ cond b (x ∷ []) []) (ap (λ n. eqb (n % lanes) k) (let z : 0 + length xs ≡ length xs = omega arith in z) ∙ hit) in
    let here : get_or (set now j r) k d ≡ r = ap (λ n. get_or (set now j r) n d) (sym e) ∙ get_or-set_same now j r d (omega (arith, now_is, within)) in
    let was : R (get_or now k d) r (x ∷ []) = subst (λ n. R (get_or now n d) r (x ∷ [])) e (step d) in
    rw (here, grown) (add _ _ r _ x (each k d low) was))
    (λ ne.
    let miss : eqb (length xs % lanes) k ≡ false = ne_eqb (length xs % lanes) k (λ same. ne (falls ∙ same)) in
    let kept : of_lane k lanes 0 (xs ++ x ∷ []) ≡ of_lane k lanes 0 xs = pushed ∙ (ap (λ b. of_lane k lanes 0 xs ++ cond b (x ∷ []) []) (ap (λ n. eqb (n % lanes) k) (let z : 0 + length xs ≡ length xs = omega arith in z) ∙ miss) ∙ append-nil _) in
    let here = get_or-set_other now j k r d (λ same. ne (sym same)) in
    rw (here, kept) (each k d low))

pub hands_more : {X : Type 0} (a b c : LaneState) (l : List X) (x : X) → HandsOut a b (length l) → HandsOut b c (length (x ∷ [])) → HandsOut a c (length (l ++ x ∷ []))
hands_more a b c l x first then =
    let long = length_push l x in
    let p = first.parts in
    let q = then.parts in record {
      id = then.id ∙ first.id;
      capacity = then.capacity ∙ first.capacity;
      back = then.back ∙ first.back;
      put = then.put ∙ first.put;
      taken = then.taken ∙ first.taken;
      parts = omega (arith, long, p, q);
    }

pub back_more : (a b c : LaneState) (l : List PassState) (x : PassState) → TakesBack a b l → TakesBack b c (x ∷ []) → TakesBack a c (l ++ x ∷ [])
back_more a b c l x first then = record {
  id = then.id ∙ first.id;
  capacity = then.capacity ∙ first.capacity;
  pass = then.pass ∙ first.pass;
  back = then.back ∙ (ap (λ m. m ++ x ∷ []) first.back ∙ append_assoc a.back l (x ∷ []));
}

pub EachPair-push : {X Y : Type 0} (P : ℕ → X → Y → Type 0) (xs : List X) (ys : List Y) (x : X) (y : Y) → EachPair P xs ys → P (length xs) x y → EachPair P (xs ++ x ∷ []) (ys ++ y ∷ [])
EachPair-push P xs ys x y each last =
    let alike = each.0 in
    let long = length_push xs x in
    let tall = length_push ys y in (
      omega (arith, alike, long, tall),
      λ k d e low. dite (ℕ_discrete k (length xs))
          (λ is.
          let here = get_or_push xs x d k (sym is) in
          let there = get_or_push ys y e k (alike ∙ sym is) in
          rw (here, there) (subst (λ n. P n x y) (sym is) last))
          (λ ne.
          let inside : k < length xs = omega (arith, long, low, ne) in
          let within : k < length ys = omega (arith, alike, inside) in
          rw (get_or_append_left xs (x ∷ []) d k inside, get_or_append_left ys (y ∷ []) e k within) (each.1 k d e inside)),
    )

-- ---- how many sessions fall to a lane

-- a quotient and a remainder, of one more
next_quotient : (n m : ℕ) → 0 < n → (m % n + 1 < n → (suc m / n ≡ m / n) × (suc m % n ≡ m % n + 1)) × (m % n + 1 ≡ n → (suc m / n ≡ m / n + 1) × (suc m % n ≡ 0))
next_quotient n m some =
    let parts = mod-add-div' m n in
    let rest = suc-mod m n in
    let more = add-mul (m / n) 1 n in
    let two = add-mul (m / n + 1) 1 n in (
      (λ low. (
        div-eq_of_lt-le n (omega (arith, parts)) (omega (arith, parts, more, low)),
        rest ∙ (mod-eq_of_lt (omega (arith, low)) ∙ omega arith),
      )),
      (λ full. (
        div-eq_of_lt-le n (omega (arith, parts, more, full)) (omega (arith, parts, more, two, full, some)),
        rest ∙ (ap (λ r. r % n) (let z : suc (m % n) ≡ n = omega (arith, full) in z) ∙ mod_self n),
      )),
    )

abbrev one_if : Bool → ℕ
one_if b = cond b 1 0

one_more_session : (k n m : ℕ) → k < n → suc m / n + one_if (ltb k (suc m % n)) ≡ m / n + one_if (ltb k (m % n)) + one_if (eqb (m % n) k)
one_more_session k n m low =
    let some : 0 < n = omega (arith, low) in
    let next = next_quotient n m some in
    let within : m % n < n = mod-lt m some in
    dite (ℕ_discrete (m % n + 1) n)
    (λ full.
    let q = (next.1 full).0 in
    let r = ap (λ x. one_if (ltb k x)) (next.1 full).1 ∙ ap one_if (le-ltb k 0 (omega arith)) in
    dite (ℕ_discrete (m % n) k)
    (λ last.
    let hit = ap one_if (eq-eqb (m % n) k last) in
    let not_yet = ap one_if (le-ltb k (m % n) (omega (arith, last))) in
    omega (arith, q, r, hit, not_yet))
    (λ other.
    let miss = ap one_if (ne_eqb (m % n) k other) in
    let before = ap one_if (lt-ltb k (m % n) (omega (arith, full, low, other))) in
    omega (arith, q, r, miss, before)))
    (λ more.
    let room : m % n + 1 < n = omega (arith, within, more) in
    let q = (next.0 room).0 in
    let here = (next.0 room).1 in
    dite (ℕ_discrete (m % n) k)
    (λ last.
    let r = ap (λ x. one_if (ltb k x)) here ∙ ap one_if (lt-ltb k (m % n + 1) (omega (arith, last))) in
    let hit = ap one_if (eq-eqb (m % n) k last) in
    let not_yet = ap one_if (le-ltb k (m % n) (omega (arith, last))) in
    omega (arith, q, r, hit, not_yet))
    (λ other.
    let miss = ap one_if (ne_eqb (m % n) k other) in
    dite (dec_lt k (m % n))
    (λ before.
    let r = ap (λ x. one_if (ltb k x)) here ∙ ap one_if (lt-ltb k (m % n + 1) (omega (arith, before))) in
    let was = ap one_if (lt-ltb k (m % n) before) in
    omega (arith, q, r, miss, was))
    (λ after.
    let high : m % n + 1 ≤ k = omega (arith, after, other) in
    let r = ap (λ x. one_if (ltb k x)) here ∙ ap one_if (le-ltb k (m % n + 1) high) in
    let was = ap one_if (le-ltb k (m % n) (omega (arith, high))) in
    omega (arith, q, r, miss, was))))

pub sessions_of-is : (k n m : ℕ) → k < n → sessions_of k n m ≡ m / n + one_if (ltb k (m % n))
sessions_of-is k n zero low =
    let q = zero-div n in
    let r = ap (λ x. one_if (ltb k x)) (mod-eq_of_lt (let z : 0 < n = omega (arith, low) in z)) ∙ ap one_if (le-ltb k 0 (omega arith)) in
    omega (arith, q, r)
sessions_of-is k n (suc m) low =
    let before = sessions_of-is k n m low in
    let more = one_more_session k n m low in
    omega (arith, before, more)

pub sessions_of-within : (k n m : ℕ) → sessions_of k n m ≤ m
sessions_of-within k n zero = omega arith
sessions_of-within k n (suc m) = out (eqb (m % n) k) (sessions_of-within k n m)
  where
    out : (b : Bool) → sessions_of k n m ≤ m → sessions_of k n m + cond b 1 0 ≤ suc m
    out true h = omega (arith, h)
    out false h = omega (arith, h)
