-- What the mark_count of a settling stand for.
use Rattle.hub_shared.proofs.Common.{◌≡◌, ◌≢◌, ℕ, zero, suc, ◌+◌, ◌-◌, ◌<◌, ◌≤◌, eqb, eq-eqb, ne_eqb, cond, Bool, true, false, List, [], ◌∷◌, length, take, get_or, set, Some, sum_by, refl, sym, ap, ◌∙◌, subst, arith, lt_of_not-le, get_or-take, length-take-le, slice_get, All, take_more, get_or_default, get_or-set_same, get_or-set_other, sum_by_more, sum_by_more_le, sum_by-set, sum_by-cons, sum_by-take-le, count_by-le-length, All-push, slice_get_within, get_or_from_slice_get, Entry, Told, SettleFault, CountDiffers, Foreign, Earlier, Twice, OutOfOrder, Memory, TallyState, StandsIn, IsLater, times_told, IsRising, IsTold, IsSettleFault, mark, mark_count, MarksTally, IsTallyFault, MarksTallies}
use mathlib.Core.Logic.{dite}
use native.Mathlib.Decide.{ℕ_discrete, dec_le}

abbrev one : Bool → ℕ
one b = cond b 1 0

told_one : (told : List Told) (i : ℕ) (d : Told) (at : ℕ) → i < length told → times_told at (take (i + 1) told) ≡ times_told at (take i told) + one (eqb (get_or told i d).position at)
told_one told i d at lt = sum_by_more (λ (t : Told). one (eqb t.position at)) told i d lt

-- one more entry is checked, and its position marked
pub step : (history : List Entry) (earlier : ℕ) (before seen : List Bool) (told : List Told) (i : ℕ) (d : Told)
    → MarksTally history earlier before seen (take i told) → i < length told → StandsIn history (get_or told i d) → IsLater earlier (get_or told i d)
    → (0 < i → (get_or told (i - 1) d).position < (get_or told i d).position)
    → (get_or told i d).position - earlier < length seen → get_or seen ((get_or told i d).position - earlier) false ≡ false
    → MarksTally history earlier before (set seen ((get_or told i d).position - earlier) true) (take (i + 1) told)
step history earlier before seen told i d so_far lt stands later rises within unseen =
    let t = get_or told i d in
    let p = t.position in
    let more = take_more told i d lt in
    record {
      stands = subst (λ l. All (StandsIn history) l) (sym more) (All-push (StandsIn history) (take i told) t so_far.stands stands);
      later = subst (λ l. All (IsLater earlier) l) (sym more) (All-push (IsLater earlier) (take i told) t so_far.later later);
      rises = λ k e short.
          let top : k + 1 < i + 1 = (let l = length-take-le (i + 1) told (omega (arith, lt)) in omega (arith, l, short)) in
          let here = get_or-take (i + 1) told k e (omega (arith, top)) in
          let next = get_or-take (i + 1) told (k + 1) e top in
          let goes : (get_or told k e).position < (get_or told (k + 1) e).position = dite (ℕ_discrete (k + 1) i)
          (λ last.
          let r = rises (omega (arith, last)) in
          let a : get_or told k e ≡ get_or told (i - 1) d = ap (λ j. get_or told j e) (let z : k ≡ i - 1 = omega (arith, last) in z) ∙ get_or_default told (i - 1) e d (omega (arith, lt)) in
          let b : get_or told (k + 1) e ≡ get_or told i d = ap (λ j. get_or told j e) last ∙ get_or_default told i e d lt in
          rw (a, b) r)
          (λ inner.
          let l = length-take-le i told (omega (arith, lt)) in
          let old = so_far.rises k e (omega (arith, l, inner, top)) in
          let a = get_or-take i told k e (omega (arith, inner, top)) in
          let b = get_or-take i told (k + 1) e (omega (arith, inner, top)) in
          rw (← a, ← b) old) in
          rw (here, next) goes;
      marked = λ at low inside.
          let count = told_one told i d at lt in
          let old = so_far.marked at low inside in
          dite (ℕ_discrete p at)
          (λ is.
          let yes : one (eqb p at) ≡ 1 = ap one (eq-eqb p at is) in
          let was : mark seen earlier at ≡ 0 = ap (λ j. one (get_or seen (j - earlier) false)) (sym is) ∙ ap one unseen in
          let now : mark (set seen (p - earlier) true) earlier at ≡ 1 = ap (λ j. one (get_or (set seen (p - earlier) true) (j - earlier) false)) (sym is) ∙ ap one (get_or-set_same seen (p - earlier) true false within) in
          omega (arith, count, old, yes, was, now))
          (λ ne.
          let no : one (eqb p at) ≡ 0 = ap one (ne_eqb p at ne) in
          let apart : at - earlier ≢ p - earlier = λ e. ne (omega (arith, e, low, later)) in
          let same : mark (set seen (p - earlier) true) earlier at ≡ mark seen earlier at = ap one (get_or-set_other seen (p - earlier) (at - earlier) true false apart) in
          omega (arith, count, old, no, same));
      counted =
          (let set_one = sum_by-set one seen (p - earlier) true false within in
          let was : one (get_or seen (p - earlier) false) ≡ 0 = ap one unseen in
          let l0 = length-take-le i told (omega (arith, lt)) in
          let l1 = length-take-le (i + 1) told (omega (arith, lt)) in
          let old = so_far.counted in
          omega (arith, set_one, was, l0, l1, old));
    }

-- a position that was marked is told once more
pub twice : (history : List Entry) (earlier : ℕ) (before seen : List Bool) (told : List Told) (i : ℕ) (d : Told)
    → MarksTally history earlier before seen (take i told) → i < length told → IsLater earlier (get_or told i d) → (get_or told i d).position < length history
    → get_or seen ((get_or told i d).position - earlier) false ≡ true
    → 1 < mark before earlier (get_or told i d).position + times_told (get_or told i d).position told
twice history earlier before seen told i d so_far lt later inside marked =
    let p = (get_or told i d).position in
    let old = so_far.marked p later inside in
    let was : mark seen earlier p ≡ 1 = ap one marked in
    let count = told_one told i d p lt in
    let yes : one (eqb p p) ≡ 1 = ap one (eq-eqb p p refl) in
    let most = sum_by-take-le (λ (t : Told). one (eqb t.position p)) told (i + 1) in
    omega (arith, old, was, count, yes, most)

-- one more tally is checked
pub more_tallies : (history : List Entry) (earlier : ℕ) (seen after : List Bool) (tallies : List TallyState) (s : ℕ) (d : TallyState)
    → MarksTallies history earlier seen (take s tallies) → MarksTally history earlier seen after (get_or tallies s d).entries → s < length tallies
    → MarksTallies history earlier after (take (s + 1) tallies)
more_tallies history earlier seen after tallies s d so_far checked lt =
    let p = get_or tallies s d in
    let more = take_more tallies s d lt in
    record {
      stands = subst (λ l. All (λ (p : TallyState). All (StandsIn history) p.entries) l) (sym more) (All-push (λ (p : TallyState). All (StandsIn history) p.entries) (take s tallies) p so_far.stands checked.stands);
      later = subst (λ l. All (λ (p : TallyState). All (IsLater earlier) p.entries) l) (sym more) (All-push (λ (p : TallyState). All (IsLater earlier) p.entries) (take s tallies) p so_far.later checked.later);
      rises = subst (λ l. All (λ (p : TallyState). IsRising p.entries) l) (sym more) (All-push (λ (p : TallyState). IsRising p.entries) (take s tallies) p so_far.rises checked.rises);
      marked = λ at low inside. let a = so_far.marked at low inside in let b = checked.marked at low inside in let c = sum_by_more (λ (p : TallyState). times_told at p.entries) tallies s d lt in omega (arith, a, b, c);
      counted = (let a = so_far.counted in let b = checked.counted in let c = sum_by_more (λ (p : TallyState). length p.entries) tallies s d lt in omega (arith, a, b, c));
    }

-- a fault of one tally is a fault of all
pub lift : (f : SettleFault) (history : List Entry) (earlier : ℕ) (seen : List Bool) (tallies : List TallyState) (s : ℕ) (p : TallyState)
    → IsTallyFault f s history earlier seen p.entries → MarksTallies history earlier seen (take s tallies) → slice_get tallies s ≡ Some p → IsSettleFault f history earlier tallies
lift (CountDiffers a b) history earlier seen tallies s p shows so_far at = absurd shows
lift (Foreign a i) history earlier seen tallies s p shows so_far at = (p, ap (slice_get tallies) shows.0 ∙ at, shows.1)
lift (Earlier a i) history earlier seen tallies s p shows so_far at = (p, ap (slice_get tallies) shows.0 ∙ at, shows.1)
lift (Twice a) history earlier seen tallies s p shows so_far at =
    let marked = so_far.marked a shows.0 shows.1 in
    let most = sum_by_more_le (λ (p : TallyState). times_told a p.entries) tallies s p (slice_get_within tallies s p at) in
    let here : times_told a (get_or tallies s p).entries ≡ times_told a p.entries = ap (λ (p : TallyState). times_told a p.entries) (get_or_from_slice_get tallies s p p at) in
    let more = shows.2 in
    (shows.0, shows.1, omega (arith, marked, most, here, more))
lift (OutOfOrder a i) history earlier seen tallies s p shows so_far at = (p, ap (slice_get tallies) shows.0 ∙ at, shows.1)
lift Memory history earlier seen tallies s p shows so_far at = absurd shows

-- where all are marked, each is
all_marked : (seen : List Bool) (at : ℕ) → length seen ≤ mark_count seen → at < length seen → one (get_or seen at false) ≡ 1
all_marked [] at all lt = absurd (omega arith)
all_marked (true ∷ seen) zero all lt = refl
all_marked (false ∷ seen) at all lt = let c = sum_by-cons one false seen in let m = count_by-le-length (λ b. b) seen in absurd (omega (arith, c, m, all))
all_marked (true ∷ seen) (suc at) all lt = let c = sum_by-cons one true seen in all_marked seen at (omega (arith, c, all)) (omega arith)

pub done : (history : List Entry) (earlier : ℕ) (seen : List Bool) (tallies : List TallyState)
    → MarksTallies history earlier seen tallies → length seen + earlier ≡ length history → sum_by (λ (p : TallyState). length p.entries) tallies + earlier ≡ length history
    → IsTold history earlier tallies
done history earlier seen tallies so_far fits told = record {
  stands = so_far.stands;
  later = so_far.later;
  once = λ at low inside.
      let m = so_far.marked at low inside in
      let c = so_far.counted in
      let a = all_marked seen (at - earlier) (omega (arith, c, fits, told)) (omega (arith, fits, low, inside)) in
      omega (arith, m, a);
  rises = so_far.rises;
}

-- f of each number below n, added up
abbrev sum_upto : (ℕ → ℕ) → ℕ → ℕ
sum_upto f zero = 0
sum_upto f (suc n) = sum_upto f n + f n

upto_add : (f g : ℕ → ℕ) (n : ℕ) → sum_upto (λ a. f a + g a) n ≡ sum_upto f n + sum_upto g n
upto_add f g zero = refl
upto_add f g (suc n) = omega (arith, upto_add f g n)

upto_same : (f g : ℕ → ℕ) (n : ℕ) → ((a : ℕ) → f a ≡ g a) → sum_upto f n ≡ sum_upto g n
upto_same f g zero same = refl
upto_same f g (suc n) same = let h = same n in omega (arith, h, upto_same f g n same)

upto_none : (p n : ℕ) → n ≤ p → sum_upto (λ a. one (eqb p a)) n ≡ 0
upto_none p zero le = refl
upto_none p (suc n) le = let no : one (eqb p n) ≡ 0 = ap one (ne_eqb p n (λ e. absurd (omega arith))) in omega (arith, no, upto_none p n (omega arith))

upto_one : (p n : ℕ) → p < n → sum_upto (λ a. one (eqb p a)) n ≡ 1
upto_one p zero lt = absurd (omega arith)
upto_one p (suc n) lt = dite (ℕ_discrete p n)
    (λ e. let yes : one (eqb p n) ≡ 1 = ap one (eq-eqb p n e) in omega (arith, yes, upto_none p n (omega (arith, e))))
    (λ ne. let no : one (eqb p n) ≡ 0 = ap one (ne_eqb p n ne) in omega (arith, no, upto_one p n (omega (arith, ne))))

upto_zero : (n : ℕ) → sum_upto (λ a. 0) n ≡ 0
upto_zero zero = refl
upto_zero (suc n) = omega (arith, upto_zero n)

-- nothing below m, and one at each number from there on
upto_ones : (f : ℕ → ℕ) (m n : ℕ) → ((a : ℕ) → a < m → f a ≡ 0) → ((a : ℕ) → m ≤ a → a < n → f a ≡ 1) → sum_upto f n ≡ n - m
upto_ones f m zero none each = omega arith
upto_ones f m (suc n) none each =
    let rest = upto_ones f m n none (λ a low lt. each a low (omega arith)) in
    dite (dec_le m n)
    (λ low. let yes = each n low (omega arith) in omega (arith, rest, yes, low))
    (λ high. let low : n < m = lt_of_not-le high in let no = none n low in omega (arith, rest, no, low))

-- each entry is told at one position
upto_told : (told : List Told) (n : ℕ) → All (λ (t : Told). t.position < n) told → sum_upto (λ a. times_told a told) n ≡ length told
upto_told [] n below = upto_zero n
upto_told (t ∷ told) n below =
    let first : t.position < n = below 0 t (omega arith) in
    let rest : All (λ (t : Told). t.position < n) told = (λ k d lt. below (suc k) d (omega arith)) in
    let split = upto_same (λ a. times_told a (t ∷ told)) (λ a. one (eqb t.position a) + times_told a told) n (λ a. sum_by-cons (λ (t : Told). one (eqb t.position a)) t told) in
    let add = upto_add (λ a. one (eqb t.position a)) (λ a. times_told a told) n in
    omega (arith, split, add, upto_one t.position n first, upto_told told n rest)

upto_all : (tallies : List TallyState) (n : ℕ) → All (λ (p : TallyState). All (λ (t : Told). t.position < n) p.entries) tallies → sum_upto (λ a. sum_by (λ (p : TallyState). times_told a p.entries) tallies) n ≡ sum_by (λ (p : TallyState). length p.entries) tallies
upto_all [] n below = upto_zero n
upto_all (p ∷ tallies) n below =
    let rest : All (λ (p : TallyState). All (λ (t : Told). t.position < n) p.entries) tallies = (λ k d lt. below (suc k) d (omega arith)) in
    let split = upto_same (λ a. sum_by (λ (p : TallyState). times_told a p.entries) (p ∷ tallies)) (λ a. times_told a p.entries + sum_by (λ (p : TallyState). times_told a p.entries) tallies) n (λ a. sum_by-cons (λ (p : TallyState). times_told a p.entries) p tallies) in
    let add = upto_add (λ a. times_told a p.entries) (λ a. sum_by (λ (p : TallyState). times_told a p.entries) tallies) n in
    let sum = sum_by-cons (λ (p : TallyState). length p.entries) p tallies in
    omega (arith, split, add, sum, upto_told p.entries n (below 0 p (omega arith)), upto_all tallies n rest)

-- no position below those is told
none_earlier : (at earlier : ℕ) (told : List Told) → All (IsLater earlier) told → at < earlier → times_told at told ≡ 0
none_earlier at earlier [] later low = refl
none_earlier at earlier (t ∷ told) later low =
    let first : earlier ≤ t.position = later 0 t (omega arith) in
    let rest : All (IsLater earlier) told = (λ k d lt. later (suc k) d (omega arith)) in
    let one_more = sum_by-cons (λ (t : Told). one (eqb t.position at)) t told in
    let no : one (eqb t.position at) ≡ 0 = ap one (ne_eqb t.position at (λ e. omega (arith, e, first, low))) in
    omega (arith, one_more, no, none_earlier at earlier told rest low)

none_earlier_in : (at earlier : ℕ) (tallies : List TallyState) → All (λ (p : TallyState). All (IsLater earlier) p.entries) tallies → at < earlier
    → sum_by (λ (p : TallyState). times_told at p.entries) tallies ≡ 0
none_earlier_in at earlier [] later low = refl
none_earlier_in at earlier (p ∷ tallies) later low =
    let rest : All (λ (p : TallyState). All (IsLater earlier) p.entries) tallies = (λ k d lt. later (suc k) d (omega arith)) in
    let one_more = sum_by-cons (λ (p : TallyState). times_told at p.entries) p tallies in
    omega (arith, one_more, none_earlier at earlier p.entries (later 0 p (omega arith)) low, none_earlier_in at earlier tallies rest low)

-- a history that is told has as many entries as were there before and were told
told_length : (history : List Entry) (earlier : ℕ) (tallies : List TallyState) → IsTold history earlier tallies
    → sum_by (λ (p : TallyState). length p.entries) tallies ≡ length history - earlier
told_length history earlier tallies told =
    let below : All (λ (p : TallyState). All (λ (t : Told). t.position < length history) p.entries) tallies = (λ k d lt j e short. slice_get_within history (get_or (get_or tallies k d).entries j e).position _ (told.stands k d lt j e short)) in
    sym (upto_all tallies (length history) below)
    ∙ upto_ones (λ a. sum_by (λ (p : TallyState). times_told a p.entries) tallies) earlier (length history) (λ a low. none_earlier_in a earlier tallies told.later low) told.once

-- one that stands at a place of the list
at_place : {T : Type 0} (P : T → Type 0) (xs : List T) (i : ℕ) (x : T) → All P xs → slice_get xs i ≡ Some x → P x
at_place P xs i x all at = subst P (get_or_from_slice_get xs i x x at) (all i x (slice_get_within xs i x at))

-- no fault but Memory is shown by a history that is told
pub refutes : (f : SettleFault) (history : List Entry) (earlier : ℕ) (tallies : List TallyState) → IsSettleFault f history earlier tallies → IsTold history earlier tallies → f ≡ Memory
refutes (CountDiffers a b) history earlier tallies shows told =
    let n = told_length history earlier tallies told in
    let calls = shows.0 in
    let count = shows.1 in
    absurd (shows.2 (omega (arith, n, calls, count)))
refutes (Foreign a i) history earlier tallies shows told = let t = shows.2 in absurd (t.2 (at_place (StandsIn history) shows.0.entries i t.0 (at_place (λ (p : TallyState). All (StandsIn history) p.entries) tallies a shows.0 told.stands shows.1) t.1))
refutes (Earlier a i) history earlier tallies shows told =
    let t = shows.2 in
    let later : earlier ≤ t.0.position = at_place (IsLater earlier) shows.0.entries i t.0 (at_place (λ (p : TallyState). All (IsLater earlier) p.entries) tallies a shows.0 told.later shows.1) t.1 in
    let before = t.3 in
    absurd (omega (arith, later, before))
refutes (Twice a) history earlier tallies shows told = let o = told.once a shows.0 shows.1 in let m = shows.2 in absurd (omega (arith, o, m))
refutes (OutOfOrder a i) history earlier tallies shows told =
    let p = shows.0 in
    let r = at_place (λ (p : TallyState). IsRising p.entries) tallies a p told.rises shows.1 in
    let s = shows.2 in
    let t = s.1 in
    let some_before = s.0 in
    let inside = slice_get_within p.entries i t.1 t.3 in
    let step = r (i - 1) t.0 (omega (arith, some_before, inside)) in
    let here : get_or p.entries (i - 1) t.0 ≡ t.0 = get_or_from_slice_get p.entries (i - 1) t.0 t.0 t.2 in
    let back : i - 1 + 1 ≡ i = omega (arith, some_before) in
    let there : get_or p.entries (i - 1 + 1) t.0 ≡ t.1 = ap (λ j. get_or p.entries j t.0) back ∙ get_or_from_slice_get p.entries i t.1 t.0 t.3 in
    let le = t.4 in
    let a1 = ap (λ (t : Told). t.position) here in
    let a2 = ap (λ (t : Told). t.position) there in
    absurd (omega (arith, step, a1, a2, le))
refutes Memory history earlier tallies shows told = refl

-- the same, of the entry that was read at i
pub step_at : (history : List Entry) (earlier : ℕ) (before seen : List Bool) (told : List Told) (i : ℕ) (t : Told) → t ≡ get_or told i t
    → MarksTally history earlier before seen (take i told) → i < length told → StandsIn history t → IsLater earlier t
    → (0 < i → (get_or told (i - 1) t).position < t.position)
    → t.position - earlier < length seen → get_or seen (t.position - earlier) false ≡ false
    → MarksTally history earlier before (set seen (t.position - earlier) true) (take (i + 1) told)
step_at history earlier before seen told i t is so_far lt stands later rises within unseen =
    subst (λ (u : Told). MarksTally history earlier before (set seen (u.position - earlier) true) (take (i + 1) told)) (sym is)
    (step history earlier before seen told i t so_far lt
    (subst (λ (u : Told). StandsIn history u) is stands)
    (subst (λ (u : Told). IsLater earlier u) is later)
    (λ some_before. subst (λ (u : Told). (get_or told (i - 1) t).position < u.position) is (rises some_before))
    (subst (λ (u : Told). u.position - earlier < length seen) is within)
    (subst (λ (u : Told). get_or seen (u.position - earlier) false ≡ false) is unseen))

pub twice_at : (history : List Entry) (earlier : ℕ) (before seen : List Bool) (told : List Told) (i : ℕ) (t : Told) → t ≡ get_or told i t
    → MarksTally history earlier before seen (take i told) → i < length told → IsLater earlier t → t.position < length history
    → get_or seen (t.position - earlier) false ≡ true
    → 1 < mark before earlier t.position + times_told t.position told
twice_at history earlier before seen told i t is so_far lt later inside marked =
    subst (λ (u : Told). 1 < mark before earlier u.position + times_told u.position told) (sym is)
    (twice history earlier before seen told i t so_far lt
    (subst (λ (u : Told). IsLater earlier u) is later)
    (subst (λ (u : Told). u.position < length history) is inside)
    (subst (λ (u : Told). get_or seen (u.position - earlier) false ≡ true) is marked))

-- the position before is lower
pub rises_at : (told : List Told) (i : ℕ) (p t : Told) → i < length told → (get_or told (i - 1) p).position < t.position → (get_or told (i - 1) t).position < t.position
rises_at told i p t lt rises =
    let there : i - 1 < length told = omega (arith, lt) in
    let a = ap (λ (u : Told). u.position) (get_or_default told (i - 1) p t there) in
    omega (arith, a, rises)
