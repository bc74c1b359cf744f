-- What the lanes have once the threads have their passes.
use Rattle.session_lanes.proofs.Common.{◌≡◌, ℕ, ◌+◌, ◌<◌, List, [], ◌++◌, length, get_or, take, drop, refl, sym, ap, ◌∙◌, subst, arith, append-nil, ALL_PARTS, LaneState, new_lane, EachAt, of_lane, HandsOut, EachLane, drop_all, take_all}

-- a slice that was lent whole
pub whole_slice : {X : Type 0} (n : ℕ) (new old : List X) → length new ≡ length old → n ≡ length old → take n (new ++ drop (length new) old) ≡ new
whole_slice n new old same is =
    let none : drop (length new) old ≡ [] = drop_all (length new) old (omega (arith, same)) in
    ap (λ l. take n (new ++ l)) none ∙ (ap (λ l. take n l) (append-nil new) ∙ take_all n new (omega (arith, same, is)))

-- the lanes when they were made, once the workers had their passes, and once the sessions had theirs
pub record AreHandedOut {A : Type 0} (capacity : ℕ → ℕ) (made first last : List LaneState) (sessions : List A) : Type 0 where
  pub new : EachAt (λ k l. l ≡ new_lane l.id (capacity k)) made
  pub to_workers : EachLane (λ k a b. HandsOut a b 1) made first
  pub to_sessions : EachLane (λ k a b. HandsOut a b (length (of_lane k (length first) 0 sessions))) first last
  pub first_fit : length first ≡ length made
  pub last_fit : length last ≡ length first

pub first_id : {A : Type 0} (capacity : ℕ → ℕ) (made first last : List LaneState) (sessions : List A) → AreHandedOut capacity made first last sessions → (k : ℕ) (d : LaneState) → k < length made → (get_or last k d).id ≡ (get_or made k d).id
first_id capacity made first last sessions h k d low =
    let fit = h.first_fit in
    (h.to_sessions k d (omega (arith, fit, low))).id ∙ (h.to_workers k d low).id

pub last_id : {A : Type 0} (capacity : ℕ → ℕ) (made first last : List LaneState) (sessions : List A) → AreHandedOut capacity made first last sessions → (k : ℕ) (d : LaneState) → k < length made → (get_or last k d).id ≡ (get_or first k d).id
last_id capacity made first last sessions h k d low =
    let fit = h.first_fit in
    (h.to_sessions k d (omega (arith, fit, low))).id

-- a list of lanes that is lent whole twice
pub lent_twice : {A : Type 0} (capacity : ℕ → ℕ) (len : ℕ) (made first_old first last_old last : List LaneState) (sessions : List A)
    → len ≡ length made → first_old ≡ made → last_old ≡ take len (first ++ drop (length first) made)
    → length first ≡ length first_old → length last ≡ length last_old
    → EachAt (λ k l. l ≡ new_lane l.id (capacity k)) made
    → EachLane (λ k a b. HandsOut a b 1) first_old first
    → EachLane (λ k a b. HandsOut a b (length (of_lane k (length last_old) 0 sessions))) last_old last
    → AreHandedOut capacity made first last sessions × (last_old ≡ first)
    × (take len (last ++ drop (length last) (take len (first ++ drop (length first) made))) ≡ last)
lent_twice capacity len made first_old first last_old last sessions long is then fits fit new workers others =
    let in_made : length first ≡ length made = fits ∙ ap (λ (l : List LaneState). length l) is in
    let whole : take len (first ++ drop (length first) made) ≡ first = whole_slice len first made in_made long in
    let same : last_old ≡ first = then ∙ whole in
    let in_first : length last ≡ length first = fit ∙ ap (λ (l : List LaneState). length l) same in (
      record {
        new = new;
        to_workers = subst (λ l. EachLane (λ k a b. HandsOut a b 1) l first) is workers;
        to_sessions = subst (λ l. EachLane (λ k a b. HandsOut a b (length (of_lane k (length l) 0 sessions))) l last) same others;
        first_fit = in_made;
        last_fit = in_first;
      },
      same,
      ap (λ l. take len (last ++ drop (length last) l)) whole ∙ whole_slice len last first in_first (long ∙ sym in_made),
    )

-- what each lane handed out since it was made
pub handed_out : {A : Type 0} (capacity : ℕ → ℕ) (n : ℕ) (made first last : List LaneState) (sessions : List A) → AreHandedOut capacity made first last sessions → length made ≡ n
    → EachAt (λ k l. HandsOut (new_lane l.id (capacity k)) l (1 + length (of_lane k n 0 sessions))) last
handed_out capacity n made first last sessions h is k d low =
    let fit = h.first_fit in
    let fits = h.last_fit in
    let in_first : k < length first = omega (arith, low, fits) in
    let in_made : k < length made = omega (arith, low, fits, fit) in
    let a = get_or made k d in
    let new = h.new k d in_made in
    let workers = h.to_workers k d in_made in
    let others = h.to_sessions k d in_first in
    let lanes : length (of_lane k n 0 sessions) ≡ length (of_lane k (length first) 0 sessions) = ap (λ m. length (of_lane k m 0 sessions)) (sym (fit ∙ is)) in
    let p = workers.parts in
    let q = others.parts in
    let whole : a.pass.parts ≡ ALL_PARTS = ap (λ (l : LaneState). l.pass.parts) new in
    record {
      id = refl;
      capacity = others.capacity ∙ (workers.capacity ∙ ap (λ (l : LaneState). l.capacity) new);
      back = others.back ∙ (workers.back ∙ ap (λ (l : LaneState). l.back) new);
      put = others.put ∙ (workers.put ∙ ap (λ (l : LaneState). l.pass.put) new);
      taken = others.taken ∙ (workers.taken ∙ ap (λ (l : LaneState). l.pass.taken) new);
      parts = omega (arith, lanes, p, q, whole);
    }
