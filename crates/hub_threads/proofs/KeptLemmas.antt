-- What the lanes have once all passes came back.
use Rattle.hub_threads.proofs.Common.{◌≡◌, ℕ, suc, zero, ◌+◌, ◌%◌, ◌<◌, ◌≤◌, eq-eqb, ne_eqb, cond, List, [], ◌∷◌, ◌++◌, length, map, get_or, sum_by, refl, sym, ap, ◌∙◌, subst, arith, append_assoc, length-append, All, map-append, length-map, All-nil, All-cons, All-head, All-tail, All-push, All-weaker, sum_by-append, sum_by-cons, Job, ALL_PARTS, IsKept, PassState, new_pass, IsKeptBy, LaneState, new_lane, thread_pass, EachAt, of_lane, HandsOut, TakesBack, TakesOnly, EachLane, of_lane-map, of_lane-fits, LaneIsKept}
use mathlib.Core.Logic.{dite}
use native.Mathlib.Decide.{ℕ_discrete}

-- what holds of each item, by the lane that it falls to, holds of the items of a lane
pub of_lane-all : {X : Type 0} (Q : ℕ → X → Type 0) (k lanes i : ℕ) (xs : List X) → ((j : ℕ) (d : X) → j < length xs → Q ((i + j) % lanes) (get_or xs j d)) → All (Q k) (of_lane k lanes i xs)
of_lane-all Q k lanes i [] h = All-nil (Q k)
of_lane-all Q k lanes i (x ∷ xs) h =
    let rest = of_lane-all Q k lanes (i + 1) xs (λ j d low. subst (λ m. Q (m % lanes) (get_or xs j d)) (let z : i + suc j ≡ i + 1 + j = omega arith in z) (h (suc j) d (omega (arith, low)))) in
    let l = of_lane k lanes (i + 1) xs in
    dite (ℕ_discrete (i % lanes) k)
    (λ e.
    let z : i + 0 ≡ i = omega arith in
    let mine : Q k x = subst (λ m. Q m x) (ap (λ m. m % lanes) z ∙ e) (h zero x (omega arith)) in
    subst (λ b. All (Q k) (cond b (x ∷ l) l)) (sym (eq-eqb (i % lanes) k e)) (All-cons (Q k) x l mine rest))
    (λ ne. subst (λ b. All (Q k) (cond b (x ∷ l) l)) (sym (ne_eqb (i % lanes) k ne)) rest)

pub of_lane-each : {X : Type 0} (Q : ℕ → X → Type 0) (k lanes : ℕ) (xs : List X) → EachAt (λ i x. Q (i % lanes) x) xs → All (Q k) (of_lane k lanes 0 xs)
of_lane-each Q k lanes xs each = of_lane-all Q k lanes 0 xs (λ j d low. subst (λ m. Q (m % lanes) (get_or xs j d)) (let z : j ≡ 0 + j = omega arith in z) (each j d low))

-- an item of a list that was mapped
pub read_map : {X Y : Type 0} (f : X → Y) (xs : List X) (k : ℕ) (x : X) (d : Y) → k < length xs → get_or (map f xs) k d ≡ f (get_or xs k x)
read_map f [] k x d low = absurd (omega (arith, low))
read_map f (y ∷ xs) zero x d low = refl
read_map f (y ∷ xs) (suc k) x d low = read_map f xs k x d (omega (arith, low))

pub EachAt-map : {X Y : Type 0} (f : X → Y) (P : ℕ → Y → Type 0) (xs : List X) → EachAt (λ k x. P k (f x)) xs → EachAt P (map f xs)
EachAt-map f P xs each k d low =
    let long = length-map xs f in
    at f P xs each k d (omega (arith, long, low))
  where
    at : {X Y : Type 0} (f : X → Y) (P : ℕ → Y → Type 0) (xs : List X) → EachAt (λ k x. P k (f x)) xs → (k : ℕ) (d : Y) → k < length xs → P k (get_or (map f xs) k d)
    at f P [] each k d low = absurd (omega (arith, low))
    at f P (x ∷ xs) each k d low = subst (λ y. P k y) (sym (read_map f (x ∷ xs) k x d low)) (each k x low)

-- what holds of all of a list that was mapped holds of each, by what it was mapped to
pub each_of_map : {X Y : Type 0} (f : X → Y) (P : Y → Type 0) (ys : List Y) (xs : List X) → ys ≡ map f xs → All P ys → EachAt (λ k x. P (f x)) xs
each_of_map f P ys xs is all k d low =
    let long = length-map xs f in
    subst P (read_map f xs k d (f d) low) (subst (All P) is all k (f d) (omega (arith, long, low)))

-- of each 1, added up
pub ones : {X : Type 0} (f : X → ℕ) (xs : List X) → All (λ x. f x ≡ 1) xs → sum_by f xs ≡ length xs
ones f [] h = refl
ones f (x ∷ xs) h =
    let more = sum_by-cons f x xs in
    let head = All-head (λ u. f u ≡ 1) x xs h in
    let rest = ones f xs (All-tail (λ u. f u ≡ 1) x xs h) in
    omega (arith, more, head, rest)

pub some_item : {X : Type 0} (xs : List X) → 0 < length xs → X
some_item [] h = absurd (omega (arith, h))
some_item (x ∷ xs) h = x

nothing : (ts : List PassState) → All (λ (t : PassState). t.taken ≡ []) ts → map (λ (t : PassState). t.taken) ts ≡ map (λ (p : List Job). []) (map (λ (t : PassState). t.put) ts)
nothing [] h = refl
nothing (t ∷ ts) h =
    let head = All-head (λ (u : PassState). u.taken ≡ []) t ts h in
    let rest = nothing ts (All-tail (λ (u : PassState). u.taken ≡ []) t ts h) in
    ap (λ l. l ∷ map (λ (u : PassState). u.taken) ts) head ∙ ap (λ l. [] ∷ l) rest

-- a lane that is kept, by what the sessions put and its worker took
pub lane_kept : (k lanes : ℕ) (ps : List PassState) (own pass : PassState) (back : List PassState) (left : List Job)
    → back ≡ of_lane k lanes 0 ps ++ own ∷ []
    → All (λ (t : PassState). t.taken ≡ []) (of_lane k lanes 0 ps) → own.put ≡ [] → pass.put ≡ [] → pass.taken ≡ []
    → IsKeptBy (back ++ pass ∷ []) left
    → LaneIsKept k lanes (map (λ (t : PassState). t.put) ps) own.taken left
lane_kept k lanes ps own pass back left is idle silent none nil kept =
    let put : PassState → List Job = λ t. t.put in
    let taken : PassState → List Job = λ t. t.taken in
    let hands = of_lane k lanes 0 ps in
    let all : back ++ pass ∷ [] ≡ hands ++ own ∷ pass ∷ [] = ap (λ l. l ++ pass ∷ []) is ∙ append_assoc hands (own ∷ []) (pass ∷ []) in
    let puts : map put (back ++ pass ∷ []) ≡ of_lane k lanes 0 (map put ps) ++ [] ∷ [] ∷ [] =
    ap (λ l. map put l) all ∙ (map-append put hands (own ∷ pass ∷ []) ∙ (ap (λ l. l ++ own.put ∷ pass.put ∷ []) (sym (of_lane-map put k lanes 0 ps)) ∙ (ap (λ j. of_lane k lanes 0 (map put ps) ++ j ∷ pass.put ∷ []) silent ∙ ap (λ j. of_lane k lanes 0 (map put ps) ++ [] ∷ j ∷ []) none))) in
    let takes : map taken (back ++ pass ∷ []) ≡ map (λ (p : List Job). []) (of_lane k lanes 0 (map put ps)) ++ own.taken ∷ [] ∷ [] =
    ap (λ l. map taken l) all ∙ (map-append taken hands (own ∷ pass ∷ []) ∙ (ap (λ l. l ++ own.taken ∷ pass.taken ∷ []) (nothing hands idle ∙ ap (λ l. map (λ (p : List Job). []) l) (sym (of_lane-map put k lanes 0 ps))) ∙ ap (λ j. map (λ (p : List Job). []) (of_lane k lanes 0 (map put ps)) ++ own.taken ∷ j ∷ []) nil)) in
    subst (λ p. IsKept p (map (λ (p : List Job). []) (of_lane k lanes 0 (map put ps)) ++ own.taken ∷ [] ∷ []) left) puts
    (subst (λ t. IsKept (map put (back ++ pass ∷ [])) t left) takes kept)

-- a lane once all passes came back: those of its sessions, and then its worker's
pub record Came (k lanes : ℕ) (ps : List PassState) (own : PassState) (before after : LaneState) : Type 0 where
  pub id : after.id ≡ before.id
  pub pass : after.pass ≡ before.pass
  pub back : after.back ≡ of_lane k lanes 0 ps ++ own ∷ []
  pub out : HandsOut (new_lane before.id before.capacity) before (1 + length (of_lane k lanes 0 ps))
  pub hands : All (λ (t : PassState). t ≡ thread_pass before.id t.put []) (of_lane k lanes 0 ps)
  pub own_is : own ≡ thread_pass before.id [] own.taken

pub all_came : (items ts tw : List LaneState) (ps owns : List PassState)
    → length ts ≡ length items → length owns ≡ length items
    → EachAt (λ k l. HandsOut (new_lane l.id l.capacity) l (1 + length (of_lane k (length items) 0 ps))) items
    → EachAt (λ i (t : PassState). (d : LaneState) → t ≡ thread_pass (get_or items (i % length items) d).id t.put []) ps
    → EachAt (λ k (t : PassState). (d : LaneState) → TakesOnly (new_pass (get_or items k d).id 1) t) owns
    → EachLane (λ k a b. TakesBack a b (of_lane k (length items) 0 ps)) items ts
    → ((k : ℕ) (d : LaneState) (e : PassState) → k < length ts → TakesBack (get_or ts k d) (get_or tw k d) (get_or owns k e ∷ []))
    → (k : ℕ) (d : LaneState) (e : PassState) → k < length items → Came k (length items) ps (get_or owns k e) (get_or items k d) (get_or tw k d)
all_came items ts tw ps owns same many outs hands take sessions workers k d e low =
    let s = sessions k d low in
    let w = workers k d e (omega (arith, same, low)) in
    let out = outs k d low in
    let mine = of_lane-each (λ m (t : PassState). (r : LaneState) → t ≡ thread_pass (get_or items m r).id t.put []) k (length items) ps hands in
    let own = get_or owns k e in
    record {
      id = w.id ∙ s.id;
      pass = w.pass ∙ s.pass;
      back = w.back ∙ ap (λ b. b ++ own ∷ []) (s.back ∙ ap (λ b. b ++ of_lane k (length items) 0 ps) out.back);
      out = out;
      hands = All-weaker (λ (t : PassState). (r : LaneState) → t ≡ thread_pass (get_or items k r).id t.put []) (λ (t : PassState). t ≡ thread_pass (get_or items k d).id t.put []) (λ t each. each d) (of_lane k (length items) 0 ps) mine;
      own_is = take k e (omega (arith, many, low)) d;
    }

pub came_own : (k lanes : ℕ) (ps : List PassState) (own : PassState) (before after : LaneState) → Came k lanes ps own before after → All (λ (t : PassState). t.inbox ≡ after.id) after.back
came_own k lanes ps own before after c =
    let hands = of_lane k lanes 0 ps in
    let each = All-weaker (λ (t : PassState). t ≡ thread_pass before.id t.put []) (λ (t : PassState). t.inbox ≡ after.id) (λ t is. ap (λ (u : PassState). u.inbox) is ∙ sym c.id) hands c.hands in
    subst (λ b. All (λ (t : PassState). t.inbox ≡ after.id) b) (sym c.back) (All-push (λ (t : PassState). t.inbox ≡ after.id) hands own each (ap (λ (u : PassState). u.inbox) c.own_is ∙ sym c.id))

pub came_parts : (k lanes : ℕ) (ps : List PassState) (own : PassState) (before after : LaneState) → Came k lanes ps own before after → sum_by (λ (t : PassState). t.parts) after.back + after.pass.parts ≡ ALL_PARTS
came_parts k lanes ps own before after c =
    let hands = of_lane k lanes 0 ps in
    let sums : sum_by (λ (t : PassState). t.parts) after.back ≡ sum_by (λ (t : PassState). t.parts) (hands ++ own ∷ []) = ap (λ l. sum_by (λ (t : PassState). t.parts) l) c.back in
    let split = sum_by-append (λ (t : PassState). t.parts) hands (own ∷ []) in
    let last = sum_by-cons (λ (t : PassState). t.parts) own [] in
    let each = All-weaker (λ (t : PassState). t ≡ thread_pass before.id t.put []) (λ (t : PassState). t.parts ≡ 1) (λ t is. ap (λ (u : PassState). u.parts) is) hands c.hands in
    let count = ones (λ (t : PassState). t.parts) hands each in
    let one : own.parts ≡ 1 = ap (λ (u : PassState). u.parts) c.own_is in
    let p = c.out.parts in
    let q : after.pass.parts ≡ before.pass.parts = ap (λ (t : PassState). t.parts) c.pass in
    omega (arith, sums, split, last, count, p, q, one)

pub came_kept : (k lanes : ℕ) (ps : List PassState) (own : PassState) (before after : LaneState) (left : List Job) → Came k lanes ps own before after
    → IsKeptBy (after.back ++ after.pass ∷ []) left
    → LaneIsKept k lanes (map (λ (t : PassState). t.put) ps) own.taken left
came_kept k lanes ps own before after left c kept =
    let hands = of_lane k lanes 0 ps in
    let idle = All-weaker (λ (t : PassState). t ≡ thread_pass before.id t.put []) (λ (t : PassState). t.taken ≡ []) (λ t is. ap (λ (u : PassState). u.taken) is) hands c.hands in
    lane_kept k lanes ps own after.pass after.back left c.back idle (ap (λ (u : PassState). u.put) c.own_is)
    (ap (λ (t : PassState). t.put) c.pass ∙ c.out.put) (ap (λ (t : PassState). t.taken) c.pass ∙ c.out.taken) kept

-- so few came back to a lane
pub came_few : (k lanes : ℕ) (ps : List PassState) (own : PassState) (before after : LaneState) → Came k lanes ps own before after → length after.back ≤ length ps + 1
came_few k lanes ps own before after c =
    let size = ap (λ (l : List PassState). length l) c.back in
    let long = length-append (of_lane k lanes 0 ps) (own ∷ []) in
    let fits = of_lane-fits k lanes 0 ps in
    omega (arith, size, long, fits)
