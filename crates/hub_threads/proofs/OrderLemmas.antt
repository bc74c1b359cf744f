-- The jobs of a thread that serves in its lane.
use Rattle.hub_threads.proofs.Common.{◌≡◌, ◌≢◌, ℕ, suc, zero, ◌+◌, ◌%◌, ◌<◌, ◌≤◌, eqb, eq-eqb, ne_eqb, cond, false, List, [], ◌∷◌, ◌++◌, length, map, get_or, refl, sym, ap, ◌∙◌, subst, arith, All, All-head, All-tail, length-map, Job, of_session, lane, EachAt, of_lane, AreKept}
use mathlib.Core.Logic.{dite}
use native.Mathlib.Decide.{ℕ_discrete}
use Rattle.hub_threads.proofs.KeptLemmas.{read_map, some_item}

-- all are of one session
abbrev pub Of : ℕ → List Job → Type 0
Of i jobs = All (λ (j : Job). j.session ≡ i) jobs

none_of : (i m : ℕ) (jobs : List Job) → m ≢ i → Of m jobs → of_session i jobs ≡ []
none_of i m [] ne all = refl
none_of i m (j ∷ jobs) ne all =
    let head = All-head (λ (j : Job). j.session ≡ m) j jobs all in
    let no : eqb j.session i ≡ false = ne_eqb j.session i (λ same. ne (sym head ∙ same)) in
    ap (λ b. cond b (j ∷ of_session i jobs) (of_session i jobs)) no ∙ none_of i m jobs ne (All-tail (λ (j : Job). j.session ≡ m) j jobs all)

all_of : (i : ℕ) (jobs : List Job) → Of i jobs → of_session i jobs ≡ jobs
all_of i [] all = refl
all_of i (j ∷ jobs) all =
    let head = All-head (λ (j : Job). j.session ≡ i) j jobs all in
    ap (λ b. cond b (j ∷ of_session i jobs) (of_session i jobs)) (eq-eqb j.session i head) ∙ ap (λ l. j ∷ l) (all_of i jobs (All-tail (λ (j : Job). j.session ≡ i) j jobs all))

-- what the passes of a lane put: those of its sessions, and two that put nothing
abbrev puts_in : ℕ → ℕ → ℕ → List (List Job) → List (List Job)
puts_in k lanes m xs = of_lane k lanes m xs ++ [] ∷ [] ∷ []

abbrev pub EachOf : ℕ → List (List Job) → Type 0
EachOf m xs = (j : ℕ) (d : List Job) → j < length xs → Of (m + j) (get_or xs j d)

next_of : (m : ℕ) (x : List Job) (xs : List (List Job)) → EachOf m (x ∷ xs) → EachOf (m + 1) xs
next_of m x xs each j d low = subst (λ n. Of n (get_or xs j d)) (let z : m + suc j ≡ m + 1 + j = omega arith in z) (each (suc j) d (omega (arith, low)))

first_of : (m : ℕ) (x : List Job) (xs : List (List Job)) → EachOf m (x ∷ xs) → Of m x
first_of m x xs each = subst (λ n. Of n x) (let z : m + 0 ≡ m = omega arith in z) (each zero x (omega arith))

silent : (i j : ℕ) → of_session i (get_or ([] ∷ [] ∷ []) j []) ≡ []
silent i zero = refl
silent i (suc zero) = refl
silent i (suc (suc j)) = refl

with_front : (i : ℕ) (x : List Job) (l : List (List Job)) → of_session i x ≡ [] → ((j : ℕ) → of_session i (get_or l j []) ≡ []) → (j : ℕ) → of_session i (get_or (x ∷ l) j []) ≡ []
with_front i x l first rest zero = first
with_front i x l first rest (suc j) = rest j

-- an earlier session's jobs stand nowhere in the lists of later ones
nowhere : (i k lanes m : ℕ) (xs : List (List Job)) → i < m → EachOf m xs → (j : ℕ) → of_session i (get_or (puts_in k lanes m xs) j []) ≡ []
nowhere i k lanes m [] below each j = silent i j
nowhere i k lanes m (x ∷ xs) below each j =
    let rest = nowhere i k lanes (m + 1) xs (omega (arith, below)) (next_of m x xs each) in
    let first = none_of i m x (λ same. omega (arith, below, same)) (first_of m x xs each) in
    dite (ℕ_discrete (m % lanes) k)
    (λ e. subst (λ b. of_session i (get_or (cond b (x ∷ of_lane k lanes (m + 1) xs) (of_lane k lanes (m + 1) xs) ++ [] ∷ [] ∷ []) j []) ≡ []) (sym (eq-eqb (m % lanes) k e)) (with_front i x (puts_in k lanes (m + 1) xs) first rest j))
    (λ ne. subst (λ b. of_session i (get_or (cond b (x ∷ of_lane k lanes (m + 1) xs) (of_lane k lanes (m + 1) xs) ++ [] ∷ [] ∷ []) j []) ≡ []) (sym (ne_eqb (m % lanes) k ne)) (rest j))

-- where a session's list stands among those of its lane
record Spot (i : ℕ) (mine : List Job) (puts : List (List Job)) : Type 0 where
  at : ℕ
  here : get_or puts at [] ≡ mine
  others : (j : ℕ) → j ≢ at → of_session i (get_or puts j []) ≡ []

front_spot : (i : ℕ) (x : List Job) (l : List (List Job)) → ((j : ℕ) → of_session i (get_or l j []) ≡ []) → Spot i x (x ∷ l)
front_spot i x l rest = record { at = 0; here = refl; others = away }
  where
    away : (j : ℕ) → j ≢ 0 → of_session i (get_or (x ∷ l) j []) ≡ []
    away zero ne = absurd (ne refl)
    away (suc j) ne = rest j

later_spot : (i : ℕ) (x mine : List Job) (l : List (List Job)) → of_session i x ≡ [] → Spot i mine l → Spot i mine (x ∷ l)
later_spot i x mine l first s = record { at = suc s.at; here = s.here; others = away }
  where
    away : (j : ℕ) → j ≢ suc s.at → of_session i (get_or (x ∷ l) j []) ≡ []
    away zero ne = first
    away (suc j) ne = s.others j (λ same. ne (ap (λ n. suc n) same))

spot : (i k lanes m j : ℕ) (xs : List (List Job)) → i ≡ m + j → j < length xs → i % lanes ≡ k → EachOf m xs → Spot i (get_or xs j []) (puts_in k lanes m xs)
spot i k lanes m j [] is low mine each = absurd (omega (arith, low))
spot i k lanes m zero (x ∷ xs) is low mine each =
    let now : m ≡ i = omega (arith, is) in
    let falls : m % lanes ≡ k = ap (λ n. n % lanes) now ∙ mine in
    subst (λ b. Spot i x (cond b (x ∷ of_lane k lanes (m + 1) xs) (of_lane k lanes (m + 1) xs) ++ [] ∷ [] ∷ [])) (sym (eq-eqb (m % lanes) k falls))
    (front_spot i x (puts_in k lanes (m + 1) xs) (nowhere i k lanes (m + 1) xs (omega (arith, now)) (next_of m x xs each)))
spot i k lanes m (suc j) (x ∷ xs) is low mine each =
    let rest = spot i k lanes (m + 1) j xs (omega (arith, is)) (omega (arith, low)) mine (next_of m x xs each) in
    let first = none_of i m x (λ same. omega (arith, is, same)) (first_of m x xs each) in
    dite (ℕ_discrete (m % lanes) k)
    (λ e. subst (λ b. Spot i (get_or xs j []) (cond b (x ∷ of_lane k lanes (m + 1) xs) (of_lane k lanes (m + 1) xs) ++ [] ∷ [] ∷ [])) (sym (eq-eqb (m % lanes) k e)) (later_spot i x (get_or xs j []) (puts_in k lanes (m + 1) xs) first rest))
    (λ ne. subst (λ b. Spot i (get_or xs j []) (cond b (x ∷ of_lane k lanes (m + 1) xs) (of_lane k lanes (m + 1) xs) ++ [] ∷ [] ∷ [])) (sym (ne_eqb (m % lanes) k ne)) rest)

-- what the passes of a lane took
abbrev takes_in : List (List Job) → List Job → List (List Job)
takes_in hands took = map (λ (p : List Job). []) hands ++ took ∷ [] ∷ []

taker : (hands : List (List Job)) (took : List Job) → get_or (takes_in hands took) (length hands) [] ≡ took
taker [] took = refl
taker (h ∷ hands) took = taker hands took

no_taker : (hands : List (List Job)) (took : List Job) (j : ℕ) → j ≢ length hands → get_or (takes_in hands took) j [] ≡ []
no_taker [] took zero ne = absurd (ne refl)
no_taker [] took (suc zero) ne = refl
no_taker [] took (suc (suc j)) ne = refl
no_taker (h ∷ hands) took zero ne = refl
no_taker (h ∷ hands) took (suc j) ne = no_taker hands took j (λ same. ne (ap (λ n. suc n) same))

-- what the worker of its lane took of a thread's jobs, and then what the lane still held of them, is what the thread put, in order
pub lanes_in_order : (workers : ℕ) (puts taken left : List (List Job)) → AreKept workers puts taken left → 1 ≤ workers → EachOf 0 puts → (i : ℕ) → i < length puts
    → of_session i (get_or taken (i % workers) []) ++ of_session i (get_or left (i % workers) []) ≡ get_or puts i []
lanes_in_order workers puts taken left kept some each i inside =
    let k = i % workers in
    let count = kept.taken_count in
    let within : k < length taken = omega (arith, some, count) in
    let hands = of_lane k workers 0 puts in
    let took = get_or taken k [] in
    let still = get_or left k [] in
    let place = spot i k workers 0 i puts (let z : i ≡ 0 + i = omega arith in z) inside refl each in
    let mine : Of i (get_or puts i []) = subst (λ n. Of n (get_or puts i [])) (let z : 0 + i ≡ i = omega arith in z) (each i [] inside) in
    let all : of_session i (get_or (puts_in k workers 0 puts) place.at []) ≡ get_or (puts_in k workers 0 puts) place.at [] = ap (λ l. of_session i l) place.here ∙ (all_of i (get_or puts i []) mine ∙ sym place.here) in
    let law = lane (puts_in k workers 0 puts) (takes_in hands took) still (length hands) place.at (λ (j : Job). eqb j.session i) (kept.each k [] within) (λ j ne. no_taker hands took j ne) (λ j ne. place.others j ne) all in
    ap (λ l. of_session i l ++ of_session i still) (sym (taker hands took)) ∙ (law ∙ place.here)

-- so it is where more is said of the threads than what each put, and of the workers than what each took
of_puts : {X : Type 0} (put_of : X → List Job) (xs : List X) → EachAt (λ i x. Of i (put_of x)) xs → EachOf 0 (map put_of xs)
of_puts put_of xs each j d low =
    let long = length-map xs put_of in
    let inside : j < length xs = omega (arith, long, low) in
    let x = some_item xs (omega (arith, inside)) in
    let z : j ≡ 0 + j = omega arith in
    subst (λ l. Of (0 + j) l) (sym (read_map put_of xs j x d inside)) (subst (λ n. Of n (put_of (get_or xs j x))) z (each j x inside))

pub each_in_order : {X W : Type 0} (put_of : X → List Job) (taken_of : W → List Job) (workers : ℕ) (xs : List X) (ws : List W) (left : List (List Job))
    → AreKept workers (map put_of xs) (map taken_of ws) left → 1 ≤ workers → EachAt (λ i x. Of i (put_of x)) xs
    → EachAt (λ i (x : X). (w : W) → of_session i (taken_of (get_or ws (i % workers) w)) ++ of_session i (get_or left (i % workers) []) ≡ put_of x) xs
each_in_order put_of taken_of workers xs ws left kept some own i x low w =
    let k = i % workers in
    let long = length-map xs put_of in
    let count = kept.taken_count in
    let counted = length-map ws taken_of in
    let within : k < length ws = omega (arith, some, count, counted) in
    let is : get_or (map taken_of ws) k [] ≡ taken_of (get_or ws k w) = read_map taken_of ws k w [] within in
    let here : get_or (map put_of xs) i [] ≡ put_of (get_or xs i x) = read_map put_of xs i x [] low in
    let law = lanes_in_order workers (map put_of xs) (map taken_of ws) left kept some (of_puts put_of xs own) i (omega (arith, long, low)) in
    ap (λ l. of_session i l ++ of_session i (get_or left k [])) (sym is) ∙ (law ∙ here)
