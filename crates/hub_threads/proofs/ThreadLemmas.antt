-- What the threads give back, by what they began with.
use Rattle.hub_threads.proofs.Common.{tests, Bool, true, false, ◌≡◌, ℕ, ◌<◌, List, [], ◌∷◌, ◌++◌, length, ◌%◌, get_or, ap, ◌∙◌, subst, sym, arith, PassState, new_pass, Served, SessionStart, LaneState, thread_pass, EachAt, EachPair, EachPair-push, IsServiceOf}
use Rattle.hub_threads.proofs.KeptLemmas.{some_item}

pub never_both : {A : Type 0} (b : Bool) → b ≡ true → b ≡ false → A
never_both true is other = absurd (search (tests, other))
never_both false is other = absurd (search (tests, is))

-- from what the threads began with, by their handles, to what they gave back
pub through : {X H R : Type 0} (A : ℕ → X → Type 0) (P : ℕ → X → H → Type 0) (Q : ℕ → H → R → Type 0) (S : ℕ → X → R → Type 0)
    → ((k : ℕ) (x : X) (h : H) (r : R) → A k x → P k x h → Q k h r → S k x r)
    → (xs : List X) (hs : List H) (rs : List R) → EachAt A xs → EachPair P xs hs → EachPair Q hs rs → EachPair S xs rs
through A P Q S f xs [] rs a p q = (
  q.0 ∙ p.0,
  λ k d e low. let none = p.0 in absurd (omega (arith, none, low)),
)
through A P Q S f xs (h ∷ hs) rs a p q = (
  q.0 ∙ p.0,
  λ k d e low. let alike = p.0 in f k (get_or xs k d) (get_or (h ∷ hs) k h) (get_or rs k e) (a k d low) (p.1 k d h low) (q.1 k h e (omega (arith, alike, low))),
)

-- one more thread, whose handle comes last
pub another_handle : {X H : Type 0} (P : ℕ → X → H → Type 0) (xs : List X) (x : X) (old new : List H) → EachPair P xs old → (h : H) × (new ≡ old ++ h ∷ []) × P (length xs) x h → EachPair P (xs ++ x ∷ []) new
another_handle P xs x old new each last = subst (EachPair P (xs ++ x ∷ [])) (sym last.1) (EachPair-push P xs old x last.0 each last.2)

-- what the threads gave back, by the passes that they began with
pub each_given : {A B C : Type 0} (S : ℕ → PassState → B → Type 0) (pass_of : A → PassState) (began : ℕ → C → PassState) (starts : List A) (back : List B)
    → EachAt (λ i s. (d : C) → pass_of s ≡ began i d) starts
    → EachPair (λ i s r. S i (pass_of s) r) starts back
    → EachAt (λ i r. (d : C) → S i (began i d) r) back
each_given S pass_of began starts back given pairs i r low d =
    let alike = pairs.0 in
    let inside : i < length starts = omega (arith, alike, low) in
    let start = some_item starts (omega (arith, inside)) in
    subst (λ t. S i t (get_or back i r)) (given i start inside d) (pairs.1 i start r inside)

-- a pass that came back is one part of the lane's, by which jobs were put
pub handed : {S K : Type 0} (has_served : SessionStart S K → Served → Type 0) (items : List LaneState) (starts : List (SessionStart S K)) (served : List Served)
    → EachAt (λ i (s : SessionStart S K). (d : LaneState) → s.pass ≡ new_pass (get_or items (i % length items) d).id 1) starts
    → EachPair (λ i (s : SessionStart S K) (r : Served). IsServiceOf has_served s r) starts served
    → EachAt (λ i (r : Served). (d : LaneState) → r.pass ≡ thread_pass (get_or items (i % length items) d).id r.pass.put []) served
handed has_served items starts served began pairs i r low d =
    let alike = pairs.0 in
    let inside : i < length starts = omega (arith, alike, low) in
    let start = some_item starts (omega (arith, inside)) in
    (pairs.1 i start r inside).put_only ∙ ap (λ (t : PassState). record t { put = (get_or served i r).pass.put }) (began i start inside d)
