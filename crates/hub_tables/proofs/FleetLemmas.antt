-- The fleet once a plan's wagons are entered.
use Rattle.hub_tables.proofs.Common.{◌≡◌, ℕ, ◌==◌, ◌||◌, Bool, true, false, cond, not, List, [], ◌∷◌, ◌++◌, map, refl, sym, ap, ◌∙◌, append-nil, append_assoc, nat_eq, filter, fold, keys_of, eqb-true, numbers, is_equivalence, has, insert_entry, insert_all, each_wagon, fleet_after, two_sieves}
use Rattle.hub_tables.proofs.DifferLemmas.{has_last}

-- a key that is new goes last
abbrev pub with_key : List ℕ → ℕ → List ℕ
with_key keys w = cond (has keys w) keys (keys ++ w ∷ [])

keep_first : (b any : Bool) (k w : ℕ) (keys more : List ℕ) → more ≡ cond any keys (keys ++ w ∷ []) → cond b (k ∷ keys) (k ∷ more) ≡ cond (b || any) (k ∷ keys) ((k ∷ keys) ++ w ∷ [])
keep_first true any k w keys more h = refl
keep_first false true k w keys more h = ap (λ (ks : List ℕ). k ∷ ks) h
keep_first false false k w keys more h = ap (λ (ks : List ℕ). k ∷ ks) h

module _ {V : Type 0} where
  pairs_keys : (b : Bool) (e : ℕ × V) (v : V) (es more : List (ℕ × V)) → keys_of (cond b ((e.0, v) ∷ es) (e ∷ more)) ≡ cond b (e.0 ∷ keys_of es) (e.0 ∷ keys_of more)
  pairs_keys true e v es more = refl
  pairs_keys false e v es more = refl

  keys_entered : (es : List (ℕ × V)) (w : ℕ) (v : V) → keys_of (insert_entry nat_eq es w v) ≡ with_key (keys_of es) w
  keys_entered [] w v = refl
  keys_entered (e ∷ es) w v =
      pairs_keys (nat_eq w e.0) e v es (insert_entry nat_eq es w v) ∙
      ap (λ (b : Bool). cond b (e.0 ∷ keys_of es) (e.0 ∷ keys_of (insert_entry nat_eq es w v))) ((is_equivalence nat_eq numbers).symm w e.0) ∙
      keep_first (nat_eq e.0 w) (has (keys_of es) w) e.0 w (keys_of es) (keys_of (insert_entry nat_eq es w v)) (keys_entered es w v)

  keys_all : (j : ℕ → V) (ws : List ℕ) (es : List (ℕ × V)) → keys_of (insert_all nat_eq es (map (λ w. (w, j w)) ws)) ≡ fold with_key (keys_of es) ws
  keys_all j [] es = refl
  keys_all j (w ∷ ws) es = keys_all j ws (insert_entry nat_eq es w (j w)) ∙ ap (λ (ks : List ℕ). fold with_key ks ws) (keys_entered es w (j w))

or_there : (b c : Bool) → (c ≡ true → b ≡ true) → (b || c) ≡ b
or_there true c h = refl
or_there false true h = sym (h refl)
or_there false false h = refl

had : (before : List ℕ) (w : ℕ) → has before w ≡ true → (v : ℕ) → (has before v || w == v) ≡ has before v
had before w h v = or_there (has before v) (w == v) (λ same. ap (has before) (sym (eqb-true w v same)) ∙ h)

-- those of the wagons that are not in the fleet before
abbrev new_to : List ℕ → List ℕ → List ℕ
new_to before ws = filter (λ v. not (has before v)) ws

after_by : (before ws : List ℕ) (w : ℕ) (b : Bool) → has before w ≡ b → fold with_key (cond b before (before ++ w ∷ [])) ws ≡ fleet_after (cond b before (before ++ w ∷ [])) ws →
    fold with_key (cond b before (before ++ w ∷ [])) ws ≡ before ++ cond (not b) (w ∷ new_to before (filter (λ v. not (w == v)) (each_wagon ws))) (new_to before (filter (λ v. not (w == v)) (each_wagon ws)))
after_by before ws w true h rest =
    let same : (λ v. has before v || w == v) ≡ has before = λ i v. had before w h v i in
    rest ∙
    ap (λ (t : ℕ → Bool). before ++ filter (λ v. not (t v)) (each_wagon ws)) (sym same) ∙
    ap (λ (vs : List ℕ). before ++ vs) (sym (two_sieves (has before) (λ v. w == v) (each_wagon ws)))
after_by before ws w false h rest =
    let same : has (before ++ w ∷ []) ≡ (λ v. has before v || w == v) = λ i v. has_last before w v i in
    rest ∙
    append_assoc before (w ∷ []) (new_to (before ++ w ∷ []) (each_wagon ws)) ∙
    ap (λ (t : ℕ → Bool). before ++ w ∷ filter (λ v. not (t v)) (each_wagon ws)) same ∙
    ap (λ (vs : List ℕ). before ++ w ∷ vs) (sym (two_sieves (has before) (λ v. w == v) (each_wagon ws)))

fleet_of : (ws before : List ℕ) → fold with_key before ws ≡ fleet_after before ws
fleet_of [] before = sym (append-nil before)
fleet_of (w ∷ ws) before = after_by before ws w (has before w) refl (fleet_of ws (with_key before w))

-- the keys are the fleet after a plan of these wagons
pub fleet_entered : {V : Type 0} (j : ℕ → V) (ws : List ℕ) (es : List (ℕ × V)) → keys_of (insert_all nat_eq es (map (λ w. (w, j w)) ws)) ≡ fleet_after (keys_of es) ws
fleet_entered j ws es = keys_all j ws es ∙ fleet_of ws (keys_of es)
