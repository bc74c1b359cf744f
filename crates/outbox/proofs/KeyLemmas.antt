-- Railways that are equal, and a railway whose box is put in.
use Rattle.outbox.proofs.Common.{◌≡◌, ◌≤◌, Bool, true, false, cond, List, Option, Some, Result, Ok, Err, OnErr, is_some, bytes_eq, refl, ap, sym, ◌∙◌, subst, arith, lookup, texts, Railway, BoxState, outbox_state_of, outbox_state_in, room_for, room_in, has_box, ◌+◌, ◌∷◌, [], zero, suc, ℕ, None, ItemBody, with_items, IsAt, keys_of, slice_get, map, same_Some, IndexMap, values, with_value_at, IsUnique, updates-with_value_at, lookup_from_place, is_equivalence}

-- equal railways have the same box
pub same_box : (boxes : List (Railway × BoxState)) (railway also : Railway) → bytes_eq railway also ≡ true → lookup (bytes_eq also) boxes ≡ lookup (bytes_eq railway) boxes
same_box boxes railway also same = ap (λ r. lookup (bytes_eq r) boxes) (sym (texts.equal railway also same))

-- the railway has this box, and each other one the box that it had
abbrev pub IsPutIn : List (Railway × BoxState) → Railway → BoxState → List (Railway × BoxState) → Type 0
IsPutIn old railway box new = (also : Railway) → lookup (bytes_eq also) new ≡ cond (bytes_eq railway also) (Some box) (lookup (bytes_eq also) old)

-- where the box keeps what was kept, each railway has what it had
pub kept_stays : (old new : List (Railway × BoxState)) (railway : Railway) (box : BoxState) → IsPutIn old railway box new → box.kept ≡ outbox_state_of old railway → (also : Railway) → outbox_state_of new also ≡ outbox_state_of old also
kept_stays old new railway box put kept also = ap outbox_state_in (put also) ∙ by (bytes_eq railway also) refl
  where
    by : (same : Bool) → bytes_eq railway also ≡ same → outbox_state_in (cond same (Some box) (lookup (bytes_eq also) old)) ≡ outbox_state_of old also
    by true e = kept ∙ ap outbox_state_in (sym (same_box old railway also e))
    by false e = refl

-- no box is lost
pub boxes_stay : (old new : List (Railway × BoxState)) (railway : Railway) (box : BoxState) → IsPutIn old railway box new → (also : Railway) → has_box old also ≡ true → has_box new also ≡ true
boxes_stay old new railway box put also had = ap (λ (b : Option BoxState). is_some b) (put also) ∙ by (bytes_eq railway also)
  where
    by : (same : Bool) → is_some (cond same (Some box) (lookup (bytes_eq also) old)) ≡ true
    by true = refl
    by false = had

-- no box is made where the railway had one
pub no_box_made : (old new : List (Railway × BoxState)) (railway : Railway) (box : BoxState) → IsPutIn old railway box new → has_box old railway ≡ true → (also : Railway) → has_box new also ≡ has_box old also
no_box_made old new railway box put had also = ap (λ (b : Option BoxState). is_some b) (put also) ∙ by (bytes_eq railway also) refl
  where
    by : (same : Bool) → bytes_eq railway also ≡ same → is_some (cond same (Some box) (lookup (bytes_eq also) old)) ≡ has_box old also
    by true e = sym (ap (λ (b : Option BoxState). is_some b) (same_box old railway also e) ∙ had)
    by false e = refl

-- where the box has as much room as there was, no railway has less
pub room_stays : (old new : List (Railway × BoxState)) (railway : Railway) (box : BoxState) → IsPutIn old railway box new → room_for old railway ≤ box.room → (also : Railway) → room_for old also ≤ room_for new also
room_stays old new railway box put roomy also = subst (λ (b : Option BoxState). room_for old also ≤ room_in b) (sym (put also)) (by (bytes_eq railway also) refl)
  where
    by : (same : Bool) → bytes_eq railway also ≡ same → room_for old also ≤ room_in (cond same (Some box) (lookup (bytes_eq also) old))
    by true e = subst (λ (b : Option BoxState). room_in b ≤ box.room) (sym (same_box old railway also e)) roomy
    by false e = omega arith

pub on_err : {T E P : Type 0} (r : Result T E) → P → OnErr r P
on_err (Ok x) p = tt
on_err (Err e) p = p

-- a key and a value at a place are the entry there
entry_at : {K V : Type 0} (es : List (K × V)) (i : ℕ) (k : K) (v : V) → slice_get (keys_of es) i ≡ Some k → slice_get (map (λ e. e.1) es) i ≡ Some v → slice_get es i ≡ Some (k, v)
entry_at [] i k v h g = cc
entry_at (e ∷ es) zero k v h g = λ i. Some (same_Some e.0 k h i, same_Some e.1 v g i)
entry_at (e ∷ es) (suc i) k v h g = entry_at es i k v h g

-- a box that lies at a place, and another one that is put there
module _ {S : Type 0} (boxes : IndexMap Railway BoxState S) (place : ℕ) (railway : Railway) (first : BoxState) (distinct : IsUnique bytes_eq boxes) (at : IsAt boxes.entries place railway)
    (value : slice_get (values boxes) place ≡ Some first)
  where
    entry : slice_get boxes.entries place ≡ Some (railway, first)
    entry = entry_at boxes.entries place railway first at value

    -- it is the railway's
    pub found : lookup (bytes_eq railway) boxes.entries ≡ Some first
    found = lookup_from_place (is_equivalence bytes_eq texts) boxes.entries place railway first distinct entry

    pub put_there : (box : BoxState) → IsPutIn boxes.entries railway box (with_value_at boxes place box).entries
    put_there box = (updates-with_value_at boxes place box (is_equivalence bytes_eq texts) distinct railway first entry).0

-- a key at a place has a value there
pub no_place : {S : Type 0} (boxes : IndexMap Railway BoxState S) (place : ℕ) (railway : Railway) → IsAt boxes.entries place railway → slice_get (values boxes) place ≡ None → ⊥
no_place boxes place railway at none = absurd (by boxes.entries place at none)
  where
    by : (es : List (Railway × BoxState)) (i : ℕ) → slice_get (keys_of es) i ≡ Some railway → slice_get (map (λ e. e.1) es) i ≡ None → ⊥
    by [] i h g = cc
    by (e ∷ es) zero h g = cc
    by (e ∷ es) (suc i) h g = by es i h g

-- the box that was put in is found
pub now_found : (old new : List (Railway × BoxState)) (railway : Railway) (box : BoxState) → IsPutIn old railway box new → lookup (bytes_eq railway) new ≡ Some box
now_found old new railway box put = put railway ∙ ap (λ b. cond b (Some box) (lookup (bytes_eq railway) old)) (texts.itself railway)

-- a box with one item more is put in
module _ (old new : List (Railway × BoxState)) (railway : Railway) (first box : BoxState) (put : IsPutIn old railway box new) (found : lookup (bytes_eq railway) old ≡ Some first) where
  pub kept_with : (body : ItemBody) → box.kept ≡ with_items first.kept (body ∷ []) → (also : Railway) →
      outbox_state_of new also ≡ cond (bytes_eq railway also) (with_items (outbox_state_of old also) (body ∷ [])) (outbox_state_of old also)
  kept_with body kept also = ap outbox_state_in (put also) ∙ by (bytes_eq railway also) refl
    where
      by : (same : Bool) → bytes_eq railway also ≡ same →
          outbox_state_in (cond same (Some box) (lookup (bytes_eq also) old)) ≡ cond same (with_items (outbox_state_of old also) (body ∷ [])) (outbox_state_of old also)
      by true e = kept ∙ ap (λ b. with_items (outbox_state_in b) (body ∷ [])) (sym (same_box old railway also e ∙ found))
      by false e = refl

  pub room_less : box.room + 1 ≡ first.room → (also : Railway) → room_for new also + cond (bytes_eq railway also) 1 0 ≡ room_for old also
  room_less less also = ap (λ b. room_in b + cond (bytes_eq railway also) 1 0) (put also) ∙ by (bytes_eq railway also) refl
    where
      by : (same : Bool) → bytes_eq railway also ≡ same → room_in (cond same (Some box) (lookup (bytes_eq also) old)) + cond same 1 0 ≡ room_for old also
      by true e = less ∙ ap room_in (sym (same_box old railway also e ∙ found))
      by false e = omega arith
