-- A railway at a place among all, and what is put there.
use Rattle.replay_numbers.proofs.Common.{◌≡◌, ℕ, zero, suc, List, [], ◌∷◌, map, Some, None, bytes_eq, cond, ap, ◌∙◌, keys_of, lookup, slice_get, same_Some, lookup_from_place, updates-with_value_at, IndexMap, values, with_value_at, IsUnique, texts, is_equivalence, Railway, SentState, IsAt}
use Rattle.replay_numbers.proofs.SentLemmas.{IsPutIn}

-- a key and a value at a place are the entry there
entry_at : {K V : Type 0} (es : List (K × V)) (i : ℕ) (k : K) (v : V) → slice_get (keys_of es) i ≡ Some k → slice_get (map (λ e. e.1) es) i ≡ Some v → slice_get es i ≡ Some (k, v)
entry_at [] i k v h g = cc
entry_at (e ∷ es) zero k v h g = λ i. Some (same_Some e.0 k h i, same_Some e.1 v g i)
entry_at (e ∷ es) (suc i) k v h g = entry_at es i k v h g

-- a railway that sent this, and lies at a place
module _ {S : Type 0} (railways : IndexMap Railway SentState S) (place : ℕ) (by : Railway) (first : SentState) (distinct : IsUnique bytes_eq railways) (at : IsAt railways.entries place by)
    (value : slice_get (values railways) place ≡ Some first)
  where
    entry : slice_get railways.entries place ≡ Some (by, first)
    entry = entry_at railways.entries place by first at value

    pub found : lookup (bytes_eq by) railways.entries ≡ Some first
    found = lookup_from_place (is_equivalence bytes_eq texts) railways.entries place by first distinct entry

    pub put_there : (sent : SentState) → IsPutIn railways.entries by sent (with_value_at railways place sent).entries
    put_there sent = (updates-with_value_at railways place sent (is_equivalence bytes_eq texts) distinct by first entry).0

-- where a railway lies is something
pub no_place : (es : List (Railway × SentState)) (place : ℕ) (by : Railway) → IsAt es place by → slice_get (map (λ e. e.1) es) place ≡ None → ⊥
no_place [] i by h g = cc
no_place (e ∷ es) zero by h g = cc
no_place (e ∷ es) (suc i) by h g = no_place es i by h g

-- what was put in is found
pub now_found : (old new : List (Railway × SentState)) (by : Railway) (sent : SentState) → IsPutIn old by sent new → lookup (bytes_eq by) new ≡ Some sent
now_found old new by sent put = put by ∙ ap (λ b. cond b (Some sent) (lookup (bytes_eq by) old)) (texts.itself by)
