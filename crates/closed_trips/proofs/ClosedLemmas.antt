-- Calls and wagons, one after another.
use Rattle.closed_trips.proofs.Common.{◌≡◌, ℕ, ◌+◌, List, [], ◌∷◌, ◌++◌, refl, ap, ◌∙◌, fold, map, take, drop, take_more, take-add, Some, option_map, slice_get, slice_get_within, get_or_from_slice_get, slice_get-map, All, All-append, All-cons, All-nil, filter_map-append, record_of, records_of, Record, HubState, new_state, step, Entry, IsLegalFrom, IsLegal, state_of, state_after, after, after_call}

-- after a legal history is known what is known after its calls
after_calls : (s : HubState) (history : List Entry) → IsLegalFrom s history → fold after s history ≡ fold step s (map (λ (e : Entry). e.call) history)
after_calls s [] legal = refl
after_calls s (e ∷ history) legal =
    after_calls (after s e) history legal.1 ∙ ap (λ r. fold step (after_call s e.call r) (map (λ (e : Entry). e.call) history)) legal.0

pub state_of_calls : (history : List Entry) → IsLegal history → state_of history ≡ state_after (map (λ (e : Entry). e.call) history)
state_of_calls history legal = after_calls new_state history legal

-- one element more
up_to : {X : Type 0} (xs : List X) (i : ℕ) (x : X) → slice_get xs i ≡ Some x → take (i + 1) xs ≡ take i xs ++ x ∷ []
up_to xs i x here = take_more xs i x (slice_get_within xs i x here) ∙ ap (λ y. take i xs ++ y ∷ []) (get_or_from_slice_get xs i x x here)

pub all_up_to : {X : Type 0} (P : X → Type 0) (xs : List X) (i : ℕ) (x : X) → slice_get xs i ≡ Some x → All P (take i xs) → P x → All P (take (i + 1) xs)
all_up_to P xs i x here all holds = rw (up_to xs i x here) (All-append P (take i xs) (x ∷ []) all (All-cons P x [] holds (All-nil P)))

-- and so of the calls of entries
pub call_at : (history : List Entry) (i : ℕ) (e : Entry) → slice_get history i ≡ Some e → slice_get (map (λ (x : Entry). x.call) history) i ≡ Some e.call
call_at history i e here = slice_get-map (λ (x : Entry). x.call) history i ∙ ap (option_map (λ (x : Entry). x.call)) here

-- the records of one wagon more
pub records_up_to : (P : Record → Type 0) (s : HubState) (i : ℕ) → All P (records_of s (take i s.fleet)) → All P (records_of s (take 1 (drop i s.fleet))) → All P (records_of s (take (i + 1) s.fleet))
records_up_to P s i before here =
    rw (take-add i 1 s.fleet, filter_map-append (λ w. record_of w (s.journey w)) (take i s.fleet) (take 1 (drop i s.fleet)))
    (All-append P (records_of s (take i s.fleet)) (records_of s (take 1 (drop i s.fleet))) before here)
