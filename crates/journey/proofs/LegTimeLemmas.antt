-- Legs of which one takes other minutes.
use Rattle.journey.proofs.Common.{◌≡◌, ℕ, ◌<◌, ◌≤◌, zero, suc, List, [], ◌∷◌, length, take, refl, ap, arith, slice_index_or, slice_set, Leg, with_leg_minutes}

-- a leg that isn't there
pub timed_past : (ls : List Leg) (i minutes : ℕ) → length ls ≤ i → with_leg_minutes ls i minutes ≡ ls
timed_past [] i minutes h = refl
timed_past (l ∷ ls) zero minutes h = absurd (omega arith)
timed_past (l ∷ ls) (suc i) minutes h = ap (λ rest. l ∷ rest) (timed_past ls i minutes (omega arith))

-- a write to one of the first n
pub with_leg_minutes-set : (ls : List Leg) (n i minutes : ℕ) (d : Leg) → i < length (take n ls) → take n (slice_set ls i (record (slice_index_or ls i d) { minutes = minutes })) ≡ with_leg_minutes (take n ls) i minutes
with_leg_minutes-set ls zero i minutes d h = absurd (omega arith)
with_leg_minutes-set [] (suc n) i minutes d h = absurd (omega arith)
with_leg_minutes-set (l ∷ ls) (suc n) zero minutes d h = refl
with_leg_minutes-set (l ∷ ls) (suc n) (suc i) minutes d h = ap (λ rest. l ∷ rest) (with_leg_minutes-set ls n i minutes d (omega arith))
