-- The event of a wagon whose journey goes on.
use Rattle.hub_tables.proofs.Common.{◌≡◌, ℕ, ◌<◌, ◌==◌, List, [], ◌∷◌, ◌++◌, length, get_or, None, sym, ap, ◌∙◌, true, list_any_at, numbers, has, Message, HubState, named_wagons, event_for, journey_after, known_fault, goes_on}

-- the wagon at a place of the list is among it
pub has_at : (ws : List ℕ) (i w : ℕ) → i < length ws → w ≡ get_or ws i w → has ws w ≡ true
has_at ws i w lt is = list_any_at (λ v. v == w) ws i w lt (ap (λ v. v == w) (sym is) ∙ numbers.itself w)

-- the message comes last in the journey of a wagon that it names and that admits it
pub comes_last : (s : HubState) (m : Message) (w : ℕ) → has (named_wagons s.offer m) w ≡ true → known_fault s m w ≡ None → journey_after s m w ≡ s.journey w ++ event_for s.offer m w ∷ []
comes_last s m w h k = rw h (goes_on (s.journey w) (event_for s.offer m w) k)
