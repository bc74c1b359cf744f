-- A railway among all, whose numbers are put in.
use Rattle.replay_numbers.proofs.Common.{◌≡◌, ℕ, Bool, true, false, cond, List, Option, Some, bytes_eq, refl, ap, sym, ◌∙◌, ◌==◌, ◌&&◌, option_and_then, option_map_or, lookup, texts, Railway, SentState, position_in, has_room_in, position_of, has_room}

-- what is found of a railway
abbrev pub position_at : Option SentState → ℕ → Option ℕ
position_at found n = option_and_then (λ s. position_in s n) found

abbrev pub room_at : Option SentState → ℕ → Bool
room_at found n = option_map_or (λ s. has_room_in s n) found false

-- equal railways sent the same
pub same_sent : (all : List (Railway × SentState)) (by also : Railway) → bytes_eq by also ≡ true → lookup (bytes_eq also) all ≡ lookup (bytes_eq by) all
same_sent all by also same = ap (λ r. lookup (bytes_eq r) all) (sym (texts.equal by also same))

-- the railway sent this, and each other one what it had sent
abbrev pub IsPutIn : List (Railway × SentState) → Railway → SentState → List (Railway × SentState) → Type 0
IsPutIn old by sent new = (also : Railway) → lookup (bytes_eq also) new ≡ cond (bytes_eq by also) (Some sent) (lookup (bytes_eq also) old)

module _ (old new : List (Railway × SentState)) (by : Railway) (sent : SentState) (put : IsPutIn old by sent new) where
  -- where the railway keeps its positions, all do
  pub positions_stay : ((n : ℕ) → position_in sent n ≡ position_of old by n) → (also : Railway) (n : ℕ) → position_of new also n ≡ position_of old also n
  positions_stay kept also n = ap (λ (o : Option SentState). position_at o n) (put also) ∙ either (bytes_eq by also) refl
    where
      either : (same : Bool) → bytes_eq by also ≡ same → position_at (cond same (Some sent) (lookup (bytes_eq also) old)) n ≡ position_of old also n
      either true e = kept n ∙ ap (λ (o : Option SentState). position_at o n) (sym (same_sent old by also e))
      either false e = refl

  -- where the railway keeps its room, all do
  pub rooms_stay : ((n : ℕ) → has_room old by n ≡ true → has_room_in sent n ≡ true) → (also : Railway) (n : ℕ) → has_room old also n ≡ true → has_room new also n ≡ true
  rooms_stay kept also n had = ap (λ (o : Option SentState). room_at o n) (put also) ∙ either (bytes_eq by also) refl
    where
      either : (same : Bool) → bytes_eq by also ≡ same → room_at (cond same (Some sent) (lookup (bytes_eq also) old)) n ≡ true
      either true e = kept n (ap (λ (o : Option SentState). room_at o n) (sym (same_sent old by also e)) ∙ had)
      either false e = had

  -- a position more
  pub position_put : (number position : ℕ) → ((n : ℕ) → position_in sent n ≡ cond (number == n) (Some position) (position_of old by n)) →
      (also : Railway) (n : ℕ) → position_of new also n ≡ cond (bytes_eq by also && number == n) (Some position) (position_of old also n)
  position_put number position is also n = ap (λ (o : Option SentState). position_at o n) (put also) ∙ either (bytes_eq by also) refl
    where
      either : (same : Bool) → bytes_eq by also ≡ same → position_at (cond same (Some sent) (lookup (bytes_eq also) old)) n ≡ cond (same && number == n) (Some position) (position_of old also n)
      either true e = is n ∙ ap (λ (o : Option SentState). cond (number == n) (Some position) (position_at o n)) (sym (same_sent old by also e))
      either false e = refl
