-- Who has been given items.
use Rattle.std.proofs.Common.{◌≡◌, ℕ, false, List, [], Option, Some, None, Result, Ok, Err, is_some, IfOk, bytes_eq, drop, ap, ◌∙◌, sym}
use Rattle.std.specs.Map.{keys_of, lookup}
use Rattle.std.proofs.lemmas.Map.Made.{is_some-lookup}
use Rattle.outbox.specs.OutboxStates.{BoxState, outbox_state_in}
use Rattle.hub_core.proofs.Common.{Railway, ItemBody, HubState, Keeps, outbox_state_of}
use Rattle.hub_core.specs.Delivery.{HaveAllItems}

-- a railway without a box has been given none
without_box : (box : Option BoxState) (bodies : List ItemBody) (n : ℕ) → is_some box ≡ false → Keeps (outbox_state_in box) bodies n → bodies ≡ []
without_box None bodies n none keeps = ap (λ k. drop k bodies) keeps.number ∙ sym keeps.rest
without_box (Some b) bodies n none keeps = absurd cc

pub have_all_items : (boxes : List (Railway × BoxState)) (s : HubState) → ((r : Railway) → Keeps (outbox_state_of boxes r) (s.outbox r) (s.acknowledged r)) → HaveAllItems (keys_of boxes) s
have_all_items boxes s keeps r none = without_box (lookup (bytes_eq r) boxes) (s.outbox r) (s.acknowledged r) (is_some-lookup (bytes_eq r) boxes ∙ none) (keeps r)

pub if_ok : {T E : Type 0} (r : Result T E) (P Q : T → Type 0) → IfOk r P → ((v : T) → P v → Q v) → IfOk r Q
if_ok (Ok v) P Q holds turn = turn v holds
if_ok (Err e) P Q holds turn = tt
