-- What is kept, beside all items that a railway ever got.
use Rattle.std.specs.Prelude.{◌≡◌, ℕ, ◌≤◌, nat_lt, List, [], ◌++◌, length, drop, max}
use Rattle.taf_messages.specs.declared.item.ItemBody.{ItemBody}
use Rattle.outbox.specs.OutboxStates.{OutboxState, new_box, last_of, with_items, acknowledged_up_to, first_items}
use Rattle.outbox.specs.Numbering.{items_to_fetch, is_ahead}

-- of these bodies, oldest first, those after the acknowledged number are kept
pub record Keeps (kept : OutboxState) (bodies : List ItemBody) (acknowledged : ℕ) : Type 0 where
  pub number : kept.acknowledged ≡ acknowledged
  pub told : acknowledged ≤ length bodies
  pub rest : kept.bodies ≡ drop acknowledged bodies

-- the box of a railway that has no items
abbrev pub StartsEmpty : Type 0
StartsEmpty = Keeps new_box [] 0

-- the last number counts all bodies
abbrev pub LastCounts : Type 0
LastCounts = (kept : OutboxState) (bodies : List ItemBody) (n : ℕ) → Keeps kept bodies n → last_of kept ≡ length bodies

-- a fetch gives the first items after the acknowledged one
abbrev pub FetchesFirst : Type 0
FetchesFirst = (kept : OutboxState) (bodies : List ItemBody) (n limit : ℕ) → Keeps kept bodies n → first_items kept limit ≡ items_to_fetch bodies n limit

-- a push adds at the end
abbrev pub PushesLast : Type 0
PushesLast = (kept : OutboxState) (bodies more : List ItemBody) (n : ℕ) → Keeps kept bodies n → Keeps (with_items kept more) (bodies ++ more) n

-- a number past the last is ahead
abbrev pub TellsAhead : Type 0
TellsAhead = (kept : OutboxState) (bodies : List ItemBody) (n number : ℕ) → Keeps kept bodies n → nat_lt (last_of kept) number ≡ is_ahead bodies number

-- an acknowledgement that is not ahead moves the number on, never back
abbrev pub Acknowledges : Type 0
Acknowledges = (kept : OutboxState) (bodies : List ItemBody) (n number : ℕ) → Keeps kept bodies n → number ≤ length bodies → Keeps (acknowledged_up_to kept number) bodies (max n number)
