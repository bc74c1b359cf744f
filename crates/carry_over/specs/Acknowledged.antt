-- The calls with which a new hub goes on, and what each railway has not acknowledged.
use Rattle.std.specs.Prelude.{◌≡◌, ℕ, Bool, true, false, List, [], ◌∷◌, ◌++◌, map, filter, flat_map, take, drop, count_by, All, bytes_eq}
use Rattle.std.specs.List.{list_any}
use Rattle.hub_model.specs.Common.{Railway, Call, Ack, ItemBody}
use Rattle.hub_model.specs.HubState.{HubState, new_state}
use Rattle.hub_model.specs.Items.{items_of, items_to}
use Rattle.hub_model.specs.Replies.{records_of, view}
use Rattle.hub_model.specs.Histories.{step, state_after}
use Rattle.hub_model.specs.AcceptedMessages.{accepted_message}
use Rattle.carry_over.specs.Names.{Names, Divide, stays, messages_of}
use Rattle.carry_over.specs.Carried.{AreSameFor, ReplyAlike}

-- the items that a railway has not acknowledged, oldest first
abbrev pub unacknowledged : HubState → Railway → List ItemBody
unacknowledged s r = drop (s.acknowledged r) (s.outbox r)

-- of each item of a railway, whether it is of a message that stays
abbrev pub staying_from : Names → HubState → Railway → List Call → List Bool
staying_from names s r [] = []
staying_from names s r (call ∷ calls) =
    map (λ i. stays names call) (items_to r (flat_map (items_of s) (accepted_message s call))) ++ staying_from names (step s call) r calls

abbrev pub staying_items : Names → List Call → Railway → List Bool
staying_items names calls r = staying_from names new_state r calls

-- how many of the items that the railway has acknowledged are of messages that stay
abbrev pub acknowledged_staying : Names → List Call → Railway → ℕ
acknowledged_staying names calls r = count_by (λ b. b) (take ((state_after calls).acknowledged r) (staying_items names calls r))

-- all that it has not acknowledged is of messages that stay
abbrev pub OthersAreAcknowledged : Names → List Call → Railway → Type 0
OthersAreAcknowledged names calls r = All (λ b. b ≡ true) (drop ((state_after calls).acknowledged r) (staying_items names calls r))

-- the railway is one of these
abbrev pub is_one_of : List Railway → Railway → Bool
is_one_of railways r = list_any (λ q. bytes_eq q r) railways

-- no other railway has acknowledged anything
abbrev pub AcknowledgeAlone : List Call → List Railway → Type 0
AcknowledgeAlone calls railways = (r : Railway) → is_one_of railways r ≡ false → (state_after calls).acknowledged r ≡ 0

-- the messages that stay, in their order, and then one acknowledgement of each railway
abbrev pub carried : Names → List Call → List Railway → List Call
carried names calls railways = messages_of names calls ++ map (λ r. Ack r (acknowledged_staying names calls r)) railways

-- with these calls a new hub goes on
pub record GoesOn (names : Names) (calls : List Call) (railways : List Railway) : Type 0 where
  pub same : AreSameFor names (state_after calls) (state_after (carried names calls railways))
  pub replies : ReplyAlike names (state_after calls) (state_after (carried names calls railways))
  pub unacknowledged : (r : Railway) → OthersAreAcknowledged names calls r → unacknowledged (state_after (carried names calls railways)) r ≡ unacknowledged (state_after calls) r
  pub fleet : (state_after (carried names calls railways)).fleet ≡ filter names.wagon (state_after calls).fleet
  pub records : view (state_after (carried names calls railways)) ≡ records_of (state_after calls) (filter names.wagon (state_after calls).fleet)

-- a hub may go on with them, where each message names things on one side alone
abbrev pub CanGoOn : Type 0
CanGoOn = (names : Names) (calls : List Call) (railways : List Railway) → Divide names calls → AcknowledgeAlone calls railways → GoesOn names calls railways

-- and whatever comes then, the hub that went on knows and replies the same of what stays
abbrev pub GoOnAlike : Type 0
GoOnAlike = (names : Names) (calls more : List Call) (railways : List Railway) → Divide names calls → Divide names more →
    AreSameFor names (state_after (calls ++ more)) (state_after (carried names calls railways ++ more)) ×
    ReplyAlike names (state_after (calls ++ more)) (state_after (carried names calls railways ++ more))
