-- What a hub that goes on has in common with the hub before.
use Rattle.std.specs.Prelude.{◌≡◌, List, ◌++◌, filter, All}
use Rattle.hub_model.specs.Common.{Railway, Call, Ack}
use Rattle.hub_model.specs.HubState.{HubState}
use Rattle.hub_model.specs.Histories.{state_after}
use Rattle.hub_model.specs.Replies.{records_of}
use Rattle.carry_over.specs.Names.{Names, Divide, messages_of}
use Rattle.carry_over.specs.Carried.{AreSameFor, ReplyAlike}
use Rattle.carry_over.specs.Acknowledged.{unacknowledged}

-- the call is an acknowledgement
abbrev pub IsAcknowledgement : Call → Type 0
IsAcknowledgement (Ack by n) = Unit {0}
IsAcknowledgement _ = ⊥

-- behind these calls there are some acknowledgements
pub record AddAcknowledgements (before after : List Call) : Type 0 where
  pub added : List Call
  pub acknowledgements : All IsAcknowledgement added
  pub behind : after ≡ before ++ added

-- the railway has the same unacknowledged items after both
abbrev pub HasSameItems : HubState → HubState → Railway → Type 0
HasSameItems s t r = unacknowledged t r ≡ unacknowledged s r

abbrev pub HaveSameItems : HubState → HubState → Type 0
HaveSameItems s t = (r : Railway) → HasSameItems s t r

-- the hub of the second calls goes on with what stays of that of the first
pub record GoesOnWith (names : Names) (calls next : List Call) : Type 0 where
  -- it was given the messages that stay, in their order, and then acknowledgements
  pub given : AddAcknowledgements (messages_of names calls) next
  -- it knows and replies the same of what stays: a message that is sent again gets its first reply
  pub same : AreSameFor names (state_after calls) (state_after next)
  pub replies : ReplyAlike names (state_after calls) (state_after next)
  -- the wagons that stay have the same order and the same records
  pub wagons : filter names.wagon (state_after next).fleet ≡ filter names.wagon (state_after calls).fleet
  pub records : records_of (state_after next) (filter names.wagon (state_after next).fleet) ≡ records_of (state_after calls) (filter names.wagon (state_after calls).fleet)
  -- each railway has the same unacknowledged items, in the same order
  pub items : HaveSameItems (state_after calls) (state_after next)
  -- so it is after whatever comes then, as long as each further message names things on one side alone
  pub later : (more : List Call) → Divide names more →
      AreSameFor names (state_after (calls ++ more)) (state_after (next ++ more)) × ReplyAlike names (state_after (calls ++ more)) (state_after (next ++ more))
