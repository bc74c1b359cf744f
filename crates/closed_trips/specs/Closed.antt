-- When what is left behind is closed.
use Rattle.std.specs.Prelude.{◌≡◌, false, List, All}
use Rattle.hub_model.specs.Common.{Message, Call, Record}
use Rattle.taf_messages.specs.declared.record.Stage.TheVariants.{Delivered}
use Rattle.hub_model.specs.HubState.{HubState}
use Rattle.hub_model.specs.Histories.{state_after}
use Rattle.hub_model.specs.Laws.{IsSend}
use Rattle.hub_model.specs.Replies.{view}
use Rattle.carry_over.specs.Names.{Names, Divide, is_of}

-- the wagon of the record stays, or is delivered
abbrev pub StaysOrIsDelivered : Names → Record → Type 0
StaysOrIsDelivered names r = names.wagon r.wagon ≡ false → r.stage ≡ Delivered

-- the message stays, or is no offer that is open
abbrev pub StaysOrIsNotOpen : Names → HubState → Message → Type 0
StaysOrIsNotOpen names s m = is_of names m ≡ false → s.is_open m.by m.no ≡ false

-- what is left behind of these calls is closed: each message names things on one side alone, each wagon is delivered, and no offer is open
pub record AreClosed (names : Names) (calls : List Call) : Type 0 where
  pub divided : Divide names calls
  pub delivered : All (StaysOrIsDelivered names) (view (state_after calls))
  pub not_open : All (IsSend (StaysOrIsNotOpen names (state_after calls))) calls
