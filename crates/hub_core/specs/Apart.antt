-- Calls that may come in either order.
use Rattle.std.specs.Prelude.{Bool, false}
use Rattle.taf_messages.specs.declared.call.Call.{Call}
use Rattle.taf_messages.specs.declared.call.Call.TheVariants.{Send}
use Rattle.hub_model.specs.HubState.{HubState}
use Rattle.hub_model.specs.Overtaking.{is_apart}

-- both are sends, and their messages are apart
abbrev pub are_apart : HubState → Call → Call → Bool
are_apart s (Send m) (Send n) = is_apart s m n
are_apart s _ _ = false
