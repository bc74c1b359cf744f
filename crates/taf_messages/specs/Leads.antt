-- Who sends a plan: its lead railway undertaking.
use Rattle.std.specs.Prelude.{Bool, true, List, ℕ, bytes_eq}
use Rattle.taf_messages.specs.declared.message.Body.{Body}
use Rattle.taf_messages.specs.declared.message.Body.TheVariants as body

-- a message that says a plan comes from the plan's lead
abbrev pub is_sent_by_its_lead : List ℕ → Body → Bool
is_sent_by_its_lead by (body.Plan p) = bytes_eq p.lead by
is_sent_by_its_lead by _ = true
