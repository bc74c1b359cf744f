-- Why a hub takes no call.
use Rattle.std.specs.Prelude.{ℕ, ◌≡◌, ◌<◌}
use Rattle.taf_messages.specs.declared.call.Call.{Call}
use Rattle.tallies.specs.declared.fault.HubFault.{HubFault}
use Rattle.tallies.specs.declared.fault.HubFault.TheVariants.{Full, Memory}

-- full, with the call, exactly where the history has its most entries; memory only before
abbrev pub IsFault : HubFault → Call → ℕ → Type 0
IsFault (Full handed) call n = (handed ≡ call) × (n ≡ 1000000)
IsFault Memory call n = n < 1000000
