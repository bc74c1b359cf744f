-- What the arguments of the command line name.
use Rattle.std.specs.Prelude.{◌≡◌, true, is_some}
use Rattle.shift_size.specs.Sizes.{IsSize}
use Rattle.hub_tasks.specs.declared.task.Task.{Task}
use Rattle.hub_tasks.specs.declared.task.Task.TheVariants.{Replay, Board, Check, Carry, Number, Serve, Open}

-- A shift has 1 to 64 sessions, and 1 to 8 workers, with a journal just one; and so has a service. What their other numbers are is in the
-- types of their options.
abbrev pub IsWithinLimits : Task → Type 0
IsWithinLimits (Replay journal) = Unit {0}
IsWithinLimits (Board railway) = Unit {0}
IsWithinLimits (Check journal) = Unit {0}
IsWithinLimits (Carry journal next) = Unit {0}
IsWithinLimits (Number text) = Unit {0}
IsWithinLimits (Serve shift journal) =
    IsSize shift.size.sessions shift.size.workers × (is_some journal ≡ true → shift.size.workers ≡ 1)
IsWithinLimits (Open service journal keys) = is_some journal ≡ true → service.workers ≡ 1
