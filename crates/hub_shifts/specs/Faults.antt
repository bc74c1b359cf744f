-- The faults of shifts.
use Rattle.hub_threads.specs.declared.fault.ThreadFault.{ThreadFault}
use Rattle.hub_threads.specs.declared.fault.ThreadFault.TheVariants as of_threads
use Rattle.hub_shifts.specs.declared.shift.ShiftFault.{ShiftFault}
use Rattle.hub_shifts.specs.declared.shift.ShiftFault.TheVariants.{Thread, Memory}

abbrev pub fault_of_threads : ThreadFault → ShiftFault
fault_of_threads of_threads.Thread = Thread
fault_of_threads of_threads.Memory = Memory
