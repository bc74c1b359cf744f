-- Why a shift was not run, as a fault of the server.
use Rattle.hub_shifts.specs.declared.shift.ShiftFault.{ShiftFault}
use Rattle.hub_shifts.specs.declared.shift.ShiftFault.TheVariants as of_shift
use Rattle.server_faults.specs.declared.fault.ServerFault.{ServerFault}
use Rattle.server_faults.specs.declared.fault.ServerFault.TheVariants.{Thread, Memory}

abbrev pub fault_of_shift : ShiftFault → ServerFault
fault_of_shift of_shift.Thread = Thread
fault_of_shift of_shift.Memory = Memory
