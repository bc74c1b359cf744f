-- The faults of what serves connections.
use Rattle.hub_shared.specs.declared.settling.SettleFault.{SettleFault}
use Rattle.hub_shared.specs.declared.settling.SettleFault.TheVariants as of_settling
use Rattle.server_faults.specs.declared.fault.ServerFault.{ServerFault}
use Rattle.server_faults.specs.declared.fault.ServerFault.TheVariants.{Memory, NotSettled}

abbrev pub fault_of_settling : SettleFault → ServerFault
fault_of_settling of_settling.Memory = Memory
fault_of_settling fault = NotSettled fault
