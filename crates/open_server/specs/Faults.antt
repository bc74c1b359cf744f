-- Why threads did not run, as a fault of the server.
use Rattle.hub_threads.specs.declared.fault.ThreadFault.{ThreadFault}
use Rattle.hub_threads.specs.declared.fault.ThreadFault.TheVariants as of_threads
use Rattle.server_faults.specs.declared.fault.ServerFault.{ServerFault}
use Rattle.server_faults.specs.declared.fault.ServerFault.TheVariants.{Thread, Memory}

abbrev pub fault_of_threads : ThreadFault → ServerFault
fault_of_threads of_threads.Thread = Thread
fault_of_threads of_threads.Memory = Memory
