-- The faults of the program and its statuses.
use Rattle.std.specs.Prelude.{ℕ}
use Rattle.std.specs.declared.io.ErrorKind.{ErrorKind}
use Rattle.std.specs.declared.io.ErrorKind.TheVariants.{OutOfMemory}
use Rattle.wagon_number.specs.declared.fault.NumberFault.{NumberFault}
use Rattle.wagon_number.specs.declared.fault.NumberFault.TheVariants as of_number
use Rattle.hub_replay.specs.declared.fault.RunFault.{RunFault}
use Rattle.hub_replay.specs.declared.fault.RunFault.TheVariants as of_run
use Rattle.server_faults.specs.declared.fault.ServerFault.{ServerFault}
use Rattle.server_faults.specs.declared.fault.ServerFault.TheVariants as of_server
use Rattle.disk_file.specs.declared.fault.OpenFault.{OpenFault as FileFault}
use Rattle.disk_file.specs.declared.fault.OpenFault.TheVariants as of_file
use Rattle.journaled_hub.specs.declared.fault.OpenFault.{OpenFault}
use Rattle.journaled_hub.specs.declared.fault.OpenFault.TheVariants as of_journal
use Rattle.journaled_hub.specs.declared.fault.JournaledRunFault.{JournaledRunFault}
use Rattle.journaled_hub.specs.declared.fault.JournaledRunFault.TheVariants as of_journaled
use Rattle.carried_hub.specs.declared.fault.CarryFault.{CarryFault}
use Rattle.carried_hub.specs.declared.fault.CarryFault.TheVariants as of_carry
use Rattle.railway_keys.specs.declared.fault.KeyFileFault.{KeyFileFault}
use Rattle.railway_keys.specs.declared.fault.KeyFileFault.TheVariants as of_keys
use Rattle.hub_faults.specs.declared.fault.Fault.{Fault}
use Rattle.hub_faults.specs.declared.fault.Fault.TheVariants.{Arguments, NotTwelveDigits, BadCheckDigit, Read, Write, NoEnd, Memory, Socket, Thread, NotSettled, JournalFile, JournalBusy, JournalRefused, KeysFile, KeysRefused}

-- 1: the text is refused; 2: no arguments, or the keys are refused; 3: a stream failed or has no end; 4: memory was refused; 5: no socket or no thread; 6: the
-- calls did not settle; 7: a call of the journal's file failed; 8: the journal is busy or was refused
abbrev pub status_of : Fault → ℕ
status_of Arguments = 2
status_of NotTwelveDigits = 1
status_of BadCheckDigit = 1
status_of Read = 3
status_of Write = 3
status_of NoEnd = 3
status_of Memory = 4
status_of Socket = 5
status_of Thread = 5
status_of NotSettled = 6
status_of JournalFile = 7
status_of JournalBusy = 8
status_of JournalRefused = 8
status_of KeysFile = 3
status_of KeysRefused = 2

-- why the arguments of the command line were not read
abbrev pub fault_of_arguments : ErrorKind → Fault
fault_of_arguments OutOfMemory = Memory
fault_of_arguments _ = Arguments

abbrev pub fault_of_number : NumberFault → Fault
fault_of_number of_number.NotTwelveDigits = NotTwelveDigits
fault_of_number of_number.BadCheckDigit = BadCheckDigit

abbrev pub fault_of_run : RunFault → Fault
fault_of_run of_run.Read = Read
fault_of_run of_run.Write = Write
fault_of_run of_run.NoEnd = NoEnd
fault_of_run of_run.Memory = Memory

abbrev pub fault_of_server : ServerFault → Fault
fault_of_server of_server.Thread = Thread
fault_of_server of_server.Memory = Memory
fault_of_server (of_server.NotSettled why) = NotSettled
fault_of_server of_server.Journal = JournalFile

-- why the file of a journal was not opened
abbrev pub fault_of_file : FileFault → Fault
fault_of_file of_file.File = JournalFile
fault_of_file of_file.Busy = JournalBusy
fault_of_file of_file.NotRegular = JournalRefused

-- why it gave no hub
abbrev pub fault_of_journal : OpenFault → Fault
fault_of_journal of_journal.Memory = Memory
fault_of_journal of_journal.Failed = JournalFile
fault_of_journal (of_journal.Damaged whole) = JournalRefused
fault_of_journal (of_journal.NoCall line) = JournalRefused
fault_of_journal (of_journal.OtherSum line) = JournalRefused
fault_of_journal of_journal.Full = JournalRefused

-- why a run with a journal broke off
abbrev pub fault_of_journaled_run : JournaledRunFault → Fault
fault_of_journaled_run (of_journaled.Run run) = fault_of_run run
fault_of_journaled_run of_journaled.Journal = JournalFile

-- why a hub was not carried over
abbrev pub fault_of_carry : CarryFault → Fault
fault_of_carry of_carry.Memory = Memory
fault_of_carry of_carry.Full = JournalRefused
fault_of_carry of_carry.Failed = JournalFile
fault_of_carry of_carry.NotClosed = JournalRefused
fault_of_carry of_carry.OtherItems = JournalRefused

-- why the keys were not taken
abbrev pub fault_of_keys : KeyFileFault → Fault
fault_of_keys (of_keys.Line number why) = KeysRefused
fault_of_keys of_keys.Memory = Memory
