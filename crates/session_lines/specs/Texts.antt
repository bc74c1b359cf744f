-- The texts of the lines that a session says.
use Rattle.std.specs.Prelude.{ℕ, List, ◌++◌, Result, Ok, Err, codes}
use Rattle.taf_codes.specs.declared.code.Railway.{Railway}
use Rattle.taf_messages.specs.declared.reply.Reply.{Reply}
use Rattle.tallies.specs.declared.fault.HubFault.{HubFault}
use Rattle.tallies.specs.declared.fault.HubFault.TheVariants.{Full, Memory}
use Rattle.call_lines.specs.Lines.{reply_text}
use Rattle.session_lines.specs.declared.fault.LineFault.{LineFault}
use Rattle.session_lines.specs.declared.fault.LineFault.TheVariants.{LineTooLong, NoHello, WrongSender, HubFull, NoMemory, Stranger}

-- a fault that has no field
unfoldable pub line_fault_text : LineFault → List ℕ
line_fault_text LineTooLong = codes "{\"fault\":\"line_too_long\"}"
line_fault_text NoHello = codes "{\"fault\":\"no_hello\"}"
line_fault_text WrongSender = codes "{\"fault\":\"wrong_sender\"}"
line_fault_text HubFull = codes "{\"fault\":\"hub_full\"}"
line_fault_text NoMemory = codes "{\"fault\":\"no_memory\"}"
line_fault_text Stranger = codes "{\"fault\":\"stranger\"}"

-- the answer to a hello
unfoldable pub hello_text : Railway → List ℕ
hello_text railway = codes "{\"hello\":\"" ++ railway ++ codes "\"}"

-- the answer of a job: its reply, or why there is none
abbrev pub answer_text : Result (ℕ × Reply) HubFault → List ℕ
answer_text (Ok answer) = reply_text answer.1
answer_text (Err (Full call)) = line_fault_text HubFull
answer_text (Err Memory) = line_fault_text NoMemory

-- the answer of a job where the memory of its line is refused: the line of a fault takes none
abbrev pub answer_text_without_memory : Result (ℕ × Reply) HubFault → List ℕ
answer_text_without_memory (Ok answer) = line_fault_text NoMemory
answer_text_without_memory (Err fault) = answer_text (Err fault)
