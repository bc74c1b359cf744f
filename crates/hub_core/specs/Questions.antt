-- Calls that are questions.
use Rattle.std.specs.Prelude.{Bool, true, false}
use Rattle.taf_messages.specs.declared.call.Call.{Call}
use Rattle.taf_messages.specs.declared.call.Call.TheVariants.{Send, Ack}

-- the call is a question: it changes nothing that is looked up
abbrev pub is_question : Call → Bool
is_question (Send m) = false
is_question (Ack by item) = false
is_question _ = true
