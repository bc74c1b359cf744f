-- Calls that are refused.
use Rattle.std.specs.Prelude.{ℕ, Option}
use Rattle.taf_messages.specs.declared.reply.Reply.{Reply}
use Rattle.taf_messages.specs.declared.reply.Reply.TheVariants.{Refused}
use Rattle.taf_messages.specs.declared.reply.Why.{Why}

-- the reply that refuses a call: the number of its message, why, the wagon, and the last item that there is
abbrev pub refused : Option ℕ → Why → Option ℕ → Option ℕ → Reply
refused number why wagon last = Refused (record { no = number; why = why; wagon = wagon; last = last })
