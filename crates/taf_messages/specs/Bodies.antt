-- What a message says, whatever its kind.
use Rattle.std.specs.Prelude.{ℕ, Option, Some, None}
use Rattle.taf_messages.specs.declared.message.Body.{Body}
use Rattle.taf_messages.specs.declared.message.Body.TheVariants as body

-- the moment that a message gives
abbrev pub moment_in : Body → Option ℕ
moment_in (body.Movement m) = Some m.at
moment_in (body.Offer o) = Some o.at
moment_in (body.Answer a) = Some a.at
moment_in (body.Withdraw at n) = Some at
moment_in _ = None
