-- What is known of the first bytes that a session writes.
use Rattle.std.specs.Prelude.{ℕ, ◌+◌, nat_eq, Bool, true, false, List, [], ◌∷◌, codes, if◌then◌else◌}
use Rattle.std.specs.List.{starts_with}
use Rattle.taf_codes.specs.Counting.{count}
use Rattle.railway_keys.specs.declared.hello_writer.FirstAnswer.{FirstAnswer}
use Rattle.railway_keys.specs.declared.hello_writer.FirstAnswer.TheVariants.{Awaited, Hello, Other, Refused}
use Rattle.railway_keys.specs.declared.hello_writer.HelloWriter.{HelloWriter}

-- they begin as the answer to a hello does
unfoldable pub answers_hello : List ℕ → Bool
answers_hello bytes = starts_with nat_eq bytes (codes "{\"hello\":\"")

-- what is known by the first bytes alone
abbrev pub first_answer : List ℕ → FirstAnswer
first_answer [] = Awaited
first_answer (b ∷ bytes) = if answers_hello (b ∷ bytes) then Hello else Other

-- what is known once these bytes are given too
abbrev pub after_push : FirstAnswer → List ℕ → FirstAnswer
after_push Awaited bytes = first_answer bytes
after_push Hello bytes = Hello
after_push Other bytes = Other
after_push Refused bytes = Refused

-- what is known once they are sent on
abbrev pub after_flush : FirstAnswer → FirstAnswer
after_flush Awaited = Awaited
after_flush Hello = Hello
after_flush Other = Refused
after_flush Refused = Refused

-- there are none yet, or they answer a hello
abbrev pub goes_on : FirstAnswer → Bool
goes_on Awaited = true
goes_on Hello = true
goes_on Other = false
goes_on Refused = false

-- how many calls failed, of the writer behind or for the first answer
abbrev pub failures_of : {K : Type 0} → (K → ℕ) → HelloWriter K → ℕ
failures_of failures hello = failures hello.writer + count hello.failed
