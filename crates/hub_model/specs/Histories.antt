-- What is known after a history, which histories are legal, and the run of calls.
use Rattle.std.specs.Prelude.{◌≡◌, List, [], ◌∷◌, fold}
use Rattle.hub_model.specs.Common.{Call, Reply}
use Rattle.hub_model.specs.declared.entry.Entry.{Entry}
use Rattle.hub_model.specs.HubState.{HubState, new_state}
use Rattle.hub_model.specs.Replies.{reply_to}
use Rattle.hub_model.specs.Updates.{after_call, after}

-- what is known after a history, oldest entry first
abbrev pub state_of : List Entry → HubState
state_of history = fold after new_state history

-- the reply to a call after a history
abbrev pub answer : List Entry → Call → Reply
answer history call = reply_to (state_of history) call

-- each reply is the answer after the entries before it
abbrev pub IsLegalFrom : HubState → List Entry → Type 0
IsLegalFrom s [] = Unit {0}
IsLegalFrom s (e ∷ history) = (e.reply ≡ reply_to s e.call) × IsLegalFrom (after s e) history

-- the replies are those of a new hub
abbrev pub IsLegal : List Entry → Type 0
IsLegal history = IsLegalFrom new_state history

-- once the call has got its answer
abbrev pub step : HubState → Call → HubState
step s call = after_call s call (reply_to s call)

-- what is known after calls, each of which got its answer
abbrev pub state_after : List Call → HubState
state_after calls = fold step new_state calls

-- the replies to calls, one after another
abbrev pub replies_from : HubState → List Call → List Reply
replies_from s [] = []
replies_from s (call ∷ calls) = reply_to s call ∷ replies_from (step s call) calls

-- the replies of a new hub to calls
abbrev pub run : List Call → List Reply
run calls = replies_from new_state calls
