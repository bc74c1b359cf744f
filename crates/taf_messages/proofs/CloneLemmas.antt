-- What is cloned is equal to its source.
use Rattle.std.proofs.Common.{◌≡◌, ap}
use Rattle.taf_messages.specs.declared.call.Call.{Call}
use Rattle.taf_messages.specs.declared.call.Call.TheVariants as call
use Rattle.taf_messages.specs.contracts.call.CallClone.TheImpl as CallClone

pub call_copied : (a b : Call) → CallClone.ghosts.is_clone a b → b ≡ a
call_copied (call.Send m) (call.Send n) h = ap call.Send h
call_copied (call.Ask by w) (call.Ask also v) h = cc
call_copied (call.AskUnit by u) (call.AskUnit also v) h = cc
call_copied (call.Deviation by c) (call.Deviation also d) h = cc
call_copied (call.Fetch by l) (call.Fetch also k) h = cc
call_copied (call.Ack by n) (call.Ack also k) h = cc
call_copied _ _ h = absurd h
