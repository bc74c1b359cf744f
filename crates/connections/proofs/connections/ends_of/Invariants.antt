use Rattle.std.proofs.Common.{◌≡◌, vec_len}
use Rattle.connections.proofs.connections.ends_of.Given as goal

abbrev pub invariant-loop-session : goal.invariant-loop-session
invariant-loop-session g l = vec_len l.ends ≡ l._session
