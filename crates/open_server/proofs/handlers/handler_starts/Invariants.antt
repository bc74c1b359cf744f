use Rattle.std.proofs.Common.{◌≡◌, length, vec_len, option_map}
use Rattle.std.specs.List.{All}
use Rattle.open_server.proofs.handlers.handler_starts.Given as goal

abbrev pub invariant-loop-connections : goal.invariant-loop-connections
invariant-loop-connections g l = record {
  count : vec_len l.starts ≡ length l.yielded;
  keyed : All (λ start. option_map (λ k. k.now) start.0.keys ≡ l.fn.listening.keys) l.starts.items;
}
