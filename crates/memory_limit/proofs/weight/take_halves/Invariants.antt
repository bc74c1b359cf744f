use Rattle.std.proofs.Common.{◌≤◌, vec_len}
use Rattle.memory_limit.proofs.weight.take_halves.Given as goal

abbrev pub invariant-loop : goal.invariant-loop
invariant-loop l = vec_len l.initial.blocks ≤ vec_len l.blocks
