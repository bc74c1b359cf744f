use Rattle.json_tokens.proofs.Common.{PlainUpTo}
use Rattle.json_tokens.proofs.scan.plain_len_from.Given as goal

abbrev pub invariant-loop-i : goal.invariant-loop-i
invariant-loop-i l = PlainUpTo l.text l.i
