use Rattle.std.proofs.Common.{◌≡◌, ℕ, ◌<◌, get_or}
use Rattle.railway_keys.proofs.digest.KeyDigest.is_same.Given as goal

abbrev pub invariant-loop-i : goal.invariant-loop-i
invariant-loop-i l = record {
  same : l.difference ≡ 0 → (k : ℕ) → k < l.i → get_or l.self-inside.bytes k 0 ≡ get_or l.other-inside.bytes k 0;
  none : l.self-inside.bytes ≡ l.other-inside.bytes → l.difference ≡ 0;
}
