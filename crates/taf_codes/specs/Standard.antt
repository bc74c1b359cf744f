-- What a reader or a writer of std is seen as.
use Rattle.std.specs.Prelude.{ℕ}
use Rattle.taf_codes.specs.Counting.{count}
use Rattle.taf_codes.specs.declared.streams.Std.{Std}

-- the reader or the writer itself
abbrev pub std_inner : {T : Type 0} → Std T → T
std_inner std = std.inner

-- how many of its calls failed
abbrev pub std_failures : {T : Type 0} → Std T → ℕ
std_failures std = count std.failed

-- the same count over another reader or writer
abbrev pub std_with_inner : {T : Type 0} → Std T → T → Std T
std_with_inner std inner = record std { inner = inner }
