-- What the words ask for.
use Rattle.std.specs.Prelude.{Option, Some, None}
use Rattle.benchmarks.specs.declared.bench.Bench.{Bench}
use Rattle.benchmarks.specs.declared.words.Asked.{Asked}
use Rattle.benchmarks.specs.declared.words.Asked.TheVariants.{Names, Run, Schedules}

-- the benchmark that is to run, if one is
abbrev pub bench_in : Asked → Option Bench
bench_in Names = None
bench_in (Run bench count) = Some bench
bench_in (Schedules count first) = None
