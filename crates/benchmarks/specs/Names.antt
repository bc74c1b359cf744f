-- The names of the benchmarks.
use Rattle.std.specs.Prelude.{ℕ, List, [], ◌∷◌, Option, codes, find}
use Rattle.std.specs.Str.{bytes_eq}
use Rattle.benchmarks.specs.declared.bench.Bench.{Bench}
use Rattle.benchmarks.specs.declared.bench.Bench.TheVariants.{Parse, Read, Replies, Record, Items, Copies, Journey, Hub, Report, Lane, Shift}

abbrev pub bench_name : Bench → List ℕ
bench_name Parse = codes "parse"
bench_name Read = codes "read"
bench_name Replies = codes "replies"
bench_name Record = codes "record"
bench_name Items = codes "items"
bench_name Copies = codes "copies"
bench_name Journey = codes "journey"
bench_name Hub = codes "hub"
bench_name Report = codes "report"
bench_name Lane = codes "lane"
bench_name Shift = codes "shift"

-- all benchmarks there are
abbrev pub benches : List Bench
benches = Parse ∷ Read ∷ Replies ∷ Record ∷ Items ∷ Copies ∷ Journey ∷ Hub ∷ Report ∷ Lane ∷ Shift ∷ []

-- the benchmark of that name
unfoldable pub bench_named : List ℕ → Option Bench
bench_named name = find (λ bench. bytes_eq (bench_name bench) name) benches
