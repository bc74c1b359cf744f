-- How fast something went.
use Rattle.std.specs.Prelude.{ℕ, ◌*◌, ◌/◌, max}

-- how many a second; what took no time counts as a nanosecond
abbrev pub rate : ℕ → ℕ → ℕ
rate count nanos = count * 1000000000 / max nanos 1
