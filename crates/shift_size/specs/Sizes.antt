-- How large a shift may be.
use Rattle.std.specs.Prelude.{ℕ, ◌≤◌}

-- 1 to 64 sessions, 1 to 8 workers
abbrev pub IsSize : ℕ → ℕ → Type 0
IsSize sessions workers = (1 ≤ sessions) × (sessions ≤ 64) × (1 ≤ workers) × (workers ≤ 8)
