use Rattle.std.proofs.Common.{◌≡◌, ◌++◌, ◌∷◌, flat_map, take, string_bytes}
use Rattle.wimo_report.proofs.column.put_units.Given as goal

abbrev pub invariant-loop-unit : goal.invariant-loop-unit
invariant-loop-unit l = string_bytes l.line ≡ string_bytes l.initial.line ++ flat_map (λ unit. 44 ∷ unit) (take l.unit-index l.others)
