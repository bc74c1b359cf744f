use Rattle.std.proofs.Common.{◌≡◌, ◌++◌, length}
use Rattle.std.specs.Prelude.{flat_map}
use Rattle.std.specs.Vec.Iter.{into_iter_items, into_iter_len}
use Rattle.wimo_report.proofs.report.joined.Given as goal

abbrev pub invariant-loop-part : goal.invariant-loop-part
invariant-loop-part l =
    (l.lines.items ++ flat_map (λ p. p.items) (into_iter_items l.part-iterator) ≡ flat_map (λ p. p.items) l.fn.parts.items)
    × (into_iter_len l.part-iterator ≡ length (into_iter_items l.part-iterator))
