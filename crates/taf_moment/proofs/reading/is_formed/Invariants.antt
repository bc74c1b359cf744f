use Rattle.taf_moment.proofs.Common.{◌≡◌, ◌&&◌, map, drop, codes, bytes_eq, digit_as_zero, has_form}
use Rattle.taf_moment.proofs.reading.is_formed.Given as goal

abbrev pub invariant-loop-place : goal.invariant-loop-place
invariant-loop-place l =
    (l.fits && bytes_eq (map digit_as_zero (drop l.place l.letters)) (drop l.place (codes "0000-00-00T00:00Z"))) ≡ has_form l.letters
