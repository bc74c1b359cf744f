use Rattle.std.proofs.Common.{ℕ, Option, ap, sym, ◌∙◌}
use Rattle.taf_codes.specs.declared.code.Railway.{Railway}
use Rattle.journey_tests.proofs.stores.first_sends.note_reserved.Goals as goal

pub note_reserved-requires-clause-new : goal.note_reserved-requires-clause-new
note_reserved-requires-clause-new c =
    ap (λ (found : Railway → ℕ → Option ℕ). found c.args.by c.in_ok-number.number) c.find_or_make_room.ensures.positions ∙
    sym c.in_ok-find_or_make_room.ensures.found ∙ c.in-None.is
