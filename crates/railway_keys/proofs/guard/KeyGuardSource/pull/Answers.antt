use Rattle.std.proofs.Common.{◌≡◌, ◌∙◌, sym, true, drop}
use Rattle.railway_keys.specs.Admissions.{is_admitted}
use Rattle.railway_keys.proofs.GuardLemmas.{gives, none-left, reads-through, some-left}
use Rattle.railway_keys.proofs.guard.KeyGuardSource.pull.Goals as goal

pub returns-then-is_empty-clause-bytes : goal.returns-then-is_empty-clause-bytes
returns-then-is_empty-clause-bytes g c =
    let guard = c.args.self.now in
    let held = drop guard.given guard.front.held.items in
    let admitted : is_admitted guard.admission ≡ true = sym c.is_admitted.ensures ∙ c.if-not-is_admitted.false in
    let none = none-left c.is_empty.result c.after-rest.result.now held c.is_empty.ensures c.if-is_empty.true c.after-rest.ensures.value in
    reads-through guard.admission held (g.S.Source.remaining guard.source) (g.S.Source.remaining c.pull.new.self) c.pull.result c.pull.new.buf admitted none c.pull.ensures.bytes

pub returns-clause-bytes : goal.returns-clause-bytes
returns-clause-bytes g c =
    let guard = c.args.self.now in
    let admitted : is_admitted guard.admission ≡ true = sym c.is_admitted.ensures ∙ c.if-not-is_admitted.false in
    let copied = c.copy_front-count.ensures in (
      gives guard.admission guard.front.held.items guard.given c.copy_front-count.result (g.S.Source.remaining guard.source) c.after-rest.result.now c.copy_front-count.new.room admitted c.after-rest.ensures.value copied.copied,
      λ zero some. absurd (some-left c.is_empty.result c.after-rest.result.now c.is_empty.ensures c.if-is_empty.false (copied.none zero some)),
    )
