use Rattle.std.proofs.Common.{◌≡◌, ◌∙◌, ap, sym, ◌<◌, length, arith, refl, lit<}
use Rattle.connections.specs.Requests.{front_of}
use Rattle.connections.specs.declared.guard.Front.TheVariants as front_is
use Rattle.connections.proofs.RequestLemmas.{undecided-short, as-undecided, keeps-end, held-more, keeps-decided, one-taken}
use Rattle.connections.proofs.guard.RequestGuard.decide.Goals as goal

pub returns-then-branch-eq0-clause-bytes : goal.returns-then-branch-eq0-clause-bytes
returns-then-branch-eq0-clause-bytes g c =
    let i = c.loop-byte.invariant in
    let undecided = ap front_of (sym c.as_slice.ensures.value) ∙ sym c.front_of.ensures ∙ c.in-Undecided.is in
    let some : 0 < length c.pull.new.buf = omega (arith, c.pull.auto.buf) in
    keeps-end c.loop-byte.self.held.items _ _ _ _ undecided (rw c.if-branch-eq0.true refl) (as-undecided _ _ _ _ i.undecided i.bytes) c.in_ok-pull.ensures.bytes.0 (c.in_ok-pull.ensures.end c.if-branch-eq0.true some)

pub push-requires : goal.push-requires
push-requires g c =
    let undecided = ap front_of (sym c.as_slice.ensures.value) ∙ sym c.front_of.ensures ∙ c.in-Undecided.is in
    let short = undecided-short c.loop-byte.self.held.items undecided in
    (lit< tt, omega (arith, short))

pub loop-byte-smaller : goal.loop-byte-smaller
loop-byte-smaller g c =
    let undecided = ap front_of (sym c.as_slice.ensures.value) ∙ sym c.front_of.ensures ∙ c.in-Undecided.is in
    let short = undecided-short c.loop-byte.self.held.items undecided in
    omega (arith, short, c.push.ensures.len)

pub loop-byte-preserved : goal.loop-byte-preserved
loop-byte-preserved g c =
    let i = c.loop-byte.invariant in
    let one : length c.pull.new.buf ≡ 1 = omega (arith, c.pull.auto.buf) in
    record {
      undecided = i.undecided;
      bytes = held-more _ _ _ _ _ _ _ _ i.undecided (one-taken c.pull.new.buf c.in_ok-pull.field-0 one c.in_ok-pull.ensures.bound c.if-branch-eq0.false) c.push.ensures.items i.bytes c.in_ok-pull.ensures.bytes.0;
      counted = c.in_ok-pull.ensures.counted ∙ i.counted;
    }

pub returns : goal.returns
returns g c =
    let i = c.loop-byte.invariant in
    let known = c.front_of-self.ensures ∙ ap front_of c.as_slice-2.ensures.value in
    let decided : c.front_of-self.result ≡ front_is.Undecided → ⊥ = λ undecided. c.in_default.not-Undecided (c.front_of.ensures ∙ ap front_of c.as_slice.ensures.value ∙ sym known ∙ undecided) in
    record {
      bytes = keeps-decided _ _ _ _ known decided (as-undecided _ _ _ _ i.undecided i.bytes);
      decided = decided;
      counted = i.counted;
    }
