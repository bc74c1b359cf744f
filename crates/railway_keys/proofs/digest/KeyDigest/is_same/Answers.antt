use Rattle.std.proofs.Common.{◌≡◌, length, get_or, ap, arith, below_more, rules}
use Rattle.railway_keys.proofs.DigestLemmas.{none-so-far, none-more, same-test}
use Rattle.railway_keys.proofs.digest.KeyDigest.is_same.Goals as goal

pub loop-i-preserved : goal.loop-i-preserved
loop-i-preserved c =
    let a = c.self.inside.bytes in
    let b = c.other.inside.bytes in
    let i = c.loop-i.i in
    let d = c.loop-i.difference in
    record {
      same = λ zero. let both = none-so-far d (get_or a i 0) (get_or b i 0) zero in below_more (λ k. get_or a k 0 ≡ get_or b k 0) i (c.loop-i.invariant.same both.0) both.1;
      none = λ equal. none-more d (get_or a i 0) (get_or b i 0) (c.loop-i.invariant.none equal) (ap (λ l. get_or l i 0) equal);
    }

pub returns : goal.returns
returns c =
    let a = c.self.inside.bytes in
    let b = c.other.inside.bytes in
    let long : length a ≡ 32 = search rules in
    let len : length a ≡ length b = search rules in
    let test = same-test a b c.loop-i.difference len (λ zero k lt. c.loop-i.invariant.same zero k (omega arith)) c.loop-i.invariant.none in
    let mine = c.self.view_is in
    let theirs = c.other.view_is in
    cc
