use Rattle.taf_moment.proofs.Common.{refl, sym, subst, IsAscii}
use Rattle.taf_moment.proofs.TableLemmas.{letters_at, IsAscii-two_digits}
use Rattle.taf_moment.proofs.moment.two_letters.Goals as goal

pub returns-clause-value : goal.returns-clause-value
returns-clause-value c = let letters = letters_at c.args.number c.requires in rw (c.from-place.ensures, letters.0, letters.1) refl

pub returns-clause-ascii : goal.returns-clause-ascii
returns-clause-ascii c = subst IsAscii (sym (returns-clause-value c)) (IsAscii-two_digits c.args.number c.requires)
