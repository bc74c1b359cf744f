use Rattle.std.proofs.Common.{◌+◌}
use Rattle.journaled_hub.proofs.WholeLineLemmas.{unbroken_after, whole_before}
use Rattle.journaled_hub.proofs.replay.whole_len.Goals as goal

pub returns-in-Some-clause-rest : goal.returns-in-Some-clause-rest
returns-in-Some-clause-rest c =
    unbroken_after c.args.bytes.now (c.in-Some.at + 1) (λ k low lt is. c.in-Some.ensures.0.after k low lt is)

pub returns-in-Some-clause-whole : goal.returns-in-Some-clause-whole
returns-in-Some-clause-whole c = whole_before c.args.bytes.now c.in-Some.at c.in-Some.ensures.0.high c.in-Some.ensures.1

pub returns-in-None-clause-rest : goal.returns-in-None-clause-rest
returns-in-None-clause-rest c = unbroken_after c.args.bytes.now 0 (λ k low lt is. c.in-None.ensures k low lt is)
