use Rattle.taf_messages.proofs.CloneLemmas.{call_copied}
use Rattle.taf_messages.proofs.copies.copy_call.Goals as goal

pub returns : goal.returns
returns c = call_copied c.args.call.now c.in_ok-clone.field-0 c.in_ok-clone.ensures.cases
