use Rattle.reply_writer.proofs.Common.{refl}
use Rattle.reply_writer.proofs.put.put_field_if.Goals as goal

pub returns-in-Some-clause-ok : goal.returns-in-Some-clause-ok
returns-in-Some-clause-ok g c = rw (c.in-Some.is) c.put_field.ensures.ok

pub returns-in-None-clause-ok : goal.returns-in-None-clause-ok
returns-in-None-clause-ok g c = rw (c.in-None.is) refl
