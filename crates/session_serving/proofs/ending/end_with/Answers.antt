use Rattle.session_serving.proofs.Common.{◌≡◌, rules, tests, Port}
use Rattle.session_serving.proofs.ServeLemmas.{serves-discards}
use Rattle.session_serving.proofs.EndLemmas.{serves-weak, still-written}
use Rattle.session_serving.proofs.ending.end_with.Goals as goal

pub returns-in-Read-clause-serves : goal.returns-in-Read-clause-serves
returns-in-Read-clause-serves g c = λ begun reads s. serves-discards begun _ _ _ reads _ _ c.drop_all.ensures.port.1 s c.drop_all.ensures.discards

pub returns-in-Write-clause-serves : goal.returns-in-Write-clause-serves
returns-in-Write-clause-serves g c = λ begun reads s. serves-discards begun _ _ _ reads _ _ c.drop_all-in-Write.ensures.port.1 s c.drop_all-in-Write.ensures.discards

pub returns-in-NoEnd-clause-serves : goal.returns-in-NoEnd-clause-serves
returns-in-NoEnd-clause-serves g c = λ begun reads s. serves-discards begun _ _ _ reads _ _ c.drop_all-in-NoEnd.ensures.port.1 s c.drop_all-in-NoEnd.ensures.discards

pub returns-in-Port-clause-serves : goal.returns-in-Port-clause-serves
returns-in-Port-clause-serves g c =
    let e : c.args.fault ≡ Port = search (rules, tests) in
    still-written _ _ _ c.args.fault _ e c.write_out.ensures.writes

pub returns-in-Memory-clause-serves : goal.returns-in-Memory-clause-serves
returns-in-Memory-clause-serves g c = λ begun reads s. serves-weak begun _ reads _ _ s
