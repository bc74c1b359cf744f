use Rattle.std.proofs.Common.{◌<◌, length, rules}
use Rattle.connections.proofs.RequestLemmas.{gives-first, first-removed, first-written}
use Rattle.connections.proofs.guard.RequestGuardSource.pull.Goals as goal

pub returns-clause-bytes : goal.returns-clause-bytes
returns-clause-bytes g c =
    let some : 0 < length c.decide.new.self.held.items = search rules in
    let room : 0 < length c.args.buf.now = search rules in (
      gives-first c.decide.new.self.held.items c.remove.new.self.items _ _ _ _ _ c.in_ok-decide.ensures.decided (search rules) (first-removed _ _ _ some c.remove.ensures.value c.remove.ensures.items) c.decide.ensures.bytes (first-written c.args.buf.now c.remove.result room),
      λ none. cc,
    )
