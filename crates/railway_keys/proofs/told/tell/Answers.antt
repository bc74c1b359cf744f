use Rattle.std.proofs.Common.{◌≡◌, true, is_ok, rules}
use Rattle.railway_keys.proofs.GuardLemmas.{told-all}
use Rattle.railway_keys.proofs.told.tell.Goals as goal

pub returns-then-is_ok : goal.returns-then-is_ok
returns-then-is_ok g c =
    let ok : is_ok c.write_all.result ≡ true = search rules in
    told-all _ c.text-text.result.now _ (g.K.Sink.contents c.write_all.new.writer) _ _ _ c.write_all.result c.text-text.ensures ok c.write_all.ensures.ok c.flush.ensures.bytes
