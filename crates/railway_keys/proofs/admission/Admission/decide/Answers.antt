use Rattle.railway_keys.proofs.AdmissionLemmas.{begun-of, behind, decided-of, guarded-of}
use Rattle.railway_keys.proofs.admission.Admission.decide.Goals as goal

pub returns-in-Ok-clause-guarded : goal.returns-in-Ok-clause-guarded
returns-in-Ok-clause-guarded g c =
    let read = c.in-Ok.ensures in
    guarded-of c.args.keys.now c.read.new.self.held.items c.read.new.self.line (g.S.Source.remaining c.args.source.now) (g.S.Source.remaining c.read.new.source) c.of.result read.bytes read.line c.of.ensures

pub returns-in-Ok-clause-decided : goal.returns-in-Ok-clause-decided
returns-in-Ok-clause-decided g c =
    let read = c.in-Ok.ensures in
    decided-of c.args.keys.now c.read.new.self.held.items c.read.new.self.line (g.S.Source.remaining c.args.source.now) (g.S.Source.remaining c.read.new.source) c.of.result _ _ read.few read.bytes read.line read.enough c.of.ensures

pub returns-in-Ok-clause-begun : goal.returns-in-Ok-clause-begun
returns-in-Ok-clause-begun g c =
    begun-of c.args.keys.now c.read.new.self.held.items c.read.new.self.line c.of.result c.in-Ok.ensures.line c.of.ensures

pub returns-in-Ok-clause-behind : goal.returns-in-Ok-clause-behind
returns-in-Ok-clause-behind g c =
    let held = c.read.new.self.held.items in
    behind c.args.keys.now held (g.S.Source.remaining c.read.new.source) c.of.result (begun-of c.args.keys.now held c.read.new.self.line c.of.result c.in-Ok.ensures.line c.of.ensures)
