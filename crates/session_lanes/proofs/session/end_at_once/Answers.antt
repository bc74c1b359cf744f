use Rattle.session_lanes.proofs.Common.{◌≡◌, [], refl, sym, subst, All, All-nil, Job, Port, Fault, streams_of, HasEnded}
use Rattle.session_lanes.proofs.SessionLemmas.{never_began}
use Rattle.session_lanes.proofs.session.end_at_once.Goals as goal

pub returns : goal.returns
returns g c =
    let start = c.args.start in
    let number = start.session in
    let began = streams_of (g.S.Source.remaining start.reader) (g.K.Sink.contents start.writer) in
    let none = c.requires.none in
    let told = c.new.ensures in
    record {
      ended = subst (λ l. HasEnded number began (Fault Port) l start.pass.put) (sym told) (subst (λ l. HasEnded number began (Fault Port) [] l) (sym none) (never_began number began));
      own_jobs = subst (λ l. All (λ (j : Job). j.session ≡ number) l) (sym none) (All-nil (λ (j : Job). j.session ≡ number));
      put_only = refl;
    }
