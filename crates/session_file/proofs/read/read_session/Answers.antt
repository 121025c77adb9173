use Rattle.std.proofs.Common.{◌≡◌, ap, subst, ◌∙◌}
use Rattle.serde_json.specs.View.{view}
use Rattle.cni_json.specs.Outcome.{◌>>=◌}
use Rattle.pod_file.specs.PodFile.{read_or_refused}
use Rattle.session_file.proofs.{NeverOfRound.{Never, never_by}, SessionFacts.kept_by}
use Rattle.session_file.specs.SessionFile.{session_at, session_of}
use Rattle.session_file.proofs.read.read_session.Goals as goal

pub returns-in-Ok-clause-well_formed : goal.returns-in-Ok-clause-well_formed
unfolding session_of
returns-in-Ok-clause-well_formed c =
    let read : session_of c.args.bytes.now ≡ session_at (view c.in-Ok.top) =
    ap (λ r. read_or_refused r >>= session_at) c.in-Ok.ensures.outcome in
    kept_by c.session.result _ c.session.ensures (λ conf is. c.session_file_laws.ensures.well_formed _ conf (read ∙ is))

pub returns-in-Ok-clause-never_alone : goal.returns-in-Ok-clause-never_alone
unfolding session_of
returns-in-Ok-clause-never_alone c =
    let read : session_of c.args.bytes.now ≡ session_at (view c.in-Ok.top) =
    ap (λ r. read_or_refused r >>= session_at) c.in-Ok.ensures.outcome in
    never_by c.session.result _ c.session.ensures
    (subst Never read (c.session_file_laws.ensures.never_alone c.args.bytes.now))
