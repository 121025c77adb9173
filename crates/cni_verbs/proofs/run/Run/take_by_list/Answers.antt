use Rattle.std.proofs.Common.{◌≡◌, ◌∙◌, true, List, Option, Some, None, sym, ap, subst}
use Rattle.std.specs.Prelude.{is_some}
use Rattle.cni_addr.specs.declared.address.Addr.{Addr}
use Rattle.net_conf.specs.declared.list.NetList.{NetList}
use Rattle.pod_file.specs.declared.command.Command.{Command}
use Rattle.cni_verbs.specs.{Phases.{Awaits, is_prepared_by, state_by_phase}, Progress.RunView, Script.IsOpen}
use Rattle.cni_verbs.specs.declared.phase.Phase.{Phase}
use Rattle.cni_verbs.proofs.PhaseSteps.{awaits}
use Rattle.cni_verbs.proofs.run.Run.take_by_list.Goals as goal

listed-awaits : (list : Option NetList) (c : Command) (addrs : List Addr) (phase : Phase) → is_some list ≡ true
    → IsOpen (state_by_phase list c addrs phase)
    → is_prepared_by list phase ≡ true → Awaits phase
listed-awaits None c addrs phase listed open_by prepared = absurd cc
listed-awaits (Some list) c addrs phase listed open_by prepared = awaits list c addrs phase open_by prepared

pub after-requires-clause-awaits : goal.after-requires-clause-awaits
after-requires-clause-awaits c =
    listed-awaits c.self.inside.list c.self.inside.command c.self.inside.given.items c.self.inside.phase
    (ap (λ (v : RunView). is_some v.progress.list) c.self.view_is ∙ c.requires.listed)
    (subst (λ (v : RunView). IsOpen v.progress.state) (sym c.self.view_is) c.requires.open)
    (ap (λ (v : RunView). v.prepared) c.self.view_is ∙ c.requires.prepared)
