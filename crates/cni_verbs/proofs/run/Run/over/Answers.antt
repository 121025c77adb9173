use Rattle.std.proofs.Common.{◌≡◌, ℕ, Bool, List, Option, Some, sym, subst}
use Rattle.cni_addr.specs.declared.address.Addr.{Addr}
use Rattle.net_conf.specs.declared.list.NetList.{NetList}
use Rattle.pod_file.specs.declared.command.Command.{Command}
use Rattle.cni_verbs.specs.{Phases.{KeepsOfList, KeepsOfListBy, state_in, state_by_phase}, Progress.RunView}
use Rattle.cni_verbs.specs.declared.phase.Phase.{Phase}
use Rattle.cni_verbs.proofs.Ends.{IsOverIf, outside-over}
use Rattle.cni_verbs.proofs.run.Run.over.Goals as goal

listed-over : (list : Option NetList) (l : NetList) (c : Command) (room made : ℕ) (given addrs : List Addr)
    (phase : Phase) (over : Bool)
    → list ≡ Some l → addrs ≡ given → KeepsOfListBy list c room made given phase
    → ((k : NetList) (d : Command) (places replies : ℕ) → KeepsOfList k d places replies addrs phase
    → IsOverIf over (state_in k d addrs phase))
    → IsOverIf over (state_by_phase list c given phase)
listed-over list l c room made given addrs phase over is given_read kept told =
    let K : Option NetList → Type 0 = λ o. KeepsOfListBy o c room made given phase in
    let A : List Addr → Type 0 = λ a. KeepsOfList l c room made a phase in
    let S : List Addr → Type 0 = λ a. IsOverIf over (state_in l c a phase) in
    let O : Option NetList → Type 0 = λ o. IsOverIf over (state_by_phase o c given phase) in
    subst O (sym is) (subst S given_read (told l c room made (subst A (sym given_read) (subst K is kept))))

pub returns-in-Some : goal.returns-in-Some
returns-in-Some c =
    subst (λ (v : RunView). IsOverIf c.is_over.result v.progress.state) c.self.view_is
    (listed-over c.self.inside.list _ c.self.inside.command _ _ c.self.inside.given.items _ c.self.inside.phase
    c.is_over.result
    c.in-Some.is c.as_slice-given.ensures.value c.self.invariant.0 c.is_over.ensures)

pub returns-in-None : goal.returns-in-None
returns-in-None c =
    subst (λ (v : RunView). IsOverIf c.is_over_outside.result v.progress.state) c.self.view_is
    (outside-over c.self.inside.list c.self.inside.command c.self.inside.given.items c.self.inside.phase
    c.is_over_outside.result c.in-None.is c.is_over_outside.ensures)
