-- A VERSION makes no call.
use Rattle.pod_laws.proofs.Names.{◌≡◌, List, [], refl, sym, ◌∙◌, ap, NetList, Command, Verb, Share, Addr, State, Over}
use Rattle.pod_laws.proofs.Names.{start_of, turn, Ending, Versions, Entry}
use Rattle.pod_file.specs.declared.command.Verb.TheVariants as verbs
use Rattle.pod_laws.specs.{Changed.VersionsAreTheLists, Moments.own_entries}
use Rattle.pod_laws.proofs.{Given.{CutOff.{over-by, answered-by}, Due.over-calls}, Histories.Runs.IsRunFact}
use Rattle.pod_laws.proofs.Histories.Runs.{StartsWith, every-run, own-state}

abbrev OnlyTells : NetList → Command → List Entry → State → Share → Type 0
OnlyTells list c es st s = c.verb ≡ verbs.Version → (es ≡ []) × (st ≡ Over Versions [])

tells-start_of : (list : NetList) (c : Command) (v : Verb) → v ≡ verbs.Version → start_of list v c ≡ Over Versions []
tells-start_of list c verbs.Version is = refl
tells-start_of list c _ is = cc

tells-start : StartsWith OnlyTells
tells-start list c s = λ verb. (refl, tells-start_of list c c.verb verb)

tells-step : IsRunFact OnlyTells
tells-step w n c list call faulty on was = λ verb.
    absurd (over-calls c.command Versions [] call
    (ap (turn c.command) (sym (was verb).1) ∙ (own-state w n c list call faulty on).turn_is))

told : (ending : Ending) (given : List Addr) → Over ending given ≡ Over Versions [] → (given ≡ []) × (ending ≡ Versions)
told ending given is = (cc, cc)

pub versions_are_the_lists : VersionsAreTheLists
versions_are_the_lists w legal n c a at verb is = λ list listed whole.
    let tells = every-run OnlyTells tells-start tells-step w legal n c list at listed verb in
    answered-by list c.command _ a (λ st. st ≡ Over Versions [])
    (λ ending. (own_entries n w.history ≡ []) × (ending ≡ Versions))
    (λ ending given same. let t = told ending given same in (t.0, (tells.0, t.1))) (λ work faults same. cc)
    (over-by w legal n c list a at listed is whole) tells.1
