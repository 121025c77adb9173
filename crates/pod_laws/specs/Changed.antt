-- What a VERSION is answered (CNI specification, section 3, "Version"), and what a change from outside is.
use Rattle.std.specs.Prelude.{◌≡◌, false, List, [], ◌∷◌}
use Rattle.cni_verbs.specs.{Endings.outside_by, Script.{State, Over, Changing, changed, outside_start}}
use Rattle.cni_errors.specs.declared.answer.{Answer.Answer, Ending.TheVariants.Versions}
use Rattle.pod_file.specs.{Commands.is_of_network, declared.command.{Command.Command, Verb.Verb}}
use Rattle.pod_file.specs.declared.command.Verb.TheVariants as verbs
use Rattle.pod_workers.specs.declared.plan.Entry.{Entry}
use Rattle.pod_laws.specs.{Answers.{EachAnswer, EachEnding, is_cut_off}, Moments.own_entries}

-- ---- VERSION

-- with no call made, it is answered the version of its list
abbrev pub VersionsAreTheLists : Type 0
VersionsAreTheLists = EachEnding verbs.Version (λ list c entries host ending. (entries ≡ []) × (ending ≡ Versions))

-- ---- changes from outside

-- a run that starts so makes no call, or the one change that it asks for, whose reply decides
abbrev pub IsChangedBy : Command → State → List Entry → Answer → Type 0
IsChangedBy c (Over ending given) [] a = a ≡ outside_by c ending
IsChangedBy c (Changing change) (e ∷ []) a = (e.call ≡ change) × (a ≡ outside_by c (changed 1 e.reply))
IsChangedBy c start entries a = ⊥

abbrev pub ChangesAreAnswered : Type 0
ChangesAreAnswered = (verb : Verb) → is_of_network verb ≡ false
    → EachAnswer verb (λ w n c a. is_cut_off a ≡ false → IsChangedBy c (outside_start c) (own_entries n w.history) a)
