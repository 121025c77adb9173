-- What single entries do to the host, in every legal history.
use Rattle.std.specs.Prelude.{◌≡◌, ℕ, ◌+◌, List, [], ◌∷◌, ◌++◌, Some, slice_get}
use Rattle.kernel_types.specs.declared.object.Host.{Host}
use Rattle.pod_file.specs.declared.command.{Command.Command, Verb.Verb}
use Rattle.pod_workers.specs.{Facts.EachOne, Legal.Legal, Plans.{Placed, commands_of}, World.{World, after}}
use Rattle.pod_workers.specs.declared.plan.{Entry.Entry, Plan.Plan}

-- each of these entries does so, from the host before it to the one after it
abbrev pub AllDo : (Plan → Entry → Host → Host → Type 0) → Plan → List Entry → Type 0
AllDo Does p h = EachOne h
    (λ before e. Does p e (after p.pods.opening before) (after p.pods.opening (before ++ e ∷ [])))

abbrev pub EachEntry : (Plan → Entry → Host → Host → Type 0) → Type 0
EachEntry Does = (w : World) → Legal w → AllDo Does w.plan w.history

-- where the entry is of a command of such a verb, the command does so
abbrev pub ByVerb : (Verb → Type 0) → (Command → Host → Host → Type 0) → Plan → Entry → Host → Host → Type 0
ByVerb IsOfVerb Does p e old new = (n : ℕ) (c : Placed) → slice_get (commands_of p) n ≡ Some c → e.command ≡ n + 1
    → IsOfVerb c.command.verb → Does c.command old new
