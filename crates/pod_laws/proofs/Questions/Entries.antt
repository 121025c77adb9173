-- A CHECK and a STATUS only ask.
use Rattle.pod_laws.proofs.Names.{◌≡◌, ℕ, Bool, true, List, refl, ◌∙◌, ap, both_ways, NetList, is_of_network, Command}
use Rattle.pod_laws.proofs.Names.{Verb, Call, CacheGet, Share, att_of, State, FindingEntry, Asking, Changing}
use Rattle.pod_laws.proofs.Names.{Collecting, Over, Calls, turn, Placed, World, host_of, Entry}
use Rattle.pod_file.specs.declared.command.Verb.TheVariants as verbs
use Rattle.pod_laws.specs.Granted.{EachQuestionLeavesTheHost, only_asks}
use Rattle.pod_laws.proofs.Histories.{EachEntry.{DoesByVerb, each-entry_of}, Runs.{IsRunFact, StartsWith}}
use Rattle.pod_laws.proofs.Histories.{Runs.{every-run-now, own-state}, States.{IsAside, IsOtherVerb, LeftFit}}
use Rattle.pod_laws.proofs.Histories.States.{aside-advance, aside-start, is_question, question-leaves}
use Rattle.pod_laws.proofs.Histories.{States.asked-is_question, Steps.{GoesOn, on-entry}}

-- ---- its calls

abbrev StaysAside : NetList → Command → List Entry → State → Share → Type 0
StaysAside list c es st s = IsOtherVerb c.verb → IsAside st

aside-begun : StartsWith StaysAside
aside-begun list c s = λ other. aside-start list c c.verb other

aside-step : IsRunFact StaysAside
aside-step w n c list call faulty on was = λ other. aside-advance list c.command _ _ _ (was other)

other-verb : (v : Verb) → only_asks v ≡ true → IsOtherVerb v
other-verb verbs.Add is = cc
other-verb verbs.Del is = cc
other-verb _ is = tt

asking-turn : (list : NetList) (c : Command) (st : State) (call : Call) → only_asks c.verb ≡ true → IsAside st
    → LeftFit list c st → turn c st ≡ Calls call → is_question call ≡ true
unfolding turn
asking-turn list c FindingEntry call only aside fit is = ap is_question (let e : call ≡ CacheGet (att_of c) = cc in e)
asking-turn list c (Asking q qs) call only aside fit is =
    ap is_question (let e : call ≡ q.call = cc in e) ∙ asked-is_question list q.call fit.0
asking-turn list c (Collecting work faults) call only aside fit is =
    absurd (both_ways (only_asks c.verb) (ap only_asks fit) only)
asking-turn list c (Changing change) call only aside fit is = absurd fit
asking-turn list c (Over ending given) call only aside fit is = cc
asking-turn list c _ call only aside fit is = absurd aside

pub question-turn : (w : World) (n : ℕ) (c : Placed) (list : NetList) (call : Call) (faulty : Bool)
    → GoesOn w n c list call faulty → only_asks c.command.verb ≡ true → is_question call ≡ true
question-turn w n c list call faulty on only =
    let own = own-state w n c list call faulty on in
    asking-turn list c.command _ call only
    (every-run-now StaysAside aside-begun aside-step w n c list call faulty on (other-verb c.command.verb only))
    own.fits own.turn_is

-- its entry leaves the host
pub question-entered : DoesByVerb (λ v. only_asks v ≡ true) (λ c old new. new ≡ old)
question-entered w n c list call faulty on only =
    on-entry (λ k. k ≡ host_of w) (host_of w) n call faulty refl
    (λ f. question-leaves (host_of w) call (question-turn w n c list call faulty on only))

-- ---- every history

of-network : (v : Verb) → only_asks v ≡ true → is_of_network v ≡ true
of-network verbs.Check is = refl
of-network verbs.Status is = refl
of-network verbs.Version is = refl
of-network _ is = cc

pub each_question_leaves_the_host : EachQuestionLeavesTheHost
each_question_leaves_the_host =
    each-entry_of (λ v. only_asks v ≡ true) (λ c old new. new ≡ old) of-network question-entered
