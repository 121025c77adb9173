-- A STATUS asks of one host, and its answer is what that host has to give.
use Rattle.pod_laws.proofs.Names.{◌≡◌, ℕ, ◌+◌, Bool, true, false, List, [], ◌∷◌, ◌++◌, length, refl, sym, ◌∙◌, ap}
use Rattle.pod_laws.proofs.Names.{subst, Option, Some, None, and-true, length_push, list_all-append, AllByRecursion}
use Rattle.pod_laws.proofs.Names.{list_all, ◌&&◌, RangeSet, NetList, is_exclusive_verb, Command, Verb, apply}
use Rattle.pod_laws.proofs.Names.{has_master, leased_addresses, is_fault, Host, IsReplyOf-apply, master_questions}
use Rattle.pod_laws.proofs.Names.{pool_questions, status_questions, State, Asking, Over, Calls, advance, asking}
use Rattle.pod_laws.proofs.Names.{at_question, start_of, turn, unless_ended, master_of, sets_of, Ending, Refused}
use Rattle.pod_laws.proofs.Names.{Question, too_old, entry_of, host_of, reply_to, Entry, each-append, each-at}
use Rattle.std.specs.Prelude.{MatchBool}
use Rattle.cni_result.specs.Versions.{is_before_1_1}
use Rattle.pod_file.specs.declared.command.Verb.TheVariants as verbs
use Rattle.ip_pool.specs.Pool.{has_free_of}
use Rattle.cni_verbs.specs.Script.{old_ending}
use Rattle.cni_errors.specs.declared.answer.Cause.TheVariants as causes
use Rattle.cni_verbs.proofs.EarlyEndings.{old_ending-cases}
use Rattle.pod_laws.specs.{Answers.{EndsByFault, EndsByTest}, Available.{EndsStatus, IsUnavailable, LacksService}}
use Rattle.pod_laws.specs.{Available.{WasAvailable, is_available}, Granted.{grants, only_asks}, Moments.has_fault}
use Rattle.pod_laws.specs.Moments.{host_at_end, own_entries}
use Rattle.pod_laws.proofs.{Given.CutOff.{over-by, answered-by}, Histories.RunFacts.{HostFact, IsHostFact, StartsOn}}
use Rattle.pod_laws.proofs.{Histories.{RunFacts.each-run, Runs.own-state}, Questions.Asking.{EndsAsked, HasAsked}}
use Rattle.pod_laws.proofs.Questions.Asking.{IsAsking, asked-all, asked-none, asked-reply, by-asked, no_fault-more}
use Rattle.pod_laws.proofs.Questions.{Asking.{fault-last, tells}, Entries.question-entered, SteadyHosts.KeepsAsked}
use Rattle.pod_laws.proofs.Questions.SteadyHosts.{asked-kept}

-- ---- its questions

-- its reply is a truth value, and a denial means code 50
abbrev IsServiceQuestion : Question → Type 0
IsServiceQuestion q = (tells q.call ≡ true) × IsUnavailable q.lack

service-pools : (network : List ℕ) (number : ℕ) (sets : List RangeSet)
    → AllByRecursion IsServiceQuestion (pool_questions network number sets)
service-pools network number [] = tt
service-pools network number (s ∷ ss) = ((refl, refl), service-pools network (number + 1) ss)

service-master : (master : Option (List ℕ)) → AllByRecursion IsServiceQuestion (master_questions master)
service-master None = tt
service-master (Some master) = ((refl, refl), tt)

service-questions : (list : NetList) (c : Command) → AllByRecursion IsServiceQuestion (status_questions list c)
unfolding status_questions
service-questions list c =
    each-append IsServiceQuestion (pool_questions c.network 0 (sets_of list)) (master_questions (master_of list.first))
    (service-pools c.network 0 (sets_of list)) (service-master (master_of list.first))

-- all are granted where the network is available
granted-pools : (host : Host) (network : List ℕ) (number : ℕ) (sets : List RangeSet)
    → list_all (grants host) (pool_questions network number sets)
    ≡ list_all (λ set. has_free_of set (leased_addresses host network)) sets
granted-pools host network number [] = refl
granted-pools host network number (s ∷ ss) =
    ap (λ b. has_free_of s (leased_addresses host network) && b) (granted-pools host network (number + 1) ss)

granted-master : (host : Host) (master : Option (List ℕ))
    → list_all (grants host) (master_questions master) ≡ has_master host master
granted-master host None = refl
granted-master host (Some master) = and-true _

granted-status : (list : NetList) (c : Command) (host : Host)
    → list_all (grants host) (status_questions list c) ≡ is_available list c host
unfolding status_questions
granted-status list c host =
    list_all-append (grants host) (pool_questions c.network 0 (sets_of list)) (master_questions (master_of list.first))
    ∙ ap (λ b. b && list_all (grants host) (master_questions (master_of list.first)))
    (granted-pools host c.network 0 (sets_of list))
    ∙ ap (λ b. list_all (λ set. has_free_of set (leased_addresses host c.network)) (sets_of list) && b)
    (granted-master host (master_of list.first))

-- ---- every run

-- its version has the verb, and no entry is a fault
pub record HasStatus (list : NetList) (c : Command) (es : List Entry) (host : Host)
    (left : List Question) : Type 0 where
  pub version : is_before_1_1 list.version ≡ false
  pub no_fault : has_fault es ≡ false
  pub asked : HasAsked host (status_questions list c) left

abbrev StatusAt : NetList → Command → List Entry → State → Host → Type 0
StatusAt list c es (Asking next left) host = HasStatus list c es host (next ∷ left)
StatusAt list c es (Over ending given) host = (given ≡ []) × EndsStatus list c es host ending
StatusAt list c es _ host = ⊥

-- a list that has the verb tells by its calls
abbrev AnswersStatus : NetList → Command → List Entry → Host → Ending → Type 0
AnswersStatus list c es host ending =
    EndsByFault es (has_fault es) ending
    (EndsByTest (is_available list c host) ending (LacksService list c host ending))

since_1_1 : (list : NetList) (c : Command) (es : List Entry) (host : Host) (ending : Ending)
    → is_before_1_1 list.version ≡ false → AnswersStatus list c es host ending → EndsStatus list c es host ending
since_1_1 list c es host ending version ends =
    subst (λ b.
    MatchBool b ((es ≡ []) × (ending ≡ Refused (causes.TooOld list.version)))
    (AnswersStatus list c es host ending))
    (sym version) ends

status-ends : (list : NetList) (c : Command) (es : List Entry) (host : Host) (ending : Ending)
    → is_before_1_1 list.version ≡ false → has_fault es ≡ false → EndsAsked host (status_questions list c) ending
    → EndsStatus list c es host ending
status-ends list c es host ending version no_fault ends =
    let tested : EndsByTest (is_available list c host) ending (LacksService list c host ending) =
    by-asked host (status_questions list c) IsUnavailable (is_available list c host) ending (granted-status list c host)
    (λ q d.
    let of_service : IsServiceQuestion q =
    each-at IsServiceQuestion d.past q d.later
    (subst (AllByRecursion IsServiceQuestion) d.are (service-questions list c)) in
    of_service.1)
    ends in
    since_1_1 list c es host ending version
    (subst
    (λ b. EndsByFault es b ending (EndsByTest (is_available list c host) ending (LacksService list c host ending)))
    (sym no_fault) tested)

status-asked : (list : NetList) (c : Command) (es : List Entry) (host : Host) (st : State)
    → is_before_1_1 list.version ≡ false → has_fault es ≡ false → IsAsking host (status_questions list c) st
    → StatusAt list c es st host
status-asked list c es host (Asking q qs) version no_fault a =
    record { version = version; no_fault = no_fault; asked = a }
status-asked list c es host (Over ending given) version no_fault a =
    (a.0, status-ends list c es host ending version no_fault a.1)
status-asked list c es host _ version no_fault a = absurd a

status-fault : (list : NetList) (c : Command) (es : List Entry) (host : Host) (number : ℕ)
    → is_before_1_1 list.version ≡ false → has_fault es ≡ true → number ≡ length es
    → EndsStatus list c es host (Refused (causes.Fault number))
status-fault list c es host number version fault is =
    let ending = Refused (causes.Fault number) in
    since_1_1 list c es host ending version
    (subst
    (λ b. EndsByFault es b ending (EndsByTest (is_available list c host) ending (LacksService list c host ending)))
    (sym fault) (ap (λ k. Refused (causes.Fault k)) is))

status-too_old : (list : NetList) (c : Command) (host : Host) → is_before_1_1 list.version ≡ true
    → EndsStatus list c [] host (too_old list.version)
status-too_old list c host old =
    let none : List Entry = [] in
    subst (λ b.
    MatchBool b ((none ≡ []) × (too_old list.version ≡ too_old list.version))
    (AnswersStatus list c none host (too_old list.version)))
    (sym old) (refl, refl)

status-old : (list : NetList) (c : Command) (host : Host)
    → StatusAt list c [] (unless_ended (old_ending list.version) (asking (status_questions list c))) host
status-old list c host =
    old_ending-cases list.version
    (λ early. StatusAt list c [] (unless_ended early (asking (status_questions list c))) host)
    (λ old. (refl, status-too_old list c host old))
    (λ new. status-asked list c [] host (asking (status_questions list c)) new refl
    (asked-all host (status_questions list c) (status_questions list c)
    (asked-none host (status_questions list c))))

status-start_of : (list : NetList) (c : Command) (host : Host) (v : Verb) → v ≡ verbs.Status
    → StatusAt list c [] (start_of list v c) host
status-start_of list c host verbs.Status is = status-old list c host
status-start_of list c host _ is = cc

abbrev AsksStatus : HostFact
AsksStatus list c es st host = c.verb ≡ verbs.Status → StatusAt list c es st host

status-start : StartsOn AsksStatus
status-start list c host = λ verb. status-start_of list c host c.verb verb

-- one reply, in the same host
status-reply : (list : NetList) (c : Command) (es : List Entry) (e : Entry) (q : Question) (qs : List Question)
    (host : Host) (faulty : Bool)
    → e.reply ≡ reply_to host q.call faulty → HasStatus list c es host (q ∷ qs)
    → StatusAt list c (es ++ e ∷ []) (at_question (length es + 1) q qs e.reply) host
status-reply list c es e q qs host true is a =
    subst (λ r. StatusAt list c (es ++ e ∷ []) (at_question (length es + 1) q qs r) host) (sym is) (
      refl,
      status-fault list c (es ++ e ∷ []) host (length es + 1) a.version (fault-last es e (ap is_fault is))
          (sym (length_push es e)),
    )
status-reply list c es e q qs host false is a =
    let d = a.asked in
    let of_service : IsServiceQuestion q =
    each-at IsServiceQuestion d.past q qs
    (subst (AllByRecursion IsServiceQuestion) d.are (service-questions list c)) in
    let no_fault : has_fault (es ++ e ∷ []) ≡ false =
    no_fault-more es e a.no_fault (ap is_fault is ∙ (IsReplyOf-apply host q.call).no_fault) in
    subst (λ r. StatusAt list c (es ++ e ∷ []) (at_question (length es + 1) q qs r) host) (sym is)
    (status-asked list c (es ++ e ∷ []) host (at_question (length es + 1) q qs (apply host q.call).1) a.version no_fault
    (asked-reply host (status_questions list c) (length es + 1) q qs of_service.0 d))

status-own : (list : NetList) (c : Command) (es : List Entry) (e : Entry) (st : State) (host : Host) (faulty : Bool)
    → e.reply ≡ reply_to host e.call faulty → turn c st ≡ Calls e.call → StatusAt list c es st host
    → StatusAt list c (es ++ e ∷ []) (advance list c (length es + 1) st e.reply) host
unfolding turn advance
status-own list c es e (Asking q qs) host faulty is turn_is a =
    status-reply list c es e q qs host faulty
    (is ∙ (let same : e.call ≡ q.call = cc in ap (λ call. reply_to host call faulty) same)) a
status-own list c es e (Over ending given) host faulty is turn_is a = cc
status-own list c es e _ host faulty is turn_is a = absurd a

status-step : IsHostFact KeepsAsked AsksStatus
status-step w n c list call faulty old on keeps was = λ verb.
    let e = entry_of (host_of w) n call faulty in
    let es = own_entries n w.history in
    let st = advance list c.command (length es + 1) _ e.reply in
    let here : StatusAt list c.command es _ (host_of w) =
    subst (StatusAt list c.command es _) (sym (keeps.alone (ap is_exclusive_verb verb))) (was verb) in
    subst (StatusAt list c.command (es ++ e ∷ []) st)
    (sym (question-entered w n c list call faulty on (ap only_asks verb)))
    (status-own list c.command es e _ (host_of w) faulty refl (own-state w n c list call faulty on).turn_is here)

-- ---- the answer

pub was_available : WasAvailable
was_available w legal n c a at verb is = λ list listed whole.
    let es = own_entries n w.history in
    let host = host_at_end w n in
    let last = each-run KeepsAsked AsksStatus asked-kept status-start status-step w legal n c list at listed verb in
    answered-by list c.command _ a (λ st. StatusAt list c.command es st host) (EndsStatus list c.command es host)
    (λ ending given ends. ends) (λ work faults none. none)
    (over-by w legal n c list a at listed is whole) last
