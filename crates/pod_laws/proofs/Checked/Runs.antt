-- A CHECK asks for its cached result and then for each object, and its answer is what the host at its last entry holds.
use Rattle.pod_laws.proofs.Names.{◌≡◌, ℕ, ◌+◌, Bool, true, false, List, [], ◌∷◌, ◌++◌, length, Option, Some, None, refl}
use Rattle.pod_laws.proofs.Names.{sym, ◌∙◌, ap, subst, length_push, AllByRecursion, if◌then◌else◌, Cached, NetList}
use Rattle.pod_laws.proofs.Names.{Command, Verb, apply, is_fault, cached_in, CacheGet, Fault, Host, IsReplyOf-apply}
use Rattle.pod_laws.proofs.Names.{att_of, del_refusal, Cause, Ending, Skipped, Refused, Question, check_questions}
use Rattle.pod_laws.proofs.Names.{State, FindingEntry, Asking, Over, Calls, advance, asking, at_entry, at_question}
use Rattle.pod_laws.proofs.Names.{checking, start_of, turn, unless_refused, entry_of, host_of, reply_to, Entry, each-at}
use Rattle.pod_file.specs.declared.command.Verb.TheVariants as verbs
use Rattle.cni_errors.specs.declared.answer.Cause.TheVariants as causes
use Rattle.cni_errors.specs.declared.answer.Skip.TheVariants as skips
use Rattle.pod_laws.specs.{Answers.EndsByFault, Checked.{EndsByEntry, EndsByList, EndsCheck, IsMissing, WasChecked}}
use Rattle.pod_laws.specs.{Checked.holds_cached, Granted.only_asks, Moments.{has_fault, host_at_end, own_entries}}
use Rattle.pod_workers.proofs.Lists.Each.{each-prefix}
use Rattle.pod_laws.proofs.Checked.Questions.{IsSteadyQuestion, cached-stays, granted-check, granted-stay}
use Rattle.pod_laws.proofs.{Checked.Questions.steady-questions, Given.CutOff.{over-by, answered-by}}
use Rattle.pod_laws.proofs.Histories.{RunFacts.{HostFact, IsHostFact, StartsOn, each-run}, Runs.own-state}
use Rattle.pod_laws.proofs.Questions.Asking.{EndsAsked, HasAsked, IsAsking, asked-all, asked-none, asked-reply}
use Rattle.pod_laws.proofs.Questions.{Asking.{by-asked, no_fault-more, fault-last}, Entries.question-entered}
use Rattle.pod_laws.proofs.Questions.SteadyHosts.{KeepsAsked, asked-kept}

-- ---- how it ends

-- its fields are good, and its list has the verb
pub record MayCheck (list : NetList) (c : Command) : Type 0 where
  pub fields : del_refusal c ≡ None
  pub enabled : list.disable_check ≡ false

by-fields : (list : NetList) (c : Command) (es : List Entry) (host : Host) (ending : Ending) → MayCheck list c
    → EndsByFault es (has_fault es) ending (EndsByEntry list c host (cached_in host (att_of c)) ending)
    → EndsCheck list c es host (del_refusal c) ending
by-fields list c es host ending may ends =
    subst (λ o. EndsCheck list c es host o ending) (sym may.fields)
    (subst (λ b. EndsByList list c es host b ending) (sym may.enabled) ends)

by-fault : (list : NetList) (c : Command) (es : List Entry) (host : Host) (number : ℕ) → MayCheck list c
    → has_fault es ≡ true → number ≡ length es
    → EndsCheck list c es host (del_refusal c) (Refused (causes.Fault number))
by-fault list c es host number may fault is =
    by-fields list c es host (Refused (causes.Fault number)) may
    (subst (λ b.
    EndsByFault es b (Refused (causes.Fault number))
    (EndsByEntry list c host (cached_in host (att_of c)) (Refused (causes.Fault number))))
    (sym fault) (ap (λ k. Refused (causes.Fault k)) is))

by-entry : (list : NetList) (c : Command) (es : List Entry) (host : Host) (ending : Ending) (o : Option Cached)
    → MayCheck list c → has_fault es ≡ false → cached_in host (att_of c) ≡ o → EndsByEntry list c host o ending
    → EndsCheck list c es host (del_refusal c) ending
by-entry list c es host ending o may no_fault is ends =
    by-fields list c es host ending may
    (subst (λ b. EndsByFault es b ending (EndsByEntry list c host (cached_in host (att_of c)) ending)) (sym no_fault)
    (subst (λ p. EndsByEntry list c host p ending) (sym is) ends))

by-asking : (list : NetList) (c : Command) (cached : Cached) (host : Host) (ending : Ending)
    → EndsAsked host (check_questions list c cached) ending → EndsByEntry list c host (Some cached) ending
by-asking list c cached host ending ends =
    let questions = check_questions list c cached in
    by-asked host questions IsMissing (holds_cached list c cached host) ending (granted-check list c cached host)
    (λ q d.
    let steady : IsSteadyQuestion c q =
    each-at (IsSteadyQuestion c) d.past q d.later
    (subst (AllByRecursion (IsSteadyQuestion c)) d.are (steady-questions list c cached)) in
    (steady.what, steady.lack))
    ends

-- ---- every run

-- before its cached result is read
pub record HasBegun (list : NetList) (c : Command) (es : List Entry) : Type 0 where
  pub may : MayCheck list c
  pub no_entry : es ≡ []

-- while it asks, the attachment has its cached result, and all that was asked is granted
pub record HasFound (list : NetList) (c : Command) (es : List Entry) (host : Host) (left : List Question) : Type 0 where
  pub may : MayCheck list c
  pub no_fault : has_fault es ≡ false
  pub cached : Cached
  pub found : cached_in host (att_of c) ≡ Some cached
  pub asked : HasAsked host (check_questions list c cached) left

abbrev CheckAt : NetList → Command → List Entry → State → Host → Type 0
CheckAt list c es FindingEntry host = HasBegun list c es
CheckAt list c es (Asking next left) host = HasFound list c es host (next ∷ left)
CheckAt list c es (Over ending given) host = (given ≡ []) × EndsCheck list c es host (del_refusal c) ending
CheckAt list c es _ host = ⊥

check-asked : (list : NetList) (c : Command) (es : List Entry) (host : Host) (cached : Cached) (st : State)
    → MayCheck list c → has_fault es ≡ false → cached_in host (att_of c) ≡ Some cached
    → IsAsking host (check_questions list c cached) st
    → CheckAt list c es st host
check-asked list c es host cached (Asking q qs) may no_fault found a =
    record { may = may; no_fault = no_fault; cached = cached; found = found; asked = a }
check-asked list c es host cached (Over ending given) may no_fault found a =
    (a.0, by-entry list c es host ending (Some cached) may no_fault found (by-asking list c cached host ending a.1))
check-asked list c es host cached _ may no_fault found a = absurd a

check-enabled : (list : NetList) (c : Command) (host : Host) (b : Bool) → del_refusal c ≡ None → list.disable_check ≡ b
    → CheckAt list c [] (if b then Over (Skipped skips.Check) [] else FindingEntry) host
check-enabled list c host true fields is = (
  refl,
  subst (λ o. EndsCheck list c [] host o (Skipped skips.Check)) (sym fields)
      (subst (λ b. EndsByList list c [] host b (Skipped skips.Check)) (sym is) (refl, refl)),
)
check-enabled list c host false fields is = record { may = record { fields = fields; enabled = is }; no_entry = refl }

check-unless : (list : NetList) (c : Command) (host : Host) (o : Option Cause) → del_refusal c ≡ o
    → CheckAt list c []
    (unless_refused o (if list.disable_check then Over (Skipped skips.Check) [] else FindingEntry)) host
check-unless list c host None is = check-enabled list c host list.disable_check is refl
check-unless list c host (Some cause) is =
    (refl, subst (λ o. EndsCheck list c [] host o (Refused cause)) (sym is) (refl, refl))

check-start_of : (list : NetList) (c : Command) (host : Host) (v : Verb) → v ≡ verbs.Check
    → CheckAt list c [] (start_of list v c) host
check-start_of list c host verbs.Check is = check-unless list c host (del_refusal c) refl
check-start_of list c host _ is = cc

abbrev AsksCheck : HostFact
AsksCheck list c es st host = c.verb ≡ verbs.Check → CheckAt list c es st host

check-start : StartsOn AsksCheck
check-start list c host = λ verb. check-start_of list c host c.verb verb

-- ---- one entry, in a host that it leaves

check-fault : (list : NetList) (c : Command) (es : List Entry) (e : Entry) (host : Host) → MayCheck list c
    → e.reply ≡ Fault → EndsCheck list c (es ++ e ∷ []) host (del_refusal c) (Refused (causes.Fault (length es + 1)))
check-fault list c es e host may is =
    by-fault list c (es ++ e ∷ []) host (length es + 1) may (fault-last es e (ap is_fault is)) (sym (length_push es e))

-- the cached result is there, or isn't
check-found : (list : NetList) (c : Command) (es : List Entry) (host : Host) (o : Option Cached) → MayCheck list c
    → has_fault es ≡ false → cached_in host (att_of c) ≡ o → CheckAt list c es (checking list c o) host
check-found list c es host None may no_fault is =
    (refl, by-entry list c es host (Refused causes.Unknown) None may no_fault is refl)
check-found list c es host (Some cached) may no_fault is =
    check-asked list c es host cached (asking (check_questions list c cached)) may no_fault is
    (asked-all host (check_questions list c cached) (check_questions list c cached)
    (asked-none host (check_questions list c cached)))

check-entry : (list : NetList) (c : Command) (es : List Entry) (e : Entry) (host : Host) (faulty : Bool)
    → e.reply ≡ reply_to host (CacheGet (att_of c)) faulty → HasBegun list c es
    → CheckAt list c (es ++ e ∷ []) (at_entry list c (length es + 1) e.reply) host
check-entry list c es e host true is b =
    subst (λ r. CheckAt list c (es ++ e ∷ []) (at_entry list c (length es + 1) r) host) (sym is)
    (refl, check-fault list c es e host b.may is)
check-entry list c es e host false is b =
    let no_fault : has_fault (es ++ e ∷ []) ≡ false = no_fault-more es e (ap has_fault b.no_entry) (ap is_fault is) in
    subst (λ r. CheckAt list c (es ++ e ∷ []) (at_entry list c (length es + 1) r) host) (sym is)
    (check-found list c (es ++ e ∷ []) host (cached_in host (att_of c)) b.may no_fault refl)

check-reply : (list : NetList) (c : Command) (es : List Entry) (e : Entry) (q : Question) (qs : List Question)
    (host : Host) (faulty : Bool)
    → e.reply ≡ reply_to host q.call faulty → HasFound list c es host (q ∷ qs)
    → CheckAt list c (es ++ e ∷ []) (at_question (length es + 1) q qs e.reply) host
check-reply list c es e q qs host true is a =
    subst (λ r. CheckAt list c (es ++ e ∷ []) (at_question (length es + 1) q qs r) host) (sym is)
    (refl, check-fault list c es e host a.may is)
check-reply list c es e q qs host false is a =
    let d = a.asked in
    let all = check_questions list c a.cached in
    let steady : IsSteadyQuestion c q =
    each-at (IsSteadyQuestion c) d.past q qs
    (subst (AllByRecursion (IsSteadyQuestion c)) d.are (steady-questions list c a.cached)) in
    let no_fault : has_fault (es ++ e ∷ []) ≡ false =
    no_fault-more es e a.no_fault (ap is_fault is ∙ (IsReplyOf-apply host q.call).no_fault) in
    subst (λ r. CheckAt list c (es ++ e ∷ []) (at_question (length es + 1) q qs r) host) (sym is)
    (check-asked list c (es ++ e ∷ []) host a.cached (at_question (length es + 1) q qs (apply host q.call).1) a.may
    no_fault a.found (asked-reply host all (length es + 1) q qs steady.told d))

-- what was found and granted stays so
check-stays : (list : NetList) (c : Command) (es : List Entry) (old new : Host) (left : List Question)
    → KeepsAsked c old new → HasFound list c es old left → HasFound list c es new left
check-stays list c es old new left keeps a =
    let d = a.asked in
    let steady =
    each-prefix (IsSteadyQuestion c) d.past left
    (subst (AllByRecursion (IsSteadyQuestion c)) d.are (steady-questions list c a.cached)) in
    record {
      may = a.may;
      no_fault = a.no_fault;
      cached = a.cached;
      found = cached-stays c old new keeps ∙ a.found;
      asked =
          record { past = d.past; are = d.are; granted = granted-stay c old new d.past keeps steady d.granted };
    }

check-own : (list : NetList) (c : Command) (es : List Entry) (e : Entry) (st : State) (old host : Host) (faulty : Bool)
    → KeepsAsked c old host → e.reply ≡ reply_to host e.call faulty → turn c st ≡ Calls e.call
    → CheckAt list c es st old
    → CheckAt list c (es ++ e ∷ []) (advance list c (length es + 1) st e.reply) host
unfolding turn advance
check-own list c es e FindingEntry old host faulty keeps is turn_is a =
    check-entry list c es e host faulty
    (is ∙ (let same : e.call ≡ CacheGet (att_of c) = cc in ap (λ call. reply_to host call faulty) same)) a
check-own list c es e (Asking q qs) old host faulty keeps is turn_is a =
    check-reply list c es e q qs host faulty
    (is ∙ (let same : e.call ≡ q.call = cc in ap (λ call. reply_to host call faulty) same))
    (check-stays list c es old host (q ∷ qs) keeps a)
check-own list c es e (Over ending given) old host faulty keeps is turn_is a = cc
check-own list c es e _ old host faulty keeps is turn_is a = absurd a

check-step : IsHostFact KeepsAsked AsksCheck
check-step w n c list call faulty old on keeps was = λ verb.
    let e = entry_of (host_of w) n call faulty in
    let es = own_entries n w.history in
    subst (CheckAt list c.command (es ++ e ∷ []) (advance list c.command (length es + 1) _ e.reply))
    (sym (question-entered w n c list call faulty on (ap only_asks verb)))
    (check-own list c.command es e _ old (host_of w) faulty keeps refl
    (own-state w n c list call faulty on).turn_is (was verb))

-- ---- the answer

pub was_checked : WasChecked
was_checked w legal n c a at verb is = λ list listed whole.
    let es = own_entries n w.history in
    let host = host_at_end w n in
    let last = each-run KeepsAsked AsksCheck asked-kept check-start check-step w legal n c list at listed verb in
    answered-by list c.command _ a (λ st. CheckAt list c.command es st host)
    (EndsCheck list c.command es host (del_refusal c.command)) (λ ending given ends. ends)
    (λ work faults none. none)
    (over-by w legal n c list a at listed is whole) last
