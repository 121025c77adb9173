-- What the states of a run say of the calls that are left to it, and where a run makes no attachment.
use Rattle.pod_laws.proofs.Names.{◌≡◌, ℕ, Bool, true, false, List, [], ◌∷◌, ◌++◌, refl, and_parts, list_all}
use Rattle.pod_laws.proofs.Names.{if◌then◌else◌, is_of_kinds, by-either, by-unless, by-unless_early, by-unless_old}
use Rattle.pod_laws.proofs.Names.{Addr, RangeSet, NetList, Command, Verb, apply, Call, HasObj, CacheGet, OwnersOf}
use Rattle.pod_laws.proofs.Names.{PoolFree, Reply, Gone, Host, att_of, del_refusal, add_refusal, Ending, Added, Yes}
use Rattle.pod_laws.proofs.Names.{Skipped, Versions, Refused, Question, check_questions, status_questions, State}
use Rattle.pod_laws.proofs.Names.{AtBegin, BeforeLeases, Leasing, AfterLeases, ReadingCache, Deleting, FindingEntry}
use Rattle.pod_laws.proofs.Names.{Asking, Changing, Collecting, Over, before_of, back_of, after_leases, leasing}
use Rattle.pod_laws.proofs.Names.{before_leases, asking, gc_of, changed, faulted, swept, advance, start_of, state_after}
use Rattle.pod_laws.proofs.Names.{Work, start_work, sets_of, kinds_of}
use Rattle.pod_workers.proofs.Hosts.{AddCalls.{of_kinds-before, of_kinds-back}, Asked.{AreQuestionsOf, IsQuestionOf}}
use Rattle.pod_workers.proofs.Hosts.{Asked.{check-asks, status-asks}, Replies.{StaysTrue, by-entry, by-question}}
use Rattle.pod_workers.proofs.Hosts.Replies.{true-after}
use Rattle.pod_file.specs.declared.command.Verb.TheVariants as verbs
use Rattle.cni_errors.specs.declared.answer.Skip.TheVariants as skips

-- ---- questions

-- the call only asks
abbrev pub is_question : Call → Bool
is_question (HasObj probe) = true
is_question (CacheGet att) = true
is_question (OwnersOf network kind) = true
is_question (PoolFree network set) = true
is_question _ = false

pub question-leaves : (host : Host) (call : Call) → is_question call ≡ true → (apply host call).0 ≡ host
question-leaves host (HasObj probe) is = refl
question-leaves host (CacheGet att) is = refl
question-leaves host (OwnersOf network kind) is = refl
question-leaves host (PoolFree network set) is = refl
question-leaves host _ is = cc

-- each question of a CHECK or a STATUS does
pub asked-is_question : (list : NetList) (call : Call) → IsQuestionOf list call → is_question call ≡ true
asked-is_question list (HasObj probe) h = refl
asked-is_question list (PoolFree network set) h = refl
asked-is_question list _ h = absurd h

-- ---- what is left to a run is of its list's kinds, or asks, or collects for a GC

abbrev pub LeftFit : NetList → Command → State → Type 0
LeftFit list c AtBegin = Unit {0}
LeftFit list c (BeforeLeases next left) = list_all (is_of_kinds (kinds_of list)) (next ∷ left) ≡ true
LeftFit list c (Leasing next left given) = Unit {0}
LeftFit list c (AfterLeases next left given) = list_all (is_of_kinds (kinds_of list)) (next ∷ left) ≡ true
LeftFit list c (ReadingCache ending) = Unit {0}
LeftFit list c (Deleting next left ending) = Unit {0}
LeftFit list c FindingEntry = Unit {0}
LeftFit list c (Asking next left) = AreQuestionsOf list (next ∷ left)
LeftFit list c (Changing change) = ⊥
LeftFit list c (Collecting work faults) = c.verb ≡ verbs.Gc
LeftFit list c (Over ending given) = Unit {0}

fit-after_leases : (list : NetList) (c : Command) (left : List Call) (given : List Addr)
    → list_all (is_of_kinds (kinds_of list)) left ≡ true → LeftFit list c (after_leases left given)
fit-after_leases list c [] given h = tt
fit-after_leases list c (x ∷ xs) given h = h

fit-leasing : (list : NetList) (c : Command) (left : List RangeSet) (given : List Addr)
    → LeftFit list c (leasing list c left given)
fit-leasing list c [] given =
    fit-after_leases list c (back_of list c given) given (of_kinds-back list (att_of c) c.netns _ given)
fit-leasing list c (s ∷ ss) given = tt

fit-before_leases : (list : NetList) (c : Command) (left : List Call)
    → list_all (is_of_kinds (kinds_of list)) left ≡ true → LeftFit list c (before_leases list c left)
fit-before_leases list c [] h = fit-leasing list c (sets_of list) []
fit-before_leases list c (x ∷ xs) h = h

fit-asking : (list : NetList) (c : Command) (qs : List Question) → AreQuestionsOf list qs → LeftFit list c (asking qs)
fit-asking list c [] h = tt
fit-asking list c (q ∷ qs) h = h

fit-stays : (list : NetList) (c : Command) → StaysTrue list c (LeftFit list c)
fit-stays list c =
    let fits = is_of_kinds (kinds_of list) in
    record {
      over = λ ending given. tt;
      caches = λ ending. tt;
      deletes = λ kind left ending. tt;
      begun = λ h. fit-before_leases list c (before_of list c) (of_kinds-before list (att_of c) c.netns);
      before = λ next left h. fit-before_leases list c left (and_parts (fits next) (list_all fits left) h).1;
      leased = λ next left given addr h. fit-leasing list c left (given ++ addr ∷ []);
      after = λ next left given h. fit-after_leases list c left given (and_parts (fits next) (list_all fits left) h).1;
      finds = λ cached. fit-asking list c (check_questions list c cached) (check-asks list c cached);
      asks = λ next left h. fit-asking list c left h.1;
      collects = λ work next faults more h. h;
    }

pub left-fit : (list : NetList) (c : Command) (rs : List Reply) → LeftFit list c (state_after list c rs)
left-fit list c rs =
    true-after (LeftFit list c) list c rs (fit-stays list c)
    (record {
      begins = λ fields. tt;
      finding = tt;
      collecting = λ gc. gc;
      status = fit-asking list c (status_questions list c) (status-asks list c);
    })

-- ---- runs that make no attachment

abbrev pub IsNoResult : Ending → Type 0
IsNoResult Added = ⊥
IsNoResult Yes = Unit {0}
IsNoResult (Skipped skip) = Unit {0}
IsNoResult Versions = Unit {0}
IsNoResult (Refused cause) = Unit {0}

-- a state of a run that neither makes an attachment nor deletes one
abbrev pub IsAside : State → Type 0
IsAside AtBegin = ⊥
IsAside (BeforeLeases next left) = ⊥
IsAside (Leasing next left given) = ⊥
IsAside (AfterLeases next left given) = ⊥
IsAside (ReadingCache ending) = ⊥
IsAside (Deleting next left ending) = ⊥
IsAside FindingEntry = Unit {0}
IsAside (Asking next left) = Unit {0}
IsAside (Changing change) = Unit {0}
IsAside (Collecting work faults) = Unit {0}
IsAside (Over ending given) = IsNoResult ending

-- what holds of each of them, said by what it is of each kind
pub by-aside : (P : State → Type 0) → P FindingEntry → ((next : Question) (left : List Question) → P (Asking next left))
    → ((change : Call) → P (Changing change)) → ((work : Work) (faults : List ℕ) → P (Collecting work faults))
    → ((ending : Ending) (given : List Addr) → IsNoResult ending → P (Over ending given)) → (st : State) → IsAside st
    → P st
by-aside P entry asking change work over AtBegin h = absurd h
by-aside P entry asking change work over (BeforeLeases next left) h = absurd h
by-aside P entry asking change work over (Leasing next left given) h = absurd h
by-aside P entry asking change work over (AfterLeases next left given) h = absurd h
by-aside P entry asking change work over (ReadingCache ending) h = absurd h
by-aside P entry asking change work over (Deleting next left ending) h = absurd h
by-aside P entry asking change work over FindingEntry h = entry
by-aside P entry asking change work over (Asking next left) h = asking next left
by-aside P entry asking change work over (Changing call) h = change call
by-aside P entry asking change work over (Collecting more faults) h = work more faults
by-aside P entry asking change work over (Over ending given) h = over ending given h

aside-asking : (qs : List Question) → IsAside (asking qs)
aside-asking [] = tt
aside-asking (q ∷ qs) = tt

changed-gone : (number : ℕ) (b : Bool) → IsNoResult (changed number (Gone b))
changed-gone number true = tt
changed-gone number false = tt

changed-no_result : (number : ℕ) (r : Reply) → IsNoResult (changed number r)
changed-no_result number (Gone b) = changed-gone number b
changed-no_result number _ = tt

pub aside-advance : (list : NetList) (c : Command) (number : ℕ) (s : State) (r : Reply) → IsAside s
    → IsAside (advance list c number s r)
unfolding advance
aside-advance list c number AtBegin r h = absurd h
aside-advance list c number (BeforeLeases next left) r h = absurd h
aside-advance list c number (Leasing next left given) r h = absurd h
aside-advance list c number (AfterLeases next left given) r h = absurd h
aside-advance list c number (ReadingCache ending) r h = absurd h
aside-advance list c number (Deleting next left ending) r h = absurd h
aside-advance list c number FindingEntry r h =
    by-entry IsAside list c number r (λ cause. tt) (λ cached. aside-asking (check_questions list c cached))
aside-advance list c number (Asking next left) r h =
    by-question IsAside number next left r (λ cause. tt) (aside-asking left)
aside-advance list c number (Changing change) r h = changed-no_result number r
aside-advance list c number (Collecting work faults) r h = tt
aside-advance list c number (Over ending given) r h = h

-- a verb that neither makes an attachment nor deletes one
abbrev pub IsOtherVerb : Verb → Type 0
IsOtherVerb verbs.Add = ⊥
IsOtherVerb verbs.Check = Unit {0}
IsOtherVerb verbs.Del = ⊥
IsOtherVerb verbs.Gc = Unit {0}
IsOtherVerb verbs.Status = Unit {0}
IsOtherVerb verbs.Version = Unit {0}
IsOtherVerb verbs.NsAdd = Unit {0}
IsOtherVerb verbs.NsDel = Unit {0}
IsOtherVerb verbs.Drop = Unit {0}
IsOtherVerb verbs.Flush = Unit {0}

-- no verb does both
pub not-both : (c : Command) → c.verb ≡ verbs.Add → c.verb ≡ verbs.Del → ⊥
not-both c a d = cc

pub aside-start : (list : NetList) (c : Command) (v : Verb) → IsOtherVerb v → IsAside (start_of list v c)
aside-start list c verbs.Add h = absurd h
aside-start list c verbs.Del h = absurd h
aside-start list c verbs.Check h =
    by-unless IsAside (del_refusal c)
    (if list.disable_check then Over (Skipped skips.Check) [] else FindingEntry) (λ cause. tt)
    (λ none. by-either IsAside list.disable_check (Over (Skipped skips.Check) []) FindingEntry tt tt)
aside-start list c verbs.Gc h =
    by-unless_early IsAside list.version list.disable_gc (Collecting (start_work (gc_of list c)) []) (λ cause. tt) tt tt
aside-start list c verbs.Status h =
    by-unless_old IsAside list.version (asking (status_questions list c)) (λ cause. tt)
    (aside-asking (status_questions list c))
aside-start list c verbs.Version h = tt
aside-start list c verbs.NsAdd h = tt
aside-start list c verbs.NsDel h = tt
aside-start list c verbs.Drop h = tt
aside-start list c verbs.Flush h = tt

-- what holds of each state aside, and where an ADD or a DEL begins, holds at the start
pub by-start : (P : State → Type 0) (list : NetList) (c : Command) (v : Verb) → ((s : State) → IsAside s → P s)
    → P AtBegin → P (ReadingCache Yes) → P (start_of list v c)
by-start P list c verbs.Add aside begin cache =
    by-unless P (add_refusal c) AtBegin (λ cause. aside (Over (Refused cause) []) tt) (λ none. begin)
by-start P list c verbs.Del aside begin cache =
    by-unless P (del_refusal c) (ReadingCache Yes) (λ cause. aside (Over (Refused cause) []) tt) (λ none. cache)
by-start P list c v aside begin cache = aside (start_of list v c) (aside-start list c v tt)

pub faulted-no_result : (number : ℕ) (ending : Ending) → IsNoResult (faulted number ending)
faulted-no_result number (Refused cause) = tt
faulted-no_result number _ = tt

pub swept-no_result : (faults : List ℕ) → IsNoResult (swept faults)
swept-no_result [] = tt
swept-no_result (n ∷ ns) = tt
