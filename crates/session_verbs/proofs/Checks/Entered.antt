-- A check, from its cached result to its questions.
use Rattle.session_verbs.proofs.Names.{◌≡◌, ℕ, ◌+◌, List, [], ◌∷◌, ◌++◌, map, Option, Some, None, Result, Ok, refl, sym}
use Rattle.session_verbs.proofs.Names.{ap, subst, ◌∙◌, IsErr, Addr, NoMemory, att_of, lease_question, Question}
use Rattle.session_verbs.proofs.Names.{FindingEntry, asking, finish_of, next_call, refused, lease_of, Call, CacheGet}
use Rattle.session_verbs.proofs.Names.{Reply, Entry, Att, Command, Made}
use Rattle.kernel_types.specs.declared.call.Call.TheVariants.{VethAdd, MacvlanAdd, AddrAdd, RouteAdd, RuleAppend}
use Rattle.kernel_types.specs.declared.call.Call.TheVariants.{SettingSet}
use Rattle.cni_errors.specs.declared.answer.Cause.TheVariants as causes
use Rattle.session_verbs.specs.{Asking.{AreProbes, end_by_entry}, Journal.{EndsAs, JournalView, Went, after_entries}}
use Rattle.session_verbs.specs.{Journal.made_next, declared.part.PartEnd.PartEnd}
use Rattle.session_laws.specs.{Course.{Course, advance, at_entry}, Tasks.{call_questions, next_rule, questions_by}}
use Rattle.session_laws.specs.{Tasks.row_questions, declared.row.Row.Row}
use Rattle.session_verbs.proofs.{Checks.Asking.{failed-ends, made-more}, Going.{ends-then, went-one}}

-- ---- all questions may be asked

probes-append : (qs rs : List Question) → AreProbes qs → AreProbes rs → AreProbes (qs ++ rs)
probes-append [] rs h g = g
probes-append (q ∷ qs) rs h g = (h.0, probes-append qs rs h.1 g)

probes-call : (number : ℕ) (call : Call) → AreProbes (questions_by number call)
probes-call number (VethAdd host_end inner_end) = ((_, refl), ((_, refl), tt))
probes-call number (MacvlanAdd link) = ((_, refl), tt)
probes-call number (AddrAdd obj) = ((_, refl), tt)
probes-call number (RouteAdd obj) = ((_, refl), tt)
probes-call number (RuleAppend r) = ((_, refl), tt)
probes-call number (SettingSet setting) = ((_, refl), tt)
probes-call number _ = tt

probes-calls : (number : ℕ) (calls : List Call) → AreProbes (call_questions number calls)
probes-calls number [] = tt
probes-calls number (call ∷ calls) =
    probes-append (questions_by number call) (call_questions (next_rule number call) calls) (probes-call number call)
    (probes-calls (next_rule number call) calls)

probes-leases : (att : Att) (leased : List Addr) → AreProbes (map (λ addr. lease_question (lease_of att addr)) leased)
probes-leases att [] = tt
probes-leases att (addr ∷ leased) = ((_, refl), probes-leases att leased)

pub probes-row : (row : Option Row) (leased : List Addr) → AreProbes (row_questions row leased)
probes-row None leased = tt
probes-row (Some row) leased =
    probes-append (call_questions 1 row.calls) (map (λ addr. lease_question (lease_of row.att addr)) leased)
    (probes-calls 1 row.calls) (probes-leases row.att leased)

-- ---- the cached result

-- how a check goes on after the reply about it: to its questions, or to its end
abbrev pub EnteredAs : Course → Command → JournalView → JournalView → Option PartEnd → Type 0
EnteredAs co c a d None = (es : List Made) × Went co c es a d FindingEntry (asking co.questions)
EnteredAs co c a d (Some end) = EndsAs co c a d FindingEntry (Ok end)

entry-went : (co : Course) (c : Command) (att : Att) (call : Call) (a d : JournalView) → call ≡ CacheGet att
    → att_of c ≡ att
    → d ≡ after_entries a (made_next a call ∷ [])
    → Went co c (made_next a call ∷ []) a d FindingEntry (at_entry co (a.made + 1) (made_next a call).reply)
unfolding next_call advance
entry-went co c att call a d is of made =
    went-one co c call a d FindingEntry (ap (λ (x : Att). Some (CacheGet x)) of ∙ ap Some (sym is)) made

entry-ends : (co : Course) (c : Command) (a d : JournalView) (es : List Made) (number : ℕ) (r : Reply)
    → Went co c es a d FindingEntry (at_entry co number r) → EnteredAs co c a d (end_by_entry (Some r) number)
unfolding finish_of
entry-ends co c a d es number (Entry (Some cached)) w = (es, w)
entry-ends co c a d es number (Entry None) w = (es, refused causes.Unknown, w, refl)
entry-ends co c a d es number _ w = (es, refused (causes.Fault number), w, refl)

pub entry-asked : (co : Course) (c : Command) (att : Att) (call : Call) (a d : JournalView) (o : Option Reply)
    (number : ℕ) (end : Option PartEnd)
    → call ≡ CacheGet att → att_of c ≡ att → d ≡ after_entries a (made_next a call ∷ [])
    → o ≡ Some (made_next a call).reply → number ≡ d.made → end ≡ end_by_entry o number → EnteredAs co c a d end
entry-asked co c att call a d o number end is of made by count ends =
    let all : end ≡ end_by_entry (Some (made_next a call).reply) (a.made + 1) =
    ends
    ∙ ap (λ p. end_by_entry p number) by
    ∙ ap (end_by_entry (Some (made_next a call).reply)) (count ∙ made-more a d call made) in
    subst (EnteredAs co c a d) (sym all)
    (entry-ends co c a d (made_next a call ∷ []) (a.made + 1) (made_next a call).reply
    (entry-went co c att call a d is of made))

-- the end of the questions is that of the check
pub entry-then : (co : Course) (c : Command) (a b d : JournalView) (qs : List Question) (end : Option PartEnd)
    (r : Result PartEnd NoMemory)
    → end ≡ None → EnteredAs co c a b end → co.questions ≡ qs → EndsAs co c b d (asking qs) r
    → EndsAs co c a d FindingEntry r
entry-then co c a b d qs end r none entered are ends =
    let went = subst (EnteredAs co c a b) none entered in
    ends-then d r went.1 (subst (λ (x : List Question). EndsAs co c b d (asking x) r) (sym are) ends)

-- memory for the questions is refused
pub entry-failed : (co : Course) (c : Command) (a d : JournalView) (end : Option PartEnd) (r : Result PartEnd NoMemory)
    → end ≡ None → EnteredAs co c a d end → IsErr r → EndsAs co c a d FindingEntry r
entry-failed co c a d end r none entered err =
    let went = subst (EnteredAs co c a d) none entered in
    failed-ends co c went.0 a d FindingEntry (asking co.questions) r err went.1
