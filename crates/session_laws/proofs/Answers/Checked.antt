-- A check only asks, and succeeds exactly where all that it asks for is there.
use Rattle.session_laws.proofs.Names.{◌≡◌, ℕ, ◌+◌, Bool, true, false, List, [], ◌∷◌, map, Option, Some, None, refl, sym}
use Rattle.session_laws.proofs.Names.{◌∙◌, ap, subst, ◌&&◌, and_parts, same_Some, none-some, list_all, list_any}
use Rattle.session_laws.proofs.Names.{MatchBool, by_test, Addr, Cached, is_fault, lease_of, Call, VethAdd, MacvlanAdd}
use Rattle.session_laws.proofs.Names.{AddrAdd, RouteAdd, RuleAppend, SettingSet, HasObj, CacheGet, Reply, Entry, Has}
use Rattle.session_laws.proofs.Names.{Att, Host, Command, att_of, Cause, Ending, Yes, Refused, Question, host_after}
use Rattle.session_laws.proofs.Names.{reply_to, State, FindingEntry, Asking, Over, asking, at_question, finish_of}
use Rattle.session_laws.proofs.Names.{next_call, Made, host_from, host_on, replies}
use Rattle.std.proofs.{Common.is_some, lemmas.Bool.or_parts}
use Rattle.cni_errors.specs.ObjectQuestions.{lease_question}
use Rattle.cni_verbs.specs.Script.{refused}
use Rattle.kernel_types.proofs.ListLemmas.{list_all-append}
use Rattle.kernel_types.specs.Terms.{cached_in}
use Rattle.cni_errors.specs.declared.answer.Cause.TheVariants as causes
use Rattle.session_laws.specs.Course.{Course, IsRunFrom, advance, at_entry, checking, state_from, IsOver}
use Rattle.session_laws.specs.{Holds.holds_by, LawsOfAnswers.{are_questions, is_question, ChecksAreExact}}
use Rattle.session_laws.specs.{LawsOfAnswers.{ChecksLeaveTheHost, RowsAskForObjects}, Tasks.{call_questions, next_rule}}
use Rattle.session_laws.specs.Tasks.{questions_by}
use Rattle.session_laws.proofs.Answers.Ends.{over-tells, refusing-ends}

-- ---- the questions of a row

asks-call : (rule : ℕ) (call : Call) → are_questions (questions_by rule call) ≡ true
asks-call rule (VethAdd host_end inner_end) = refl
asks-call rule (MacvlanAdd link) = refl
asks-call rule (AddrAdd obj) = refl
asks-call rule (RouteAdd obj) = refl
asks-call rule (RuleAppend r) = refl
asks-call rule (SettingSet setting) = refl
asks-call rule _ = refl

asks-calls : (rule : ℕ) (calls : List Call) → are_questions (call_questions rule calls) ≡ true
asks-calls rule [] = refl
asks-calls rule (call ∷ calls) =
    list_all-append (λ (q : Question). is_question q.call) (questions_by rule call)
    (call_questions (next_rule rule call) calls) (asks-call rule call) (asks-calls (next_rule rule call) calls)

asks-leases : (att : Att) (leased : List Addr)
    → are_questions (map (λ addr. lease_question (lease_of att addr)) leased) ≡ true
asks-leases att [] = refl
asks-leases att (addr ∷ leased) = asks-leases att leased

pub row-asks : RowsAskForObjects
row-asks None leased = refl
row-asks (Some row) leased =
    list_all-append (λ (q : Question). is_question q.call) (call_questions 1 row.calls)
    (map (λ addr. lease_question (lease_of row.att addr)) leased) (asks-calls 1 row.calls)
    (asks-leases row.att leased)

-- ---- it leaves the host

question-leaves : (host : Host) (call : Call) (r : Reply) → is_question call ≡ true → host_after host call r ≡ host
question-leaves host (HasObj probe) r is =
    by_test (λ (k : Host). k ≡ host) (is_fault r) host host (λ _. refl) (λ _. refl)
question-leaves host _ r is = cc

look-leaves : (host : Host) (att : Att) (r : Reply) → host_after host (CacheGet att) r ≡ host
look-leaves host att r = by_test (λ (k : Host). k ≡ host) (is_fault r) host host (λ _. refl) (λ _. refl)

abbrev OnlyAsks : State → Type 0
OnlyAsks FindingEntry = Unit {0}
OnlyAsks (Asking next left) = are_questions (next ∷ left) ≡ true
OnlyAsks (Over ending given) = Unit {0}
OnlyAsks s = ⊥

asks-asking : (questions : List Question) → are_questions questions ≡ true → OnlyAsks (asking questions)
asks-asking [] all = tt
asks-asking (q ∷ qs) all = all

asks-checking : (co : Course) (o : Option Cached) → are_questions co.questions ≡ true → OnlyAsks (checking co o)
asks-checking co None all = tt
asks-checking co (Some cached) all = asks-asking co.questions all

asks-entry : (co : Course) (number : ℕ) (r : Reply) → are_questions co.questions ≡ true
    → OnlyAsks (at_entry co number r)
asks-entry co number (Entry o) all = asks-checking co o all
asks-entry co number _ all = tt

asks-question : (number : ℕ) (q : Question) (left : List Question) (r : Reply) → are_questions left ≡ true
    → OnlyAsks (at_question number q left r)
asks-question number q left (Has true) all = asks-asking left all
asks-question number q left _ all = tt

asks-step : (co : Course) (number : ℕ) (s : State) (r : Reply) → are_questions co.questions ≡ true → OnlyAsks s
    → OnlyAsks (advance co number s r)
unfolding advance
asks-step co number FindingEntry r all asks = asks-entry co number r all
asks-step co number (Asking next left) r all asks =
    asks-question number next left r (and_parts (is_question next.call) (are_questions left) asks).1
asks-step co number (Over ending given) r all asks = tt
asks-step co number _ r all asks = absurd asks

asks-leaves : (c : Command) (s : State) (host : Host) (call : Call) (r : Reply) → OnlyAsks s
    → next_call c s ≡ Some call → host_after host call r ≡ host
unfolding next_call
asks-leaves c FindingEntry host call r asks is =
    subst (λ x. host_after host x r ≡ host) (same_Some (CacheGet (att_of c)) call is) (look-leaves host (att_of c) r)
asks-leaves c (Asking next left) host call r asks is =
    subst (λ x. host_after host x r ≡ host) (same_Some next.call call is)
    (question-leaves host next.call r (and_parts (is_question next.call) (are_questions left) asks).0)
asks-leaves c (Over ending given) host call r asks is = absurd (none-some call is)
asks-leaves c _ host call r asks is = absurd asks

check-same_from : (co : Course) (c : Command) (faulty : ℕ → Bool) (made : ℕ) (s : State) (host : Host) (es : List Made)
    → are_questions co.questions ≡ true → OnlyAsks s → IsRunFrom co c faulty made s host es → host_from host es ≡ host
check-same_from co c faulty made s host [] all asks run = refl
check-same_from co c faulty made s host (e ∷ es) all asks run =
    check-same_from co c faulty (made + 1) (advance co (made + 1) s e.reply) (host_on host e) es all
    (asks-step co (made + 1) s e.reply all asks) run.2
    ∙ asks-leaves c s host e.call e.reply asks run.0

pub check-same : ChecksLeaveTheHost
check-same co c faulty host es all run = check-same_from co c faulty 0 FindingEntry host es all tt run

-- ---- it succeeds exactly where all is there

abbrev IsExact : Bool → Ending → Type 0
IsExact test ending = MatchBool test (ending ≡ Yes) (ending ≡ Yes → ⊥)

exact-both : (one rest : Bool) (ending : Ending) → (one ≡ true → IsExact rest ending)
    → (one ≡ false → ending ≡ Yes → ⊥) → IsExact (one && rest) ending
exact-both true rest ending there gone = there refl
exact-both false rest ending there gone = gone refl

refused-not_yes : (cause : Cause) (ending : Ending) → ending ≡ Refused cause → ending ≡ Yes → ⊥
refused-not_yes cause ending is granted = cc

told-question : (host : Host) (call : Call) (faulty : Bool) → is_question call ≡ true
    → is_fault (reply_to host call faulty) ≡ false → reply_to host call faulty ≡ Has (holds_by host call)
told-question host (HasObj probe) true is unfailed = cc
told-question host (HasObj probe) false is unfailed = refl
told-question host _ faulty is unfailed = cc

told-entry : (host : Host) (att : Att) (faulty : Bool) → is_fault (reply_to host (CacheGet att) faulty) ≡ false
    → reply_to host (CacheGet att) faulty ≡ Entry (cached_in host att)
told-entry host att true unfailed = cc
told-entry host att false unfailed = refl

abbrev has_fault : List Made → Bool
has_fault es = list_any (λ (e : Made). is_fault e.reply) es

-- from the questions that are left
exact-asked : (co : Course) (c : Command) (faulty : ℕ → Bool) (made : ℕ) (qs : List Question) (host : Host)
    (es : List Made) (ending : Ending)
    → are_questions qs ≡ true → IsRunFrom co c faulty made (asking qs) host es
    → IsOver (state_from co made (asking qs) (replies es)) ending → has_fault es ≡ false
    → IsExact (list_all (λ (q : Question). holds_by host q.call) qs) ending
unfolding advance next_call finish_of
exact-asked co c faulty made [] host es ending all run over unfailed =
    over-tells co made Yes [] (replies es) ending over
exact-asked co c faulty made (q ∷ qs) host [] ending all run over unfailed = absurd (none-some ending over)
exact-asked co c faulty made (q ∷ qs) host (e ∷ es) ending all run over unfailed =
    let each = and_parts (is_question q.call) (are_questions qs) all in
    let clear = or_parts (is_fault e.reply) (has_fault es) unfailed in
    let asked : q.call ≡ e.call = same_Some q.call e.call run.0 in
    let asks : is_question e.call ≡ true = ap is_question (sym asked) ∙ each.0 in
    let told : e.reply ≡ Has (holds_by host q.call) =
    run.1
    ∙ told-question host e.call (faulty made) asks (ap is_fault (sym run.1) ∙ clear.0)
    ∙ ap (λ x. Has (holds_by host x)) (sym asked) in
    let same : host_on host e ≡ host = question-leaves host e.call e.reply asks in
    exact-both (holds_by host q.call) (list_all (λ (x : Question). holds_by host x.call) qs) ending
    (λ there.
    let is : at_question (made + 1) q qs e.reply ≡ asking qs =
    ap (at_question (made + 1) q qs) (told ∙ ap Has there) in
    exact-asked co c faulty (made + 1) qs host es ending each.1
    (subst (λ k. IsRunFrom co c faulty (made + 1) (asking qs) k es) same
    (subst (λ s. IsRunFrom co c faulty (made + 1) s (host_on host e) es) is run.2))
    (subst (λ s. IsOver (state_from co (made + 1) s (replies es)) ending) is over) clear.1)
    (λ gone.
    let is : at_question (made + 1) q qs e.reply ≡ refused q.lack =
    ap (at_question (made + 1) q qs) (told ∙ ap Has gone) in
    refused-not_yes q.lack ending
    (refusing-ends co q.lack (made + 1) (refused q.lack) (replies es) ending refl
    (subst (λ s. IsOver (state_from co (made + 1) s (replies es)) ending) is over)))

-- from its cached result
exact-found : (co : Course) (c : Command) (faulty : ℕ → Bool) (o : Option Cached) (host : Host) (es : List Made)
    (ending : Ending)
    → are_questions co.questions ≡ true → IsRunFrom co c faulty 1 (checking co o) host es
    → IsOver (state_from co 1 (checking co o) (replies es)) ending → has_fault es ≡ false
    → IsExact (is_some o && list_all (λ (q : Question). holds_by host q.call) co.questions) ending
exact-found co c faulty None host es ending all run over unfailed =
    refused-not_yes causes.Unknown ending
    (refusing-ends co causes.Unknown 1 (refused causes.Unknown) (replies es) ending refl over)
exact-found co c faulty (Some cached) host es ending all run over unfailed =
    exact-asked co c faulty 1 co.questions host es ending all run over unfailed

pub check-exact : ChecksAreExact
unfolding advance next_call finish_of
check-exact co c faulty host [] ending all ran unfailed = absurd (none-some ending ran.over)
check-exact co c faulty host (e ∷ es) ending all ran unfailed =
    let clear = or_parts (is_fault e.reply) (has_fault es) unfailed in
    let asked : CacheGet (att_of c) ≡ e.call = same_Some (CacheGet (att_of c)) e.call ran.run.0 in
    let reply : e.reply ≡ reply_to host (CacheGet (att_of c)) (faulty 0) =
    ran.run.1 ∙ ap (λ x. reply_to host x (faulty 0)) (sym asked) in
    let told : e.reply ≡ Entry (cached_in host (att_of c)) =
    reply ∙ told-entry host (att_of c) (faulty 0) (ap is_fault (sym reply) ∙ clear.0) in
    let same : host_on host e ≡ host =
    subst (λ x. host_after host x e.reply ≡ host) asked (look-leaves host (att_of c) e.reply) in
    let is : at_entry co 1 e.reply ≡ checking co (cached_in host (att_of c)) = ap (at_entry co 1) told in
    exact-found co c faulty (cached_in host (att_of c)) host es ending all
    (subst (λ k. IsRunFrom co c faulty 1 (checking co (cached_in host (att_of c))) k es) same
    (subst (λ s. IsRunFrom co c faulty 1 s (host_on host e) es) is ran.run.2))
    (subst (λ s. IsOver (state_from co 1 s (replies es)) ending) is ran.over) clear.1
