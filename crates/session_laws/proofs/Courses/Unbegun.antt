-- An ADD whose Begin was not granted made no other call, and left the host, whichever course it has.
use Rattle.session_laws.proofs.Names.{◌≡◌, ℕ, Bool, true, false, List, [], ◌∷◌, ◌++◌, Some, None, refl, sym, subst, ◌⊎◌}
use Rattle.session_laws.proofs.Names.{inl, inr, both_ways, same_Some, by_test, Cause, Refused, is_granted, reply_to}
use Rattle.session_laws.proofs.Names.{State, AtBegin, Over, finish_of, leased_by, next_call, Made, host_on, has_objects}
use Rattle.session_laws.proofs.Names.{is_host_or_ns, Call, Begin, Reply, Done, Leased, Att, Host, share_of}
use Rattle.session_laws.specs.{Course.{advance, at_begin, IsOver}, Holds.has_begun, Laws.BeginsAt}
use Rattle.session_laws.specs.Laws.{EachUnbegunAddIsUndone, EachUnbegunAddLeavesTheHost, IsUndone, Run, end_from}
use Rattle.session_laws.specs.Laws.{finish, own_att}
use Rattle.session_laws.proofs.Courses.{Ready.{made_on, on-call}, Runs.{Keeps, along}}

-- no reply to a Begin leases
pub begin-no_lease : (host : Host) (att : Att) (netns : List ℕ) (fault : Bool)
    → leased_by (reply_to host (Begin att netns) fault) ≡ None
begin-no_lease host att netns true = refl
begin-no_lease host att netns false =
    by_test (λ (reply : Reply). leased_by reply ≡ None) (is_host_or_ns host.namespaces netns) _ _
    (λ _. by_test (λ (reply : Reply). leased_by reply ≡ None) (has_objects host att) _ _ (λ _. refl) (λ _. refl))
    (λ _. refl)

-- it has made no call, or its Begin alone; the host is as it was
abbrev Unbegun : Run → List Made → State → Host → Type 0
Unbegun r past AtBegin host = (past ≡ []) × (host ≡ r.start)
Unbegun r past (Over e given) host = (m : Made) × (past ≡ m ∷ []) × (is_granted m.reply ≡ false) × (host ≡ r.start)
Unbegun r past s host = ⊥

abbrev BegunOrNot : Run → List Made → State → Host → Type 0
BegunOrNot r past s host = (has_begun past ≡ true) ⊎ Unbegun r past s host

pub begun-more : (past more : List Made) → has_begun past ≡ true → has_begun (past ++ more) ≡ true
begun-more [] more begun = cc
begun-more (x ∷ xs) more begun = begun

moves-begin : (r : Run) (number : ℕ) (reply : Reply) (host : Host) → leased_by reply ≡ None → host ≡ r.start
    → let e : Made = record { call = Begin (own_att r) r.command.netns; reply = reply } in
    BegunOrNot r (e ∷ []) (at_begin r.course number reply) host
moves-begin r number Done host none same = inl refl
moves-begin r number (Leased addr) host none same = cc
moves-begin r number _ host none same =
    inr (record { call = Begin (own_att r) r.command.netns; reply = _ }, refl, refl, same)

abbrev AfterCall : Run → List Made → ℕ → State → Host → Bool → Call → Type 0
AfterCall r past number s host fault call =
    BegunOrNot r (past ++ made_on host call fault ∷ []) (advance r.course number s (reply_to host call fault))
    (host_on host (made_on host call fault))

begins : (r : Run) (past : List Made) (number : ℕ) (host : Host) (fault : Bool) → past ≡ [] → host ≡ r.start
    → AfterCall r past number AtBegin host fault (Begin (own_att r) r.command.netns)
unfolding advance
begins r past number host fault none same =
    let call = Begin (own_att r) r.command.netns in
    let e = made_on host call fault in
    subst (λ l. BegunOrNot r (l ++ e ∷ []) (at_begin r.course number e.reply) (host_on host e)) (sym none)
    (moves-begin r number e.reply (host_on host e) (begin-no_lease host (own_att r) r.command.netns fault)
    (on-call (λ h. h ≡ r.start) host call fault same same))

keeps-unbegun : (r : Run) (past : List Made) (number : ℕ) (s : State) (host : Host) (call : Call) (fault : Bool)
    → next_call r.command s ≡ Some call → Unbegun r past s host → AfterCall r past number s host fault call
unfolding next_call
keeps-unbegun r past number AtBegin host call fault next was =
    let first : Call = Begin (own_att r) r.command.netns in
    subst (AfterCall r past number AtBegin host fault) (same_Some first call next)
    (begins r past number host fault was.0 was.1)
keeps-unbegun r past number (Over e given) host call fault next was = cc
keeps-unbegun r past number _ host call fault next was = absurd was

keeps-begun_or_not : (r : Run) → Keeps r.course r.command (BegunOrNot r)
keeps-begun_or_not r past number s host call fault next (inl begun) = inl (begun-more past _ begun)
keeps-begun_or_not r past number s host call fault next (inr was) =
    keeps-unbegun r past number s host call fault next was

unbegun : (r : Run) → BeginsAt AtBegin r → has_begun r.entries ≡ false
    → Unbegun r r.entries (end_from AtBegin r) (finish r)
unbegun r run none =
    elim (along r.course r.command r.faulty (BegunOrNot r) (keeps-begun_or_not r) [] 0 AtBegin r.start r.entries run
    (inr (refl, refl))) [
      | inl begun ↦ absurd (both_ways (has_begun r.entries) none begun)
      | inr was ↦ was
    ]

unbegun-same : (r : Run) (past : List Made) (s : State) (host : Host) → Unbegun r past s host → host ≡ r.start
unbegun-same r past AtBegin host was = was.1
unbegun-same r past (Over e given) host was = was.3
unbegun-same r past _ host was = absurd was

unbegun-undone : (r : Run) (past : List Made) (s : State) (host : Host) (cause : Cause) → Unbegun r past s host
    → IsOver s (Refused cause) → IsUndone past (share_of (own_att r) host)
unfolding finish_of
unbegun-undone r past AtBegin host cause was over = cc
unbegun-undone r past (Over e given) host cause was over =
    record { past = []; by = was.0; later = []; are = was.1; granted = refl; refuses = was.2; undone = inl refl }
unbegun-undone r past _ host cause was over = absurd was

pub unbegun_leaves : EachUnbegunAddLeavesTheHost
unbegun_leaves r run none = unbegun-same r r.entries (end_from AtBegin r) (finish r) (unbegun r run none)

pub unbegun_is_undone : EachUnbegunAddIsUndone
unbegun_is_undone r cause run none over =
    unbegun-undone r r.entries (end_from AtBegin r) (finish r) cause (unbegun r run none) over
