-- What holds of an ADD after each of its entries.
use Rattle.session_laws.proofs.Names.{◌≡◌, ℕ, Bool, true, false, List, [], ◌∷◌, ◌++◌, length, Option, Some, None, refl}
use Rattle.session_laws.proofs.Names.{sym, ◌∙◌, ap, subst, append_assoc, arith, ◌⊎◌, inl, inr, append-nil, length_push}
use Rattle.session_laws.proofs.Names.{map-append, list_all, Addr, RangeSet, Cause, Added, Refused, is_granted, reply_to}
use Rattle.session_laws.proofs.Names.{State, AtBegin, BeforeLeases, Leasing, AfterLeases, ReadingCache, Deleting}
use Rattle.session_laws.proofs.Names.{FindingEntry, Asking, Changing, Collecting, Over, after_leases, at_call_after}
use Rattle.session_laws.proofs.Names.{faulted, leased_by, leases_in, next_call, Made, host_on, replies, HasKindsAlone}
use Rattle.session_laws.proofs.Names.{IsSound, lease_of, Call, Begin, Reply, Done, Leased, Host, HostLocalConf, Share}
use Rattle.session_laws.proofs.Names.{no_objects, share_of, share_after_call, share_after_calls}
use Rattle.session_laws.proofs.Names.{share_after_calls-append}
use Rattle.cni_addr.proofs.Lists.{list_all-push}
use Rattle.session_laws.specs.{Course.{advance, at_begin, at_lease, leasing}, Holds.{IsPartOf, has_begun}, Laws.IsAdd}
use Rattle.session_laws.specs.{Laws.{Run, own_att, part_of}, Pools.sets_by, Tasks.{forward_of, kinds_back}}
use Rattle.session_laws.specs.declared.row.Row.{Row}
use Rattle.session_laws.proofs.Courses.Calls.{forward-all, forward-makes, part-first, part-of_kinds, with_leases}
use Rattle.session_laws.proofs.Courses.{Deleting.{Left, deletes-on}, Parts.{part-removes, part-trans}, Ready.made_on}
use Rattle.session_laws.proofs.Courses.{Runs.{leases-push, leases-same}, Unbegun.begun-more}

-- ---- on the way forward

-- it was begun: an address of each of these sets was leased, and these calls were made
pub record Goes (ipam : Option HostLocalConf) (r : Run) (past : List Made) (done : List RangeSet) (given : List Addr)
    (made : List Call) (host : Host) : Type 0 where
  pub begun : has_begun past ≡ true
  pub granted : list_all (λ (e : Made). is_granted e.reply) past ≡ true
  pub leased : leases_in (replies past) ≡ given
  pub each : length given ≡ length done
  pub pooled : ipam ≡ None → given ≡ []
  pub has : share_of (own_att r) host ≡ share_after_calls (with_leases (own_att r) given) made

-- ---- on the way back

-- an entry refused it, and this is left
pub record Undoes (ipam : Option HostLocalConf) (row : Row) (r : Run) (past : List Made) (s : State)
    (host : Host) : Type 0 where
  pub cause : Cause
  pub before : List Made
  pub by : Made
  pub later : List Made
  pub are : past ≡ before ++ by ∷ later
  pub begun : has_begun before ≡ true
  pub granted : list_all (λ (e : Made). is_granted e.reply) before ≡ true
  pub refuses : is_granted by.reply ≡ false
  pub part : IsPartOf (share_of (own_att r) host) (part_of (own_att r) row (leases_in (replies past)))
  pub left : Left r.course (Refused cause) later s (share_of (own_att r) host)
  pub pooled : ipam ≡ None → leases_in (replies past) ≡ []

-- its Begin was refused
abbrev pub IsRefusedAtOnce : List Made → Type 0
IsRefusedAtOnce past = (e : Made) × (past ≡ e ∷ []) × (is_granted e.reply ≡ false)

-- ---- in each state

abbrev pub AddAt : Option HostLocalConf → Row → Run → List Made → State → Host → Type 0
AddAt ipam row r past AtBegin host = past ≡ []
AddAt ipam row r past (BeforeLeases next left) host = ⊥
AddAt ipam row r past (Leasing next left given) host =
    (done : List RangeSet) × (r.course.sets ≡ done ++ next ∷ left) × Goes ipam r past done given [] host
AddAt ipam row r past (AfterLeases next left given) host =
    (made : List Call) × (r.course.forward ≡ made ++ next ∷ left) × Goes ipam r past r.course.sets given made host
AddAt ipam row r past (ReadingCache e) host = Undoes ipam row r past (ReadingCache e) host
AddAt ipam row r past (Deleting next left e) host = Undoes ipam row r past (Deleting next left e) host
AddAt ipam row r past FindingEntry host = ⊥
AddAt ipam row r past (Asking next left) host = ⊥
AddAt ipam row r past (Changing change) host = ⊥
AddAt ipam row r past (Collecting work faults) host = ⊥
AddAt ipam row r past (Over Added given) host = Goes ipam r past r.course.sets given r.course.forward host
AddAt ipam row r past (Over e given) host = IsRefusedAtOnce past ⊎ Undoes ipam row r past (Over e given) host

not-added : (cause : Cause) → Added ≡ Refused cause → ⊥
not-added cause is = cc

not-faulted : (number : ℕ) (cause : Cause) → Added ≡ faulted number (Refused cause) → ⊥
not-faulted number cause is = cc

undoes-added : (ipam : Option HostLocalConf) (row : Row) (r : Run) (past : List Made) (given : List Addr) (host : Host)
    → Undoes ipam row r past (Over Added given) host → ⊥
undoes-added ipam row r past given host u = elim u.left [
  | inl none ↦ not-added u.cause none.0
  | inr fault ↦ not-faulted fault.0 u.cause fault.1
]

pub undoes-at : (ipam : Option HostLocalConf) (row : Row) (r : Run) (past : List Made) (s : State) (host : Host)
    → Undoes ipam row r past s host → AddAt ipam row r past s host
undoes-at ipam row r past (ReadingCache e) host u = u
undoes-at ipam row r past (Deleting next left e) host u = u
undoes-at ipam row r past (Over Added given) host u = absurd (undoes-added ipam row r past given host u)
undoes-at ipam row r past (Over e given) host u = inr u
undoes-at ipam row r past _ host u = absurd u.left

-- ---- what is made so far is part of what the row says

pub goes-part : (ipam : Option HostLocalConf) (row : Row) (r : Run) (past : List Made) (done : List RangeSet)
    (given : List Addr) (made left : List Call) (host : Host)
    → IsAdd ipam row r → Goes ipam r past done given made host → r.course.forward ≡ made ++ left
    → IsPartOf (share_of (own_att r) host) (part_of (own_att r) row given)
goes-part ipam row r past done given made left host add goes are =
    let att = own_att r in
    let calls = forward_of (Some row) in
    let first =
    part-first att (kinds_back ipam (Some row)) (with_leases att given) calls made left
    (forward-all ipam att row add.of_row) (sym add.forward ∙ are) in
    subst (λ s. IsPartOf s (part_of att row given)) (sym goes.has)
    (subst (IsPartOf (share_after_calls (with_leases att given) made)) (forward-makes att row given add.of_row) first)

-- ---- from one state to the next

-- an entry refuses it, and changed nothing
to-undoing : (ipam : Option HostLocalConf) (row : Row) (r : Run) (past : List Made) (e : Made) (cause : Cause)
    (done : List RangeSet) (given : List Addr) (made left : List Call) (old new : Host)
    → IsAdd ipam row r → Goes ipam r past done given made old → r.course.forward ≡ made ++ left
    → is_granted e.reply ≡ false → leases_in (e.reply ∷ []) ≡ [] → new ≡ old
    → Undoes ipam row r (past ++ e ∷ []) (ReadingCache (Refused cause)) new
to-undoing ipam row r past e cause done given made left old new add goes are refuses none same =
    let att = own_att r in
    let part : IsPartOf (share_of att new) (part_of att row given) =
    subst (λ h. IsPartOf (share_of att h) (part_of att row given)) (sym same)
    (goes-part ipam row r past done given made left old add goes are) in
    let leased : given ≡ leases_in (replies (past ++ e ∷ [])) = sym (leases-same past e none ∙ goes.leased) in record {
      cause = cause;
      before = past;
      by = e;
      later = [];
      are = refl;
      begun = goes.begun;
      granted = goes.granted;
      refuses = refuses;
      part = subst (λ l. IsPartOf (share_of att new) (part_of att row l)) leased part;
      left = (
        refl,
        subst (λ ks. HasKindsAlone ks (share_of att new)) (sym add.kinds)
            (part-of_kinds ipam att row given (share_of att new) add.of_row goes.pooled part),
      );
      pooled = λ without. sym leased ∙ goes.pooled without;
    }

to-after_leases : (ipam : Option HostLocalConf) (row : Row) (r : Run) (past : List Made) (given : List Addr)
    (made left : List Call) (host : Host)
    → r.course.forward ≡ made ++ left → Goes ipam r past r.course.sets given made host
    → AddAt ipam row r past (after_leases left given) host
to-after_leases ipam row r past given made [] host are goes =
    subst (λ cs. Goes ipam r past r.course.sets given cs host) (sym (are ∙ append-nil made)) goes
to-after_leases ipam row r past given made (x ∷ xs) host are goes = (made, are, goes)

to-leasing : (ipam : Option HostLocalConf) (row : Row) (r : Run) (past : List Made) (given : List Addr)
    (done left : List RangeSet) (host : Host)
    → r.course.sets ≡ done ++ left → Goes ipam r past done given [] host
    → AddAt ipam row r past (leasing r.course left given) host
to-leasing ipam row r past given done [] host are goes =
    to-after_leases ipam row r past given [] r.course.forward host refl
    (subst (λ l. Goes ipam r past l given [] host) (sym (are ∙ append-nil done)) goes)
to-leasing ipam row r past given done (x ∷ xs) host are goes = (done, are, goes)

-- ---- a Begin

abbrev begin_of : Run → Reply → Made
begin_of r reply = record { call = Begin (own_att r) r.command.netns; reply = reply }

pub moves-begin : (ipam : Option HostLocalConf) (row : Row) (r : Run) (number : ℕ) (reply : Reply) (host : Host)
    → (reply ≡ Done → share_of (own_att r) host ≡ no_objects) → leased_by reply ≡ None
    → AddAt ipam row r (begin_of r reply ∷ []) (at_begin r.course number reply) host
moves-begin ipam row r number Done host has none =
    to-leasing ipam row r (begin_of r Done ∷ []) [] [] r.course.sets host refl
    (record { begun = refl; granted = refl; leased = refl; each = refl; pooled = λ _. refl; has = has refl })
moves-begin ipam row r number (Leased addr) host has none = cc
moves-begin ipam row r number _ host has none = inl (begin_of r _, refl, refl)

-- ---- a lease

-- without pools there is no set
no-sets : (ipam : Option HostLocalConf) (sets done left : List RangeSet) (set : RangeSet) → sets ≡ sets_by ipam
    → sets ≡ done ++ set ∷ left → ipam ≡ None → ⊥
no-sets None sets [] left set by are none = let e = sym by ∙ are in cc
no-sets None sets (x ∷ xs) left set by are none = let e = sym by ∙ are in cc
no-sets (Some conf) sets done left set by are none = cc

goes-leased : (ipam : Option HostLocalConf) (row : Row) (r : Run) (past : List Made) (e : Made) (set : RangeSet)
    (done left : List RangeSet) (given : List Addr) (addr : Addr) (old new : Host)
    → IsAdd ipam row r → e.reply ≡ Leased addr → r.course.sets ≡ done ++ set ∷ left → Goes ipam r past done given [] old
    → share_of (own_att r) new
    ≡ record (share_of (own_att r) old) {
      leases = (share_of (own_att r) old).leases ++ lease_of (own_att r) addr ∷ [];
    }
    → Goes ipam r (past ++ e ∷ []) (done ++ set ∷ []) (given ++ addr ∷ []) [] new
goes-leased ipam row r past e set done left given addr old new add is are goes more =
    let att = own_att r in
    let lengths = length_push given addr in
    let sets = length_push done set in
    let same = goes.each in record {
      begun = begun-more past (e ∷ []) goes.begun;
      granted = list_all-push (λ (m : Made). is_granted m.reply) past e goes.granted (ap is_granted is);
      leased =
          leases-push past e
          ∙ ap (λ q. leases_in (replies past) ++ leases_in (q ∷ [])) is
          ∙ ap (λ l. l ++ addr ∷ []) goes.leased;
      each = omega arith;
      pooled = λ none. absurd (no-sets ipam r.course.sets done left set add.sets are none);
      has =
          more
          ∙ ap (λ (s : Share). record s { leases = s.leases ++ lease_of att addr ∷ [] }) goes.has
          ∙ ap (λ l. record no_objects { leases = l }) (sym (map-append (lease_of att) given (addr ∷ [])));
    }

pub moves-lease : (ipam : Option HostLocalConf) (row : Row) (r : Run) (past : List Made) (e : Made) (number : ℕ)
    (set : RangeSet) (done left : List RangeSet) (given : List Addr) (reply : Reply) (old new : Host)
    → IsAdd ipam row r → e.reply ≡ reply → r.course.sets ≡ done ++ set ∷ left → Goes ipam r past done given [] old
    → ((addr : Addr) → reply ≡ Leased addr
    → share_of (own_att r) new
    ≡ record (share_of (own_att r) old) {
      leases = (share_of (own_att r) old).leases ++ lease_of (own_att r) addr ∷ [];
    })
    → (((addr : Addr) → reply ≡ Leased addr → ⊥) → new ≡ old) → (reply ≡ Done → ⊥)
    → AddAt ipam row r (past ++ e ∷ []) (at_lease r.course number left given reply) new
moves-lease ipam row r past e number set done left given (Leased addr) old new add is are goes more same not =
    to-leasing ipam row r (past ++ e ∷ []) (given ++ addr ∷ []) (done ++ set ∷ []) left new
    (are ∙ sym (append_assoc done (set ∷ []) left))
    (goes-leased ipam row r past e set done left given addr old new add is are goes (more addr refl))
moves-lease ipam row r past e number set done left given Done old new add is are goes more same not = absurd (not refl)
moves-lease ipam row r past e number set done left given _ old new add is are goes more same not =
    to-undoing ipam row r past e _ done given [] r.course.forward old new add goes refl (ap is_granted is)
    (ap (λ q. leases_in (q ∷ [])) is) (same (λ a leased. cc))

-- ---- a call after the leases

goes-made : (ipam : Option HostLocalConf) (r : Run) (past : List Made) (e : Made) (call : Call) (given : List Addr)
    (made : List Call) (old new : Host)
    → e.reply ≡ Done → Goes ipam r past r.course.sets given made old
    → share_of (own_att r) new ≡ share_after_call (share_of (own_att r) old) call
    → Goes ipam r (past ++ e ∷ []) r.course.sets given (made ++ call ∷ []) new
goes-made ipam r past e call given made old new is goes more = record {
  begun = begun-more past (e ∷ []) goes.begun;
  granted = list_all-push (λ (m : Made). is_granted m.reply) past e goes.granted (ap is_granted is);
  leased = leases-same past e (ap (λ q. leases_in (q ∷ [])) is) ∙ goes.leased;
  each = goes.each;
  pooled = goes.pooled;
  has =
      more
      ∙ ap (λ s. share_after_call s call) goes.has
      ∙ sym (share_after_calls-append (with_leases (own_att r) given) made (call ∷ []));
}

pub moves-call : (ipam : Option HostLocalConf) (row : Row) (r : Run) (past : List Made) (e : Made) (number : ℕ)
    (call : Call) (made left : List Call) (given : List Addr) (reply : Reply) (old new : Host)
    → IsAdd ipam row r → e.reply ≡ reply → r.course.forward ≡ made ++ call ∷ left
    → Goes ipam r past r.course.sets given made old
    → (reply ≡ Done → share_of (own_att r) new ≡ share_after_call (share_of (own_att r) old) call)
    → ((reply ≡ Done → ⊥) → new ≡ old) → leased_by reply ≡ None
    → AddAt ipam row r (past ++ e ∷ []) (at_call_after number left given reply) new
moves-call ipam row r past e number call made left given Done old new add is are goes more same none =
    to-after_leases ipam row r (past ++ e ∷ []) given (made ++ call ∷ []) left new
    (are ∙ sym (append_assoc made (call ∷ []) left))
    (goes-made ipam r past e call given made old new is goes (more refl))
moves-call ipam row r past e number call made left given (Leased addr) old new add is are goes more same none = cc
moves-call ipam row r past e number call made left given _ old new add is are goes more same none =
    to-undoing ipam row r past e _ r.course.sets given made (call ∷ left) old new add goes are (ap is_granted is)
    (ap (λ q. leases_in (q ∷ [])) is) (same (λ done. cc))

-- ---- a call of the undoing

pub moves-back : (ipam : Option HostLocalConf) (row : Row) (r : Run) (past : List Made) (number : ℕ) (s : State)
    (host : Host) (call : Call) (fault : Bool)
    → IsSound host → next_call r.command s ≡ Some call → (u : Undoes ipam row r past s host)
    → Undoes ipam row r (past ++ made_on host call fault ∷ []) (advance r.course number s (reply_to host call fault))
    (host_on host (made_on host call fault))
moves-back ipam row r past number s host call fault sound next u =
    let att = own_att r in
    let e = made_on host call fault in
    let step = deletes-on r.course (Refused u.cause) u.later r.command number s host call fault sound next u.left in
    let part =
    part-trans (share_of att (host_on host e)) (share_of att host) _
    (part-removes att host (host_on host e) step.takes.within.removes) u.part in
    record {
      cause = u.cause;
      before = u.before;
      by = u.by;
      later = u.later ++ e ∷ [];
      are = ap (λ l. l ++ e ∷ []) u.are ∙ append_assoc u.before (u.by ∷ u.later) (e ∷ []);
      begun = u.begun;
      granted = u.granted;
      refuses = u.refuses;
      part =
          subst (λ l. IsPartOf (share_of att (host_on host e)) (part_of att row l))
          (sym (leases-same past e step.leases)) part;
      left = step.left;
      pooled = λ without. leases-same past e step.leases ∙ u.pooled without;
    }
