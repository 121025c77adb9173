-- What an ADD makes, and what it leaves where it was refused.
use Rattle.session_laws.proofs.Names.{◌≡◌, ℕ, Bool, true, false, List, [], ◌∷◌, ◌++◌, length, Option, Some, None, refl}
use Rattle.session_laws.proofs.Names.{sym, ◌∙◌, ap, subst, inl, inr, slice_get, both_ways, append-nil, same_Some}
use Rattle.session_laws.proofs.Names.{AllByRecursion, Addr, RangeSet, Cause, Added, Refused, is_granted, reply_to}
use Rattle.session_laws.proofs.Names.{State, AtBegin, Leasing, AfterLeases, ReadingCache, Deleting, Over, finish_of}
use Rattle.session_laws.proofs.Names.{leased_by, leases_in, next_call, Collecting, Made, host_on, replies}
use Rattle.session_laws.proofs.Names.{HasRangesApart, IsAllowed, last_leased, lease_taken, leased_addresses, att_eq}
use Rattle.session_laws.proofs.Names.{IsSound, lease_of, Call, Begin, LeaseNext, Kind, Reply, Done, Leased, Att, Host}
use Rattle.session_laws.proofs.Names.{pick_of, att_eq-refl, HostLocalConf, is_plugin_call_of, no_objects, share_of}
use Rattle.session_laws.proofs.Names.{share_after_call, share_after_calls, share-other}
use Rattle.plugin_base.specs.Calls.{is_call_of}
use Rattle.plugin_base.proofs.{OtherCalls.call-plugin, OwnCalls.{share-begin, share-lease, share-own}}
use Rattle.plugin_base.proofs.Refusals.{refused-lease, refused-same}
use Rattle.gc_sweep.proofs.OfKinds.{HasKindsAlone-none}
use Rattle.session_laws.specs.{Course.{advance, IsOver}, Holds.{IsPartOf, has_begun, is_begun}}
use Rattle.session_laws.specs.Laws.{EachAddLeavesOthers, EachAddMakesParts, EachAddStaysReady, EachAddedIsWhole}
use Rattle.session_laws.specs.Laws.{EachUnpooledAddLeasesNothing, EachRefusedAddIsUndone, IsAdd, IsUndone, Run}
use Rattle.session_laws.specs.{Laws.{end_from, finish, own_att, part_of, pools_of}, Pools.IsReady, Tasks.kinds_back}
use Rattle.session_laws.specs.declared.row.Row.{Row}
use Rattle.session_laws.proofs.Courses.Adding.{AddAt, Goes, Undoes, goes-part, moves-back, moves-begin, moves-call}
use Rattle.session_laws.proofs.Courses.{Adding.{moves-lease, undoes-at}, Calls.{IsForward, appends, with_leases}}
use Rattle.session_laws.proofs.Courses.Calls.{appends-allowed, appends-no_lease, forward-all, forward-makes}
use Rattle.session_laws.proofs.Courses.{Deleting.deletes-on, Ready.{lease-allowed, made_on, ready-begin, ready-lease}}
use Rattle.session_laws.proofs.Courses.{Ready.{on-call, ready-own_call}, Runs.{Keeps, along, host-made, replied}}
use Rattle.session_laws.proofs.Courses.Unbegun.{begin-no_lease}
use Rattle.kernel_types.proofs.ListLemmas.{slice_get-middle}

-- ---- one entry

-- what holds after some entries, whichever they are
record IsAdding (ipam : Option HostLocalConf) (row : Row) (r : Run) (past : List Made) (s : State)
    (host : Host) : Type 0 where
  at : AddAt ipam row r past s host
  ready : IsReady (pools_of r) host
  apart : (other : Att) → att_eq (own_att r) other ≡ false → share_of other host ≡ share_of other r.start

-- what one entry more makes of it
record Next (ipam : Option HostLocalConf) (row : Row) (r : Run) (past : List Made) (number : ℕ) (s : State)
    (host : Host) (fault : Bool) (call : Call) : Type 0 where
  at : AddAt ipam row r (past ++ made_on host call fault ∷ []) (advance r.course number s (reply_to host call fault))
      (host_on host (made_on host call fault))
  ready : IsReady (pools_of r) (host_on host (made_on host call fault))
  apart : (other : Att) → att_eq (own_att r) other ≡ false
      → share_of other (host_on host (made_on host call fault)) ≡ share_of other host

-- a call that it may make leaves the others
others-kept : (att : Att) (host : Host) (call : Call) (fault : Bool) → IsSound host → IsAllowed host call
    → is_call_of att call ≡ true → (other : Att) → att_eq att other ≡ false
    → share_of other (host_on host (made_on host call fault)) ≡ share_of other host
others-kept att host call fault sound allowed own other differ =
    on-call (λ h. share_of other h ≡ share_of other host) host call fault refl
    (share-other att other host call differ sound allowed own)

-- ---- Begin

begin-none : (att : Att) (host : Host) (netns : List ℕ) (fault : Bool) → reply_to host (Begin att netns) fault ≡ Done
    → share_of att (host_on host (made_on host (Begin att netns) fault)) ≡ no_objects
begin-none att host netns fault done =
    let was = replied host (Begin att netns) fault Done (λ e. cc) done in
    ap (share_of att) was.1 ∙ share-begin att host netns was.0

next-begin : (ipam : Option HostLocalConf) (row : Row) (r : Run) (past : List Made) (number : ℕ)
    (host : Host) (fault : Bool)
    → IsReady (pools_of r) host → past ≡ []
    → Next ipam row r past number AtBegin host fault (Begin (own_att r) r.command.netns)
unfolding advance
next-begin ipam row r past number host fault ready none =
    let att = own_att r in
    let call = Begin att r.command.netns in
    let e = made_on host call fault in record {
      at =
          subst (λ l. AddAt ipam row r (l ++ e ∷ []) (advance r.course number AtBegin e.reply) (host_on host e))
          (sym none)
          (moves-begin ipam row r number e.reply (host_on host e) (begin-none att host r.command.netns fault)
          (begin-no_lease host att r.command.netns fault));
      ready = ready-begin (pools_of r) host att r.command.netns fault ready;
      apart = others-kept att host call fault ready.sound tt (att_eq-refl att);
    }

-- ---- a lease

set-apart : (done left : List RangeSet) (set : RangeSet) → AllByRecursion HasRangesApart (done ++ set ∷ left)
    → HasRangesApart set
set-apart [] left set all = all.0
set-apart (x ∷ xs) left set all = set-apart xs left set all.1

lease-share : (att : Att) (host : Host) (number : ℕ) (set : RangeSet) (fault : Bool) (addr : Addr)
    → reply_to host (LeaseNext att number set) fault ≡ Leased addr
    → share_of att (host_on host (made_on host (LeaseNext att number set) fault))
    ≡ record (share_of att host) { leases = (share_of att host).leases ++ lease_of att addr ∷ [] }
lease-share att host number set fault addr leased =
    let was = replied host (LeaseNext att number set) fault (Leased addr) (λ e. cc) leased in
    ap (share_of att) was.1 ∙ share-lease att host number set addr was.0

lease-same : (att : Att) (host : Host) (number : ℕ) (set : RangeSet) (fault : Bool)
    → ((addr : Addr) → reply_to host (LeaseNext att number set) fault ≡ Leased addr → ⊥)
    → host_on host (made_on host (LeaseNext att number set) fault) ≡ host
lease-same att host number set true not = refl
lease-same att host number set false not =
    host-made host (LeaseNext att number set) ∙ refused-lease host att number set not

taken-not_done : (host : Host) (att : Att) (number : ℕ) (o : Option Addr) → (lease_taken host att number o).1 ≡ Done → ⊥
taken-not_done host att number None is = cc
taken-not_done host att number (Some addr) is = cc

lease-not_done : (host : Host) (att : Att) (number : ℕ) (set : RangeSet) (fault : Bool)
    → reply_to host (LeaseNext att number set) fault ≡ Done → ⊥
lease-not_done host att number set true is = cc
lease-not_done host att number set false is =
    taken-not_done host att number
    (pick_of set (last_leased host att.network number) (leased_addresses host att.network)) is

next-lease : (ipam : Option HostLocalConf) (row : Row) (r : Run) (past : List Made) (number : ℕ) (set : RangeSet)
    (left : List RangeSet) (given : List Addr) (host : Host) (fault : Bool)
    → IsAdd ipam row r → IsReady (pools_of r) host → AddAt ipam row r past (Leasing set left given) host
    → Next ipam row r past number (Leasing set left given) host fault (LeaseNext (own_att r) (length given) set)
unfolding advance
next-lease ipam row r past number set left given host fault add ready was =
    let att = own_att r in
    let n = length given in
    let call = LeaseNext att n set in
    let e = made_on host call fault in
    let there : slice_get r.course.sets n ≡ Some set =
    ap (λ sets. slice_get sets n) was.1
    ∙ ap (slice_get (was.0 ++ set ∷ left)) was.2.each
    ∙ slice_get-middle was.0 left set in
    let apart = set-apart was.0 left set (subst (AllByRecursion HasRangesApart) was.1 add.apart) in record {
      at =
          moves-lease ipam row r past e number set was.0 left given e.reply host (host_on host e) add refl
          was.1 was.2
          (lease-share att host n set fault) (lease-same att host n set fault)
          (lease-not_done host att n set fault);
      ready = ready-lease (pools_of r) host att n set fault refl there apart ready;
      apart =
          others-kept att host call fault ready.sound (lease-allowed (pools_of r) host att n set there apart ready)
          (att_eq-refl att);
    }

-- ---- a call after the leases

call-share : (att : Att) (host : Host) (call : Call) (fault : Bool) → is_plugin_call_of att call ≡ true
    → reply_to host call fault ≡ Done
    → share_of att (host_on host (made_on host call fault)) ≡ share_after_call (share_of att host) call
call-share att host call fault own done =
    let was = replied host call fault Done (λ e. cc) done in
    ap (share_of att) was.1 ∙ share-own att host call own was.0

call-same : (att : Att) (host : Host) (call : Call) (fault : Bool) → is_plugin_call_of att call ≡ true
    → (reply_to host call fault ≡ Done → ⊥) → host_on host (made_on host call fault) ≡ host
call-same att host call true own not = refl
call-same att host call false own not = host-made host call ∙ refused-same att host call own not

call-no_lease : (host : Host) (call : Call) (fault : Bool) → appends call ≡ true
    → leased_by (reply_to host call fault) ≡ None
call-no_lease host call true is = refl
call-no_lease host call false is = appends-no_lease host call is

forward-at : (att : Att) (ks : List Kind) (made left : List Call) (call : Call)
    → AllByRecursion (IsForward att ks) (made ++ call ∷ left) → IsForward att ks call
forward-at att ks [] left call all = all.0
forward-at att ks (x ∷ xs) left call all = forward-at att ks xs left call all.1

next-forward : (ipam : Option HostLocalConf) (row : Row) (r : Run) (past : List Made) (number : ℕ) (call : Call)
    (left : List Call) (given : List Addr) (host : Host) (fault : Bool)
    → IsAdd ipam row r → IsReady (pools_of r) host → AddAt ipam row r past (AfterLeases call left given) host
    → Next ipam row r past number (AfterLeases call left given) host fault call
unfolding advance
next-forward ipam row r past number call left given host fault add ready was =
    let att = own_att r in
    let ks = kinds_back ipam (Some row) in
    let e = made_on host call fault in
    let forward =
    forward-at att ks was.0 left call
    (subst (AllByRecursion (IsForward att ks)) (sym add.forward ∙ was.1)
    (forward-all ipam att row add.of_row)) in
    let own = forward.plugin.for_attachment in
    let allowed = appends-allowed host call forward.appends forward.plugin.well_formed in record {
      at =
          moves-call ipam row r past e number call was.0 left given e.reply host (host_on host e) add
          refl was.1 was.2
          (call-share att host call fault own) (call-same att host call fault own)
          (call-no_lease host call fault forward.appends);
      ready = ready-own_call (pools_of r) host att call fault own allowed ready;
      apart = others-kept att host call fault ready.sound allowed (call-plugin att call own);
    }

-- ---- a call of the undoing

next-back : (ipam : Option HostLocalConf) (row : Row) (r : Run) (past : List Made) (number : ℕ) (s : State)
    (host : Host) (fault : Bool) (call : Call)
    → next_call r.command s ≡ Some call → IsReady (pools_of r) host → Undoes ipam row r past s host
    → Next ipam row r past number s host fault call
next-back ipam row r past number s host fault call next ready u =
    let e = made_on host call fault in
    let step =
    deletes-on r.course (Refused u.cause) u.later r.command number s host call fault ready.sound next u.left in
    record {
      at =
          undoes-at ipam row r (past ++ e ∷ []) (advance r.course number s e.reply) (host_on host e)
          (moves-back ipam row r past number s host call fault ready.sound next u);
      ready = step.takes.ready (pools_of r) ready;
      apart = step.takes.apart;
    }

-- ---- any call

add-next : (ipam : Option HostLocalConf) (row : Row) (r : Run) (past : List Made) (number : ℕ) (s : State) (host : Host)
    (call : Call) (fault : Bool)
    → IsAdd ipam row r → next_call r.command s ≡ Some call → IsReady (pools_of r) host → AddAt ipam row r past s host
    → Next ipam row r past number s host fault call
unfolding next_call
add-next ipam row r past number AtBegin host call fault add next ready at =
    subst (Next ipam row r past number AtBegin host fault) (same_Some (Begin (own_att r) r.command.netns) call next)
    (next-begin ipam row r past number host fault ready at)
add-next ipam row r past number (Leasing set left given) host call fault add next ready at =
    subst (Next ipam row r past number (Leasing set left given) host fault)
    (same_Some (LeaseNext (own_att r) (length given) set) call next)
    (next-lease ipam row r past number set left given host fault add ready at)
add-next ipam row r past number (AfterLeases x left given) host call fault add next ready at =
    subst (Next ipam row r past number (AfterLeases x left given) host fault) (same_Some x call next)
    (next-forward ipam row r past number x left given host fault add ready at)
add-next ipam row r past number (ReadingCache e) host call fault add next ready at =
    next-back ipam row r past number (ReadingCache e) host fault call next ready at
add-next ipam row r past number (Deleting k ks e) host call fault add next ready at =
    next-back ipam row r past number (Deleting k ks e) host fault call next ready at
add-next ipam row r past number (Over e given) host call fault add next ready at = cc
add-next ipam row r past number _ host call fault add next ready at = absurd at

keeps-adding : (ipam : Option HostLocalConf) (row : Row) (r : Run) → IsAdd ipam row r
    → Keeps r.course r.command (IsAdding ipam row r)
keeps-adding ipam row r add past number s host call fault next was =
    let step = add-next ipam row r past number s host call fault add next was.ready was.at in record {
      at = step.at;
      ready = step.ready;
      apart = λ other differ. step.apart other differ ∙ was.apart other differ;
    }

added : (ipam : Option HostLocalConf) (row : Row) (r : Run) → IsAdd ipam row r
    → IsAdding ipam row r r.entries (end_from AtBegin r) (finish r)
added ipam row r add =
    along r.course r.command r.faulty (IsAdding ipam row r) (keeps-adding ipam row r add) [] 0 AtBegin r.start
    r.entries add.run
    (record { at = refl; ready = add.ready; apart = λ other differ. refl })

-- ---- what it has

begun-granted : (call : Call) (reply : Reply) → is_begun call reply ≡ true → is_granted reply ≡ true
begun-granted (Begin att netns) Done is = refl
begun-granted _ _ is = cc

not-at_once : (past : List Made) (e : Made) → past ≡ e ∷ [] → is_granted e.reply ≡ false → has_begun past ≡ true → ⊥
not-at_once past e are refuses begun =
    both_ways (is_granted e.reply) refuses (begun-granted e.call e.reply (ap has_begun (sym are) ∙ begun))

leased-part : (ipam : Option HostLocalConf) (row : Row) (r : Run) (past : List Made) (done : List RangeSet)
    (given : List Addr) (made left : List Call) (host : Host)
    → IsAdd ipam row r → Goes ipam r past done given made host → r.course.forward ≡ made ++ left
    → IsPartOf (share_of (own_att r) host) (part_of (own_att r) row (leases_in (replies past)))
leased-part ipam row r past done given made left host add goes are =
    subst (λ l. IsPartOf (share_of (own_att r) host) (part_of (own_att r) row l)) (sym goes.leased)
    (goes-part ipam row r past done given made left host add goes are)

at-part : (ipam : Option HostLocalConf) (row : Row) (r : Run) (past : List Made) (s : State) (host : Host)
    → IsAdd ipam row r → AddAt ipam row r past s host → has_begun past ≡ true
    → IsPartOf (share_of (own_att r) host) (part_of (own_att r) row (leases_in (replies past)))
at-part ipam row r past AtBegin host add at begun =
    absurd (let none : false ≡ true = ap has_begun (sym at) ∙ begun in cc)
at-part ipam row r past (Leasing set left given) host add at begun =
    leased-part ipam row r past at.0 given [] r.course.forward host add at.2 refl
at-part ipam row r past (AfterLeases x left given) host add at begun =
    leased-part ipam row r past r.course.sets given at.0 (x ∷ left) host add at.2 at.1
at-part ipam row r past (ReadingCache e) host add at begun = at.part
at-part ipam row r past (Deleting k ks e) host add at begun = at.part
at-part ipam row r past (Over Added given) host add at begun =
    leased-part ipam row r past r.course.sets given r.course.forward [] host add at (sym (append-nil r.course.forward))
at-part ipam row r past (Over e given) host add at begun = elim at [
  | inl once ↦ absurd (not-at_once past once.0 once.1 once.2 begun)
  | inr u ↦ u.part
]
at-part ipam row r past _ host add at begun = absurd at

pub add_makes_parts : EachAddMakesParts
add_makes_parts ipam row r add begun =
    at-part ipam row r r.entries (end_from AtBegin r) (finish r) add (added ipam row r add).at begun

pub added_is_whole : EachAddedIsWhole
added_is_whole ipam row r add given is =
    let att = own_att r in
    let goes : Goes ipam r r.entries r.course.sets given r.course.forward (finish r) =
    subst (λ s. AddAt ipam row r r.entries s (finish r)) is (added ipam row r add).at in (
      goes.begun,
      goes.has
          ∙ ap (share_after_calls (with_leases att given)) add.forward
          ∙ forward-makes att row given add.of_row
          ∙ ap (part_of att row) (sym goes.leased),
    )

refused-no_lease : (reply : Reply) → is_granted reply ≡ false → leases_in (reply ∷ []) ≡ []
refused-no_lease (Leased addr) refuses = cc
refused-no_lease _ refuses = refl

at-unpooled : (ipam : Option HostLocalConf) (row : Row) (r : Run) (past : List Made) (s : State) (host : Host)
    → AddAt ipam row r past s host → ipam ≡ None → leases_in (replies past) ≡ []
at-unpooled ipam row r past AtBegin host at without = ap (λ l. leases_in (replies l)) at
at-unpooled ipam row r past (Leasing set left given) host at without = at.2.leased ∙ at.2.pooled without
at-unpooled ipam row r past (AfterLeases x left given) host at without = at.2.leased ∙ at.2.pooled without
at-unpooled ipam row r past (ReadingCache e) host at without = at.pooled without
at-unpooled ipam row r past (Deleting k ks e) host at without = at.pooled without
at-unpooled ipam row r past (Over Added given) host at without = at.leased ∙ at.pooled without
at-unpooled ipam row r past (Over e given) host at without = elim at [
  | inl once ↦ ap (λ l. leases_in (replies l)) once.1 ∙ refused-no_lease once.0.reply once.2
  | inr u ↦ u.pooled without
]
at-unpooled ipam row r past _ host at without = absurd at

pub unpooled_add_leases_nothing : EachUnpooledAddLeasesNothing
unpooled_add_leases_nothing ipam row r add without =
    at-unpooled ipam row r r.entries (end_from AtBegin r) (finish r) (added ipam row r add).at without

-- ---- where it was refused

at-undone : (ipam : Option HostLocalConf) (row : Row) (r : Run) (past : List Made) (s : State)
    (host : Host) (cause : Cause)
    → IsReady (pools_of r) host → AddAt ipam row r past s host → IsOver s (Refused cause)
    → IsUndone past (share_of (own_att r) host)
unfolding finish_of
at-undone ipam row r past (Over Added given) host cause ready at over = cc
at-undone ipam row r past (Over e given) host cause ready at over = elim at [
  | inl once ↦
      record { past = []; by = once.0; later = []; are = once.1; granted = refl; refuses = once.2; undone = inl refl }
  | inr u ↦ record {
    past = u.before;
    by = u.by;
    later = u.later;
    are = u.are;
    granted = u.granted;
    refuses = u.refuses;
    undone =
        inr (elim u.left [
          | inl none ↦ inl (HasKindsAlone-none (own_att r) host ready.sound none.1)
          | inr fault ↦ inr fault.2
        ]);
  }
]
at-undone ipam row r past (Collecting work faults) host cause ready at over = absurd at
at-undone ipam row r past _ host cause ready at over = cc

pub refused_add_is_undone : EachRefusedAddIsUndone
refused_add_is_undone ipam row r add cause over =
    let was = added ipam row r add in
    at-undone ipam row r r.entries (end_from AtBegin r) (finish r) cause was.ready was.at over

-- ---- the rest

pub add_stays_ready : EachAddStaysReady
add_stays_ready ipam row r add = (added ipam row r add).ready

pub add_leaves_others : EachAddLeavesOthers
add_leaves_others ipam row r add other differ = (added ipam row r add).apart other differ
