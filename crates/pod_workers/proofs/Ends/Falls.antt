-- Each reply lowers the calls that are left to a run.
use Rattle.pod_workers.proofs.Names.{◌≡◌, ℕ, ◌+◌, ◌<◌, ◌≤◌, Bool, true, false, List, [], ◌∷◌, ◌++◌, length, Option}
use Rattle.pod_workers.proofs.Names.{Some, None, refl, sym, ◌∙◌, ap, subst, inl, inr, ◌⊎◌, arith, option_map, same_Some}
use Rattle.pod_workers.proofs.Names.{find, filter, Addr, RangeSet, Cached, IsAllowed, apply, IsSound, is_own, Call}
use Rattle.pod_workers.proofs.Names.{Begin, LeaseNext, CacheGet, Kind, Reply, Done, Leased, Gone, Has, Entry, Fault}
use Rattle.pod_workers.proofs.Names.{CachedObj, Host, NetList, Command, is_plugin_call_of, Share, share_of, att_of}
use Rattle.pod_workers.proofs.Names.{Ending, Question, check_questions, State, AtBegin, BeforeLeases, Leasing}
use Rattle.pod_workers.proofs.Names.{AfterLeases, ReadingCache, Deleting, FindingEntry, Asking, Changing, Collecting}
use Rattle.pod_workers.proofs.Names.{Over, Calls, turn, advance, at_begin, at_cache, at_call_after, at_call_before}
use Rattle.pod_workers.proofs.Names.{at_deletion, at_entry, at_lease, at_question, after_leases, leasing, before_leases}
use Rattle.pod_workers.proofs.Names.{deleting, asking, checking, back_of, before_of, deletion, kinds_of, sets_of}
use Rattle.pod_workers.proofs.Names.{deletions_of}
use Rattle.net_conf.specs.Sets.{one_if}
use Rattle.gc_sweep.proofs.Deletable.{begin-none, call-more, deletion-falls, lease-more}
use Rattle.pod_workers.specs.CallCounts.{AddsInAtMost}
use Rattle.pod_workers.proofs.Ends.{CallsLeft.{calls_left, making, most_after, questions_by}, MostCalls.back-within}
use Rattle.pod_workers.proofs.{Ends.MostCalls.most-splits, Lists.Elements.{find-first, first_of}}

-- ---- where work is left

left-after_leases : (most : ℕ) (list : NetList) (c : Command) (left : List Call) (given : List Addr) (s : Share)
    → calls_left most list c (after_leases left given) s ≤ making (length left) list s
left-after_leases most list c [] given s = omega arith
left-after_leases most list c (x ∷ xs) given s = omega arith

left-leasing : (most : ℕ) (list : NetList) (c : Command) (left : List RangeSet) (given : List Addr) (s : Share)
    → AddsInAtMost list c most
    → calls_left most list c (leasing list c left given) s ≤ making (length left + most_after most list c) list s
left-leasing most list c [] given s in_most =
    let rest = left-after_leases most list c (back_of list c given) given s in
    let few = back-within most list c given in_most in
    omega arith
left-leasing most list c (x ∷ xs) given s in_most = omega arith

left-before_leases : (most : ℕ) (list : NetList) (c : Command) (left : List Call) (s : Share) → AddsInAtMost list c most
    → calls_left most list c (before_leases list c left) s
    ≤ making (length left + length (sets_of list) + most_after most list c) list s
left-before_leases most list c [] s in_most =
    let rest = left-leasing most list c (sets_of list) [] s in_most in omega arith
left-before_leases most list c (x ∷ xs) s in_most = omega arith

left-deleting : (most : ℕ) (list : NetList) (c : Command) (kinds : List Kind) (ending : Ending) (s : Share)
    → calls_left most list c (deleting kinds ending) s ≤ length kinds + deletions_of s
left-deleting most list c [] ending s = omega arith
left-deleting most list c (k ∷ ks) ending s = omega arith

pub left-asking : (most : ℕ) (list : NetList) (c : Command) (questions : List Question) (s : Share)
    → calls_left most list c (asking questions) s ≤ length questions
left-asking most list c [] s = omega arith
left-asking most list c (q ∷ qs) s = omega arith

-- ---- what a reply makes of the objects

abbrev OneMore : Share → Share → Type 0
OneMore old new = deletions_of new ≤ deletions_of old + 1

-- a deletion was a fault and left the share, or says whether an object went
abbrev IsDeletion : Reply → Share → Share → Type 0
IsDeletion r old new =
    ((r ≡ Fault) × (deletions_of new ≤ deletions_of old))
    ⊎ ((gone : Bool) × (r ≡ Gone gone) × (deletions_of new + one_if gone ≤ deletions_of old))

-- the cached result was a fault, or is the share's
abbrev IsEntry : NetList → Command → Reply → Share → Type 0
IsEntry list c r old =
    (r ≡ Fault)
    ⊎ ((o : Option Cached) × (r ≡ Entry o)
    × ((cached : Cached) → o ≡ Some cached
    → length (check_questions list c cached) ≤ questions_by list c old.cached))

abbrev pub IsReplyIn : NetList → Command → State → Reply → Share → Share → Type 0
IsReplyIn list c AtBegin r old new = r ≡ Done → deletions_of new ≡ 0
IsReplyIn list c (BeforeLeases next left) r old new = OneMore old new
IsReplyIn list c (Leasing next left given) r old new = OneMore old new
IsReplyIn list c (AfterLeases next left given) r old new = OneMore old new
IsReplyIn list c (ReadingCache ending) r old new = deletions_of new ≤ deletions_of old
IsReplyIn list c (Deleting next left ending) r old new = IsDeletion r old new
IsReplyIn list c FindingEntry r old new = IsEntry list c r old
IsReplyIn list c (Asking next left) r old new = Unit {0}
IsReplyIn list c (Changing change) r old new = Unit {0}
IsReplyIn list c (Collecting work faults) r old new = ⊥
IsReplyIn list c (Over ending given) r old new = ⊥

-- ---- each state

abbrev Falls : ℕ → NetList → Command → State → State → Share → Share → Type 0
Falls most list c st next old new = calls_left most list c next new < calls_left most list c st old

falls-at_begin : (most : ℕ) (list : NetList) (c : Command) (number : ℕ) (r : Reply) (old new : Share)
    → AddsInAtMost list c most → (r ≡ Done → deletions_of new ≡ 0)
    → Falls most list c AtBegin (at_begin list c number r) old new
falls-at_begin most list c number Done old new in_most none =
    let rest = left-before_leases most list c (before_of list c) new in_most in
    let split = most-splits most list c in_most in
    let empty = none refl in
    omega arith
falls-at_begin most list c number _ old new in_most none = omega arith

falls-at_call_before : (most : ℕ) (list : NetList) (c : Command) (number : ℕ) (next : Call) (left : List Call)
    (r : Reply) (old new : Share)
    → AddsInAtMost list c most → OneMore old new
    → Falls most list c (BeforeLeases next left) (at_call_before list c number left r) old new
falls-at_call_before most list c number next left Done old new in_most more =
    let rest = left-before_leases most list c left new in_most in omega arith
falls-at_call_before most list c number next left _ old new in_most more = omega arith

falls-at_lease : (most : ℕ) (list : NetList) (c : Command) (number : ℕ) (next : RangeSet) (left : List RangeSet)
    (given : List Addr) (r : Reply) (old new : Share)
    → AddsInAtMost list c most → OneMore old new
    → Falls most list c (Leasing next left given) (at_lease list c number left given r) old new
falls-at_lease most list c number next left given (Leased addr) old new in_most more =
    let rest = left-leasing most list c left (given ++ addr ∷ []) new in_most in omega arith
falls-at_lease most list c number next left given _ old new in_most more = omega arith

falls-at_call_after : (most : ℕ) (list : NetList) (c : Command) (number : ℕ) (next : Call) (left : List Call)
    (given : List Addr) (r : Reply) (old new : Share)
    → OneMore old new
    → Falls most list c (AfterLeases next left given) (at_call_after number left given r) old new
falls-at_call_after most list c number next left given Done old new more =
    let rest = left-after_leases most list c left given new in omega arith
falls-at_call_after most list c number next left given _ old new more = omega arith

falls-at_cache : (most : ℕ) (list : NetList) (c : Command) (number : ℕ) (ending : Ending) (r : Reply) (old new : Share)
    → deletions_of new ≤ deletions_of old
    → Falls most list c (ReadingCache ending) (at_cache list number ending r) old new
falls-at_cache most list c number ending Fault old new less = omega arith
falls-at_cache most list c number ending _ old new less =
    let rest = left-deleting most list c (kinds_of list) ending new in omega arith

falls-gone : (most : ℕ) (list : NetList) (c : Command) (number : ℕ) (kind : Kind) (left : List Kind) (ending : Ending)
    (gone : Bool) (old new : Share)
    → deletions_of new + one_if gone ≤ deletions_of old
    → Falls most list c (Deleting kind left ending) (at_deletion number kind left ending (Gone gone)) old new
falls-gone most list c number kind left ending true old new less = omega arith
falls-gone most list c number kind left ending false old new less =
    let rest = left-deleting most list c left ending new in omega arith

falls-at_deletion : (most : ℕ) (list : NetList) (c : Command) (number : ℕ) (kind : Kind) (left : List Kind)
    (ending : Ending) (r : Reply) (old new : Share)
    → IsDeletion r old new
    → Falls most list c (Deleting kind left ending) (at_deletion number kind left ending r) old new
falls-at_deletion most list c number kind left ending r old new is = elim is [
  | inl fault ↦
      subst (λ x. Falls most list c (Deleting kind left ending) (at_deletion number kind left ending x) old new)
      (sym fault.0) (omega arith)
  | inr gone ↦
      subst (λ x. Falls most list c (Deleting kind left ending) (at_deletion number kind left ending x) old new)
      (sym gone.1) (falls-gone most list c number kind left ending gone.0 old new gone.2)
]

falls-checking : (most : ℕ) (list : NetList) (c : Command) (o : Option Cached) (old new : Share)
    → ((cached : Cached) → o ≡ Some cached → length (check_questions list c cached) ≤ questions_by list c old.cached)
    → Falls most list c FindingEntry (checking list c o) old new
falls-checking most list c None old new few = omega arith
falls-checking most list c (Some cached) old new few =
    let rest = left-asking most list c (check_questions list c cached) new in let here = few cached refl in omega arith

falls-at_entry : (most : ℕ) (list : NetList) (c : Command) (number : ℕ) (r : Reply) (old new : Share)
    → IsEntry list c r old → Falls most list c FindingEntry (at_entry list c number r) old new
falls-at_entry most list c number r old new is = elim is [
  | inl fault ↦ subst (λ x. Falls most list c FindingEntry (at_entry list c number x) old new) (sym fault) (omega arith)
  | inr entry ↦
      subst (λ x. Falls most list c FindingEntry (at_entry list c number x) old new) (sym entry.1)
      (falls-checking most list c entry.0 old new entry.2)
]

falls-has : (most : ℕ) (list : NetList) (c : Command) (number : ℕ) (question : Question) (left : List Question)
    (has : Bool) (old new : Share)
    → Falls most list c (Asking question left) (at_question number question left (Has has)) old new
falls-has most list c number question left true old new = let rest = left-asking most list c left new in omega arith
falls-has most list c number question left false old new = omega arith

falls-at_question : (most : ℕ) (list : NetList) (c : Command) (number : ℕ) (question : Question) (left : List Question)
    (r : Reply) (old new : Share)
    → Falls most list c (Asking question left) (at_question number question left r) old new
falls-at_question most list c number question left (Has has) old new =
    falls-has most list c number question left has old new
falls-at_question most list c number question left _ old new = omega arith

-- whatever is replied, fewer calls are left
pub falls-advance : (most : ℕ) (list : NetList) (c : Command) (number : ℕ) (st : State) (r : Reply) (old new : Share)
    → AddsInAtMost list c most → IsReplyIn list c st r old new
    → Falls most list c st (advance list c number st r) old new
unfolding advance
falls-advance most list c number AtBegin r old new in_most is = falls-at_begin most list c number r old new in_most is
falls-advance most list c number (BeforeLeases next left) r old new in_most is =
    falls-at_call_before most list c number next left r old new in_most is
falls-advance most list c number (Leasing next left given) r old new in_most is =
    falls-at_lease most list c number next left given r old new in_most is
falls-advance most list c number (AfterLeases next left given) r old new in_most is =
    falls-at_call_after most list c number next left given r old new is
falls-advance most list c number (ReadingCache ending) r old new in_most is =
    falls-at_cache most list c number ending r old new is
falls-advance most list c number (Deleting next left ending) r old new in_most is =
    falls-at_deletion most list c number next left ending r old new is
falls-advance most list c number FindingEntry r old new in_most is = falls-at_entry most list c number r old new is
falls-advance most list c number (Asking next left) r old new in_most is =
    falls-at_question most list c number next left r old new
falls-advance most list c number (Changing change) r old new in_most is = omega arith
falls-advance most list c number (Collecting work faults) r old new in_most is = absurd is
falls-advance most list c number (Over ending given) r old new in_most is = absurd is

-- ---- the kernel's reply

-- the call of a state that makes objects is one of the plugins'
abbrev pub IsOwnNext : Command → State → Type 0
IsOwnNext c AtBegin = Unit {0}
IsOwnNext c (BeforeLeases next left) = is_plugin_call_of (att_of c) next ≡ true
IsOwnNext c (Leasing next left given) = Unit {0}
IsOwnNext c (AfterLeases next left given) = is_plugin_call_of (att_of c) next ≡ true
IsOwnNext c (ReadingCache ending) = Unit {0}
IsOwnNext c (Deleting next left ending) = Unit {0}
IsOwnNext c FindingEntry = Unit {0}
IsOwnNext c (Asking next left) = Unit {0}
IsOwnNext c (Changing change) = Unit {0}
IsOwnNext c (Collecting work faults) = ⊥
IsOwnNext c (Over ending given) = Unit {0}

-- the kernel's reply to this call
abbrev Replies : NetList → Command → State → Host → Call → Type 0
Replies list c st host call =
    IsReplyIn list c st (apply host call).1 (share_of (att_of c) host) (share_of (att_of c) (apply host call).0)

reply-begin : (list : NetList) (c : Command) (host : Host) → Replies list c AtBegin host (Begin (att_of c) c.netns)
reply-begin list c host = λ done. begin-none (att_of c) host c.netns done

first-asks : (xs : List CachedObj) (list : NetList) (c : Command) (cached : Cached)
    → option_map (λ (x : CachedObj). x.cached) (first_of xs) ≡ Some cached
    → length (check_questions list c cached) ≤ questions_by list c xs
first-asks [] list c cached is = cc
first-asks (x ∷ xs) list c cached is =
    let e = ap (λ k. length (check_questions list c k)) (same_Some x.cached cached is) in omega arith

found-filter : (own : CachedObj → Bool) (xs : List CachedObj) (list : NetList) (c : Command) (cached : Cached)
    → option_map (λ (x : CachedObj). x.cached) (find own xs) ≡ Some cached
    → length (check_questions list c cached) ≤ questions_by list c (filter own xs)
found-filter own xs list c cached is =
    first-asks (filter own xs) list c cached
    (ap (option_map (λ (x : CachedObj). x.cached)) (sym (find-first own xs)) ∙ is)

pub replies-as : (list : NetList) (c : Command) (st : State) (host : Host) (call : Call) → IsSound host
    → IsAllowed host call → IsOwnNext c st → turn c st ≡ Calls call → Replies list c st host call
unfolding turn
replies-as list c AtBegin host call sound allowed own is =
    subst (Replies list c AtBegin host) (let e : Begin (att_of c) c.netns ≡ call = cc in e) (reply-begin list c host)
replies-as list c (BeforeLeases next left) host call sound allowed own is =
    let e : next ≡ call = cc in
    call-more (att_of c) host call (subst (λ x. is_plugin_call_of (att_of c) x ≡ true) e own) allowed
replies-as list c (Leasing next left given) host call sound allowed own is =
    subst (Replies list c (Leasing next left given) host)
    (let e : LeaseNext (att_of c) (length given) next ≡ call = cc in e)
    (lease-more (att_of c) host (length given) next)
replies-as list c (AfterLeases next left given) host call sound allowed own is =
    let e : next ≡ call = cc in
    call-more (att_of c) host call (subst (λ x. is_plugin_call_of (att_of c) x ≡ true) e own) allowed
replies-as list c (ReadingCache ending) host call sound allowed own is =
    subst (Replies list c (ReadingCache ending) host) (let e : CacheGet (att_of c) ≡ call = cc in e) (omega arith)
replies-as list c (Deleting next left ending) host call sound allowed own is =
    subst (Replies list c (Deleting next left ending) host) (let e : deletion (att_of c) next ≡ call = cc in e)
    (let f = deletion-falls (att_of c) next host sound in inr (f.gone, f.reply, f.fewer))
replies-as list c FindingEntry host call sound allowed own is =
    subst (Replies list c FindingEntry host) (let e : CacheGet (att_of c) ≡ call = cc in e)
    (inr (_, refl, λ cached found. found-filter (λ x. is_own (att_of c) x.tag) host.cached list c cached found))
replies-as list c (Asking next left) host call sound allowed own is = tt
replies-as list c (Changing change) host call sound allowed own is = tt
replies-as list c (Collecting work faults) host call sound allowed own is = absurd own
replies-as list c (Over ending given) host call sound allowed own is = cc

-- a fault, which leaves the host
pub fault-as : (list : NetList) (c : Command) (st : State) (host : Host) (call : Call) → IsOwnNext c st
    → turn c st ≡ Calls call → IsReplyIn list c st Fault (share_of (att_of c) host) (share_of (att_of c) host)
unfolding turn
fault-as list c AtBegin host call own is = λ done. cc
fault-as list c (BeforeLeases next left) host call own is = omega arith
fault-as list c (Leasing next left given) host call own is = omega arith
fault-as list c (AfterLeases next left given) host call own is = omega arith
fault-as list c (ReadingCache ending) host call own is = omega arith
fault-as list c (Deleting next left ending) host call own is = inl (refl, omega arith)
fault-as list c FindingEntry host call own is = inl refl
fault-as list c (Asking next left) host call own is = tt
fault-as list c (Changing change) host call own is = tt
fault-as list c (Collecting work faults) host call own is = absurd own
fault-as list c (Over ending given) host call own is = cc
