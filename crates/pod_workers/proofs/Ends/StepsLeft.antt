-- The steps that are left to a command: as many as the calls of its run, and one for its answer.
use Rattle.pod_workers.proofs.Names.{◌≡◌, ℕ, ◌+◌, ◌-◌, ◌<◌, Bool, true, false, List, [], ◌∷◌, ◌++◌, length, Option}
use Rattle.pod_workers.proofs.Names.{Some, None, Result, Ok, Err, slice_get, refl, sym, ◌∙◌, ap, subst, arith}
use Rattle.pod_workers.proofs.Names.{if◌then◌else◌, slice_get_within, Addr, NoMemory, RangeSet, att_of, Answer}
use Rattle.pod_workers.proofs.Names.{OutOfMemory, Question, turn_by, check_questions, State, AtBegin, BeforeLeases}
use Rattle.pod_workers.proofs.Names.{Leasing, AfterLeases, ReadingCache, Deleting, FindingEntry, Asking, Changing}
use Rattle.pod_workers.proofs.Names.{Collecting, Over, Calls, turn, turn_of_work, gc_of, advance, start_state}
use Rattle.pod_workers.proofs.Names.{state_after, outside_advance, outside_start, outside_after, after_leases, leasing}
use Rattle.pod_workers.proofs.Names.{before_leases, asking, back_of, before_of, Job, Sweep, Work, sets_of, IsAllowed}
use Rattle.pod_workers.proofs.Names.{apply, IsSound, Call, Reply, Fault, Host, IsReplyOf-apply, NetList, Command}
use Rattle.pod_workers.proofs.Names.{share_of}
use Rattle.cni_verbs.specs.{Script.call_of_work, Sweep.{Gc, work_after}}
use Rattle.gc_sweep.proofs.{Collected.{fault-falls, work-falls}, Weights.collection_left}
use Rattle.pod_workers.specs.{CallCounts.{AddsInAtMost, most_calls}, Legal.Legal, Plans.{Placed, commands_of, list_for}}
use Rattle.pod_workers.specs.World.{World, IsReady, IsReadyNumber, answered, done, entry_of, host_of, after_entry}
use Rattle.pod_workers.specs.{World.{next_of, own_replies, reply_to, with_entry}, declared.plan.Next.Next}
use Rattle.pod_workers.specs.declared.plan.StepEnd.{StepEnd}
use Rattle.pod_workers.proofs.Books.{Kept.{outside_from-append, state_from-append}, RoundDone.IsStepped}
use Rattle.pod_workers.proofs.Ends.{CallsLeft.calls_left, Falls.{IsOwnNext, fault-as, falls-advance, replies-as}}
use Rattle.pod_workers.proofs.{Ends.MostCalls.adds_in_most_calls, Hosts.OfPlugins.{LeftAreOfPlugins, LeftIsOutside}}
use Rattle.pod_workers.proofs.Hosts.{OfPlugins.{left-are-of_plugins, left-is-outside}, Replies.StaysTrue}
use Rattle.pod_workers.proofs.Hosts.{Replies.true-advance, Sound.{allowed_next, goes_in, sound_host}}
use Rattle.pod_workers.proofs.Worlds.Histories.{after-append, replies_of-own, slice_get-set_same}
use Rattle.pod_workers.specs.declared.plan.Next.TheVariants as next

-- ---- a GC

abbrev pub IsNoCollection : State → Type 0
IsNoCollection (Collecting work faults) = ⊥
IsNoCollection _ = Unit {0}

-- the most calls that a GC still makes
abbrev pub collecting : State → Host → ℕ
collecting (Collecting work faults) host = collection_left work host
collecting _ host = 0

none-after_leases : (left : List Call) (given : List Addr) → IsNoCollection (after_leases left given)
none-after_leases [] given = tt
none-after_leases (x ∷ xs) given = tt

none-leasing : (list : NetList) (c : Command) (left : List RangeSet) (given : List Addr)
    → IsNoCollection (leasing list c left given)
none-leasing list c [] given = none-after_leases (back_of list c given) given
none-leasing list c (x ∷ xs) given = tt

none-before_leases : (list : NetList) (c : Command) (left : List Call) → IsNoCollection (before_leases list c left)
none-before_leases list c [] = none-leasing list c (sets_of list) []
none-before_leases list c (x ∷ xs) = tt

pub none-asking : (questions : List Question) → IsNoCollection (asking questions)
none-asking [] = tt
none-asking (x ∷ xs) = tt

-- no other run becomes a GC
pub none-stays : (list : NetList) (c : Command) → StaysTrue list c IsNoCollection
none-stays list c = record {
  over = λ ending given. tt;
  caches = λ ending. tt;
  deletes = λ kind left ending. tt;
  begun = λ none. none-before_leases list c (before_of list c);
  before = λ next left none. none-before_leases list c left;
  leased = λ next left given addr none. none-leasing list c left (given ++ addr ∷ []);
  after = λ next left given none. none-after_leases left given;
  finds = λ cached. none-asking (check_questions list c cached);
  asks = λ next left none. none-asking left;
  collects = λ work next faults more none. none;
}

no-work : (s : State) (host : Host) → IsNoCollection s → collecting s host ≡ 0
no-work (Collecting work faults) host none = absurd none
no-work _ host none = refl

-- ---- a run's calls

-- the one change from outside
abbrev pub outside_left : State → ℕ
outside_left (Changing change) = 1
outside_left _ = 0

-- the most calls of a run after these replies
abbrev pub left_of : Option NetList → Command → List Reply → Host → ℕ
left_of None c rs host = outside_left (outside_after c rs)
left_of (Some list) c rs host =
    calls_left (most_calls list c) list c (state_after list c rs) (share_of (att_of c) host)
    + collecting (state_after list c rs) host

-- ---- one entry

own-next : (list : NetList) (c : Command) (s : State) → LeftAreOfPlugins list c s → IsNoCollection s → IsOwnNext c s
own-next list c AtBegin of_plugins none = tt
own-next list c (BeforeLeases next left) of_plugins none = of_plugins.0.0.0
own-next list c (Leasing next left given) of_plugins none = tt
own-next list c (AfterLeases next left given) of_plugins none = of_plugins.0.0
own-next list c (ReadingCache ending) of_plugins none = tt
own-next list c (Deleting next left ending) of_plugins none = tt
own-next list c FindingEntry of_plugins none = tt
own-next list c (Asking next left) of_plugins none = tt
own-next list c (Changing change) of_plugins none = tt
own-next list c (Collecting work faults) of_plugins none = absurd none
own-next list c (Over ending given) of_plugins none = tt

-- a call and what it is replied, in a sound host in which it may be made unless it is a fault
pub record MayGo (host : Host) (call : Call) (faulty : Bool) : Type 0 where
  pub sound : IsSound host
  pub allowed : faulty ≡ false → IsAllowed host call

pub host-made : (host : Host) (n : ℕ) (call : Call)
    → after_entry host (entry_of host n call false) ≡ (apply host call).0
host-made host n call = ap (λ b. if b then host else (apply host call).0) (IsReplyOf-apply host call).no_fault

-- each entry of a run that is no GC's lowers the calls that are left
pub entry-falls : (most : ℕ) (list : NetList) (c : Command) (number n : ℕ) (s : State) (host : Host)
    (call : Call) (faulty : Bool)
    → AddsInAtMost list c most → MayGo host call faulty → LeftAreOfPlugins list c s → IsNoCollection s
    → turn c s ≡ Calls call
    → calls_left most list c (advance list c number s (reply_to host call faulty))
    (share_of (att_of c) (after_entry host (entry_of host n call faulty)))
    < calls_left most list c s (share_of (att_of c) host)
entry-falls most list c number n s host call true in_most may of_plugins none is =
    falls-advance most list c number s Fault (share_of (att_of c) host) (share_of (att_of c) host) in_most
    (fault-as list c s host call (own-next list c s of_plugins none) is)
entry-falls most list c number n s host call false in_most may of_plugins none is =
    subst (λ h.
    calls_left most list c (advance list c number s (apply host call).1) (share_of (att_of c) h)
    < calls_left most list c s (share_of (att_of c) host))
    (sym (host-made host n call))
    (falls-advance most list c number s (apply host call).1 (share_of (att_of c) host)
    (share_of (att_of c) (apply host call).0) in_most
    (replies-as list c s host call may.sound (may.allowed refl) (own-next list c s of_plugins none) is))

-- the calls that are left in a state, a GC's too
abbrev in_state : NetList → Command → State → Host → ℕ
in_state list c s host = calls_left (most_calls list c) list c s (share_of (att_of c) host) + collecting s host

work-calls : (network faults : List ℕ) (js : List Job) (ss : List Sweep) (call : Call)
    → turn_of_work network js ss faults ≡ Calls call → call_of_work network js ss ≡ Some call
work-calls network faults [] [] call is = cc
work-calls network faults [] (s ∷ ss) call is = ap Some cc
work-calls network faults (j ∷ js) ss call is = ap Some cc

collecting-falls : (gc : Gc) (work : Work) (n : ℕ) (host : Host) (call : Call) (faulty : Bool)
    → call_of_work gc.network work.jobs work.sweeps ≡ Some call
    → collection_left (work_after gc work.jobs work.sweeps (reply_to host call faulty))
    (after_entry host (entry_of host n call faulty))
    < collection_left work host
collecting-falls gc work n host call true is = fault-falls gc work.jobs work.sweeps host call is
collecting-falls gc work n host call false is =
    subst (λ k. collection_left (work_after gc work.jobs work.sweeps (apply host call).1) k < collection_left work host)
    (sym (host-made host n call)) (work-falls gc work.jobs work.sweeps host call is)

state-falls : (list : NetList) (c : Command) (number n : ℕ) (s : State) (host : Host) (call : Call) (faulty : Bool)
    → MayGo host call faulty → LeftAreOfPlugins list c s → turn c s ≡ Calls call
    → in_state list c (advance list c number s (reply_to host call faulty))
    (after_entry host (entry_of host n call faulty))
    < in_state list c s host
unfolding advance turn
state-falls list c number n (Collecting work faults) host call faulty may of_plugins is =
    let fall =
    collecting-falls (gc_of list c) work n host call faulty
    (work-calls c.network faults work.jobs work.sweeps call is) in
    omega arith
state-falls list c number n s host call faulty may of_plugins is =
    let r = reply_to host call faulty in
    let fall =
    entry-falls (most_calls list c) list c number n s host call faulty (adds_in_most_calls list c) may of_plugins
    tt is in
    let none =
    no-work (advance list c number s r) (after_entry host (entry_of host n call faulty))
    (true-advance IsNoCollection list c number s r (none-stays list c) tt) in
    omega arith

outside-falls : (number : ℕ) (c : Command) (s : State) (r : Reply) (call : Call) → LeftIsOutside c s
    → turn c s ≡ Calls call → outside_left (outside_advance number s r) < outside_left s
unfolding turn
outside-falls number c (Changing change) r call left is = omega arith
outside-falls number c (Over ending given) r call left is = cc
outside-falls number c _ r call left is = absurd left

left-falls : (list : Option NetList) (c : Command) (rs : List Reply) (n : ℕ) (host : Host) (call : Call) (faulty : Bool)
    → MayGo host call faulty → turn_by list c rs ≡ Calls call
    → left_of list c (rs ++ reply_to host call faulty ∷ []) (after_entry host (entry_of host n call faulty))
    < left_of list c rs host
left-falls None c rs n host call faulty may is =
    let r = reply_to host call faulty in
    subst (λ s. outside_left s < outside_left (outside_after c rs)) (sym (outside_from-append 0 (outside_start c) rs r))
    (outside-falls (0 + length rs + 1) c (outside_after c rs) r call (left-is-outside c rs) is)
left-falls (Some list) c rs n host call faulty may is =
    let r = reply_to host call faulty in
    let k = after_entry host (entry_of host n call faulty) in
    subst (λ s. in_state list c s k < in_state list c (state_after list c rs) host)
    (sym (state_from-append list c 0 (start_state list c) rs r))
    (state-falls list c (0 + length rs + 1) n (state_after list c rs) host call faulty may
    (left-are-of_plugins list c rs) is)

-- ---- a command's steps

abbrev pub steps_left_by : World → ℕ → Option Placed → Option (Option Answer) → ℕ
steps_left_by w n (Some c) (Some None) = 1 + left_of (list_for w.plan c.command) c.command (own_replies w n) (host_of w)
steps_left_by w n _ _ = 0

-- the steps that are left to the command of this number, from 1
abbrev pub steps_left : World → ℕ → ℕ
steps_left w number =
    steps_left_by w (number - 1) (slice_get (commands_of w.plan) (number - 1)) (slice_get w.answers (number - 1))

left-at : (w : World) (n number : ℕ) (c : Option Placed) (o : Option (Option Answer)) → number ≡ n + 1
    → slice_get (commands_of w.plan) n ≡ c → slice_get w.answers n ≡ o → steps_left w number ≡ steps_left_by w n c o
left-at w n number c o is there answer =
    let place : number - 1 ≡ n = omega arith in
    ap (λ k. steps_left_by w k (slice_get (commands_of w.plan) k) (slice_get w.answers k)) place
    ∙ ap (λ x. steps_left_by w n x (slice_get w.answers n)) there
    ∙ ap (steps_left_by w n c) answer

answer-takes : (w : World) (n number : ℕ) (c : Placed) (a : Answer) → IsReady w n c → number ≡ n + 1
    → steps_left (answered w n a) number < steps_left w number
answer-takes w n number c a ready is =
    let before = left-at w n number (Some c) (Some None) is ready.there ready.unanswered in
    let now =
    left-at (answered w n a) n number (Some c) (Some (Some a)) is ready.there
    (slice_get-set_same w.answers n (Some a) (slice_get_within w.answers n None ready.unanswered)) in
    omega arith

call-takes : (w : World) (n number : ℕ) (c : Placed) (call : Call) (faulty : Bool) → Legal w → IsReady w n c
    → number ≡ n + 1 → next_of w c.command (own_replies w n) ≡ next.Call call faulty
    → steps_left (with_entry w (entry_of (host_of w) n call faulty)) number < steps_left w number
call-takes w n number c call faulty legal ready is goes =
    let list = list_for w.plan c.command in
    let rs = own_replies w n in
    let e = entry_of (host_of w) n call faulty in
    let turn_is = (goes_in w n c.command call faulty goes).call_is in
    let may : MayGo (host_of w) call faulty = record {
      sound = sound_host w legal;
      allowed = λ f. allowed_next w n c call legal ready (goes ∙ ap (λ b. next.Call call b) f);
    } in
    let before = left-at w n number (Some c) (Some None) is ready.there ready.unanswered in
    let now = left-at (with_entry w e) n number (Some c) (Some None) is ready.there ready.unanswered in
    let falls = left-falls list c.command rs n (host_of w) call faulty may turn_is in
    let same : left_of list c.command (own_replies (with_entry w e) n) (host_of (with_entry w e))
    ≡ left_of list c.command (rs ++ e.reply ∷ []) (after_entry (host_of w) e) =
    ap (λ x. left_of list c.command x (host_of (with_entry w e))) (replies_of-own n w.history e refl)
    ∙ ap (left_of list c.command (rs ++ e.reply ∷ [])) (after-append w.plan.pods.opening w.history e) in
    omega arith

done-takes : (w : World) (n number : ℕ) (c : Placed) (x : Next) → Legal w → IsReady w n c → number ≡ n + 1
    → next_of w c.command (own_replies w n) ≡ x
    → steps_left (done w n x) number < steps_left w number
done-takes w n number c (next.Answer a) legal ready is goes = answer-takes w n number c a ready is
done-takes w n number c (next.Call call faulty) legal ready is goes =
    call-takes w n number c call faulty legal ready is goes

-- whatever a step of a ready command gives, fewer steps are left to it
pub step_takes : (r : Result StepEnd NoMemory) (v w : World) (number : ℕ) → Legal v → IsReadyNumber v number
    → IsStepped r v w number → steps_left w number < steps_left v number
step_takes (Ok x) v w number legal ready is =
    subst (λ u. steps_left u number < steps_left v number) (sym (is.0 ready.0 ready.1 ready.2 ready.3.there).0)
    (done-takes v ready.0 number ready.1 (next_of v ready.1.command (own_replies v ready.0)) legal ready.3 ready.2 refl)
step_takes (Err x) v w number legal ready is =
    subst (λ u. steps_left u number < steps_left v number) (sym (is.1 ready.0 ready.1 ready.2 ready.3.there))
    (answer-takes v ready.0 number ready.1 OutOfMemory ready.3 ready.2)
