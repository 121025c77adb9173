-- How the leases of an ADD go on, set by set.
use Rattle.session_verbs.proofs.Names.{◌≡◌, ℕ, zero, suc, ◌+◌, true, List, [], ◌∷◌, ◌++◌, length, Some, Result, Ok, Err}
use Rattle.session_verbs.proofs.Names.{inl, inr, refl, sym, ap, subst, ◌∙◌, arith, IfOk, slice_get, append-nil}
use Rattle.session_verbs.proofs.Names.{length-append, none-some, same_Some, Addr, NoMemory, RangeSet, are_apart}
use Rattle.session_verbs.proofs.Names.{ranges_of, IsAllowed, Call, LeaseNext, Reply, Leased, Att, are_after, Command}
use Rattle.session_verbs.proofs.Names.{att_of, State, Leasing, leases_in, next_call, Made, replies}
use Rattle.kernel_types.specs.Allowed.{HasRangesApart}
use Rattle.ip_pool.specs.Pool.{is_apart}
use Rattle.ip_pool.proofs.InOrder.{all_pairs-left, all_pairs-right}
use Rattle.session_verbs.specs.{Adds.{IsMade, LeaseEndsAs, StepEndsAs, Steps, lease_end_by}, Journal.JournalView}
use Rattle.session_verbs.specs.{Journal.{Went, made_next, may_go}, declared.step.StepEnd.StepEnd}
use Rattle.session_laws.specs.{Course.{Course, advance, at_lease, leasing}, Pools.{IsReady, Pools}}
use Rattle.session_verbs.specs.declared.step.StepEnd.TheVariants as steps
use Rattle.session_verbs.proofs.Adds.AddSteps.{steps-then, IsShort, steps-short, steps-unmade, count-made, same-went}
use Rattle.session_verbs.proofs.Going.{went-one, ready-made}
use Rattle.session_laws.proofs.Courses.Ready.{lease-allowed, ready-lease}

-- ---- a lease

by-lease : (co : Course) (c : Command) (es : List Made) (old new : JournalView) (s : State) (left : List RangeSet)
    (before after : List Addr) (number made : ℕ) (r : Reply) (end : StepEnd) → number ≡ made
    → end ≡ lease_end_by (length before) made r → after ≡ before ++ leases_in (r ∷ [])
    → Went co c es old new s (at_lease co number left before r)
    → StepEndsAs co c es old new s (leasing co left after) (Ok end)
by-lease co c es old new s left before after number made (Leased addr) end count is given went =
    subst (λ (e : StepEnd). StepEndsAs co c es old new s (leasing co left after) (Ok e)) (sym is)
    (subst (λ (l : List Addr). Went co c es old new s (leasing co left l)) (sym given) went)
by-lease co c es old new s left before after number made r end count is given went =
    subst (λ (e : StepEnd). StepEndsAs co c es old new s (leasing co left after) (Ok e)) (sym is)
    (subst (λ (n : ℕ). Went co c es old new s (at_lease co n left before r)) count went)

went-lease : (co : Course) (c : Command) (att : Att) (set : RangeSet) (left : List RangeSet) (before : List Addr)
    (old new : JournalView) → att_of c ≡ att → IsMade (LeaseNext att (length before) set) old new
    → Went co c (made_next old (LeaseNext att (length before) set) ∷ []) old new (Leasing set left before)
    (at_lease co (old.made + 1) left before (made_next old (LeaseNext att (length before) set)).reply)
unfolding next_call advance
went-lease co c att set left before old new is made =
    went-one co c (LeaseNext att (length before) set) old new (Leasing set left before)
    (ap (λ (a : Att). Some (LeaseNext a (length before) set)) is) made

lease-made : (co : Course) (c : Command) (att : Att) (set : RangeSet) (left : List RangeSet) (before after : List Addr)
    (old new : JournalView) (end : StepEnd) → att_of c ≡ att → IsMade (LeaseNext att (length before) set) old new
    → end ≡ lease_end_by (length before) new.made (made_next old (LeaseNext att (length before) set)).reply
    → after ≡ before ++ leases_in ((made_next old (LeaseNext att (length before) set)).reply ∷ [])
    → Steps co c old new (Leasing set left before) (leasing co left after) before after (Ok end)
lease-made co c att set left before after old new end own made is given =
    let call = LeaseNext att (length before) set in
    record {
      entries = made_next old call ∷ [];
      ends =
          by-lease co c (made_next old call ∷ []) old new (Leasing set left before) left before after
          (old.made + 1) new.made
          (made_next old call).reply end (count-made call old new made) is given
          (went-lease co c att set left before old new own made);
      leased = given;
    }

lease-none : (before after : List Addr) → after ≡ before → after ≡ before ++ leases_in (replies [])
lease-none before after same = same ∙ sym (append-nil before)

pub lease-step : (co : Course) (c : Command) (att : Att) (set : RangeSet) (left : List RangeSet)
    (before after : List Addr)
    (old new : JournalView) (result : Result StepEnd NoMemory) → att_of c ≡ att
    → LeaseEndsAs att set old new before after result
    → Steps co c old new (Leasing set left before) (leasing co left after) before after result
lease-step co c att set left before after old new (Ok steps.Granted) own ends =
    lease-made co c att set left before after old new steps.Granted own ends.0 ends.1 ends.2
lease-step co c att set left before after old new (Ok (steps.Refused cause)) own ends =
    lease-made co c att set left before after old new (steps.Refused cause) own ends.0 ends.1 ends.2
lease-step co c att set left before after old new (Ok steps.Stopped) own ends = record {
  entries = [];
  ends = (
    Leasing set left before,
    same-went co c old new (Leasing set left before) ends.0,
    (tt, ap may_go ends.0 ∙ ends.1),
  );
  leased = lease-none before after ends.2;
}
lease-step co c att set left before after old new (Err e) own ends = elim ends [
  | inl same ↦ record {
    entries = [];
    ends = (Leasing set left before, same-went co c old new (Leasing set left before) same.0);
    leased = lease-none before after same.1;
  }
  | inr made ↦ record {
    entries = made_next old (LeaseNext att (length before) set) ∷ [];
    ends = (
      at_lease co (old.made + 1) left before (made_next old (LeaseNext att (length before) set)).reply,
      went-lease co c att set left before old new own made.0,
    );
    leased = made.1;
  }
]

-- a lease that is granted gives one address
one-leased : (set number : ℕ) (r : Reply) → steps.Granted ≡ lease_end_by set number r → length (leases_in (r ∷ [])) ≡ 1
one-leased set number (Leased addr) is = refl
one-leased set number _ is = absurd cc

pub lease-count : (att : Att) (set : RangeSet) (before after : List Addr) (old new : JournalView)
    → LeaseEndsAs att set old new before after (Ok steps.Granted) → length after ≡ length before + 1
lease-count att set before after old new ends =
    let reply = (made_next old (LeaseNext att (length before) set)).reply in
    let one = one-leased (length before) new.made reply ends.1 in
    let both = length-append before (leases_in (reply ∷ [])) in
    ap length ends.2 ∙ omega arith

pub lease-keeps_ready : (pools : Pools) (att : Att) (set : RangeSet) (before after : List Addr) (old new : JournalView)
    (result : Result StepEnd NoMemory) → LeaseEndsAs att set old new before after result → att.network ≡ pools.network
    → slice_get pools.sets (length before) ≡ Some set → HasRangesApart set → IsReady pools old.host
    → IsReady pools new.host
lease-keeps_ready pools att set before after old new result ends network at apart ready =
    let call = LeaseNext att (length before) set in
    let stays : new ≡ old → IsReady pools new.host =
    λ (same : new ≡ old). let P : JournalView → Type 0 = λ j. IsReady pools j.host in subst P (sym same) ready in
    let leased : IsMade call old new → IsReady pools new.host =
    λ (made : IsMade call old new).
    ready-made pools old new call made
    (ready-lease pools old.host att (length before) set (are_after old.made old.faults) network at
    apart ready) in
    by_end result ends stays leased
  where
    by_end : (r : Result StepEnd NoMemory) → LeaseEndsAs att set old new before after r
        → (new ≡ old → IsReady pools new.host)
        → (IsMade (LeaseNext att (length before) set) old new → IsReady pools new.host) → IsReady pools new.host
    by_end (Ok steps.Granted) e stays leased = leased e.0
    by_end (Ok (steps.Refused cause)) e stays leased = leased e.0
    by_end (Ok steps.Stopped) e stays leased = stays e.0
    by_end (Err x) e stays leased = elim e [ inl same ↦ stays same.0 | inr made ↦ leased made.0 ]

unstopped : (set number : ℕ) (r : Reply) → steps.Stopped ≡ lease_end_by set number r → ⊥
unstopped set number (Leased addr) is = cc
unstopped set number _ is = cc

-- how a lease ends that was made
pub lease-ends : (att : Att) (set : RangeSet) (old new : JournalView) (before after : List Addr) (call : Call)
    (number made : ℕ) (reply : Reply) (result : Result StepEnd NoMemory)
    → call ≡ LeaseNext att (length before) set → number ≡ length before → made ≡ new.made → IsMade call old new
    → (made_next old call).reply ≡ reply → IfOk result (λ end. end ≡ lease_end_by number made reply)
    → after ≡ before ++ leases_in (reply ∷ []) → LeaseEndsAs att set old new before after result
lease-ends att set old new before after call number made reply result is place count was told ok given =
    let own = LeaseNext att (length before) set in
    let own_made : IsMade own old new = subst (λ (k : Call). IsMade k old new) is was in
    let replied : reply ≡ (made_next old own).reply = sym told ∙ ap (λ (k : Call). (made_next old k).reply) is in
    let leased : after ≡ before ++ leases_in ((made_next old own).reply ∷ []) =
    given ∙ ap (λ (r : Reply). before ++ leases_in (r ∷ [])) replied in
    by_result result own_made replied leased ok
  where
    same_end : lease_end_by number made reply ≡ lease_end_by (length before) new.made reply
    same_end =
        ap (λ (n : ℕ). lease_end_by n made reply) place ∙ ap (λ (m : ℕ). lease_end_by (length before) m reply) count

    by_result : (r : Result StepEnd NoMemory) → IsMade (LeaseNext att (length before) set) old new
        → reply ≡ (made_next old (LeaseNext att (length before) set)).reply
        → after ≡ before ++ leases_in ((made_next old (LeaseNext att (length before) set)).reply ∷ [])
        → IfOk r (λ end. end ≡ lease_end_by number made reply) → LeaseEndsAs att set old new before after r
    by_result (Ok steps.Stopped) own_made replied leased ok = absurd (unstopped number made reply ok)
    by_result (Ok steps.Granted) own_made replied leased ok =
        (own_made, ok ∙ same_end ∙ ap (lease_end_by (length before) new.made) replied, leased)
    by_result (Ok (steps.Refused cause)) own_made replied leased ok =
        (own_made, ok ∙ same_end ∙ ap (lease_end_by (length before) new.made) replied, leased)
    by_result (Err e) own_made replied leased ok = inr (own_made, leased)

-- ---- the leases so far

-- the first sets were leased from, one address each, and these are left
pub record LeasesFirst (att : Att) (sets left : List RangeSet) (given : List Addr)
    (old new : JournalView) : Type 0 where
  pub went : (co : Course) (c : Command) → att_of c ≡ att
      → Steps co c old new (leasing co sets []) (leasing co left given) [] given (Ok steps.Granted)
  pub ready : IsReady (record { network = att.network; sets = sets }) new.host

pub leases-more : (att : Att) (sets left : List RangeSet) (set : RangeSet) (before after : List Addr)
    (old mid new : JournalView)
    → LeasesFirst att sets (set ∷ left) before old mid → slice_get sets (length before) ≡ Some set → HasRangesApart set
    → LeaseEndsAs att set mid new before after (Ok steps.Granted) → LeasesFirst att sets left after old new
leases-more att sets left set before after old mid new first at apart ends = record {
  went = λ co c own.
      steps-then (leasing co left after) (Ok steps.Granted) (first.went co c own)
      (lease-step co c att set left before after mid new (Ok steps.Granted) own ends);
  ready =
      lease-keeps_ready (record { network = att.network; sets = sets }) att set before after mid new (Ok steps.Granted)
      ends refl at apart first.ready;
}

-- the leases end with this one
pub leases-end : (att : Att) (sets left : List RangeSet) (set : RangeSet) (before after : List Addr)
    (old mid new : JournalView)
    (end : StepEnd) → LeasesFirst att sets (set ∷ left) before old mid → IsShort end
    → LeaseEndsAs att set mid new before after (Ok end) → (co : Course) (c : Command) → att_of c ≡ att
    → Steps co c old new (leasing co sets []) (leasing co [] after) [] after (Ok end)
leases-end att sets left set before after old mid new end first short ends co c own =
    steps-short (leasing co left after) (leasing co [] after) end short
    (steps-then (leasing co left after) (Ok end) (first.went co c own)
    (lease-step co c att set left before after mid new (Ok end) own ends))

pub leases-refused : (att : Att) (sets left : List RangeSet) (set : RangeSet) (before after : List Addr)
    (old mid new : JournalView)
    (result : Result StepEnd NoMemory) (e : NoMemory) → LeasesFirst att sets (set ∷ left) before old mid
    → result ≡ Err e
    → LeaseEndsAs att set mid new before after (Err e) → (co : Course) (c : Command) → att_of c ≡ att
    → Steps co c old new (leasing co sets []) (leasing co [] after) [] after result
leases-refused att sets left set before after old mid new result e first is ends co c own =
    let P : Result StepEnd NoMemory → Type 0 = λ r.
    Steps co c old new (leasing co sets []) (leasing co [] after) [] after r in
    subst P (sym is) (steps-unmade (leasing co left after) (leasing co [] after) e e
    (steps-then (leasing co left after) (Err e) (first.went co c own)
    (lease-step co c att set left before after mid new (Err e) own ends)))

pub leases-ready : (att : Att) (sets left : List RangeSet) (set : RangeSet) (before after : List Addr)
    (old mid new : JournalView)
    (result : Result StepEnd NoMemory) → LeasesFirst att sets (set ∷ left) before old mid
    → slice_get sets (length before) ≡ Some set → HasRangesApart set → LeaseEndsAs att set mid new before after result
    → IsReady (record { network = att.network; sets = sets }) new.host
leases-ready att sets left set before after old mid new result first at apart ends =
    lease-keeps_ready (record { network = att.network; sets = sets }) att set before after mid new result ends refl at
    apart first.ready

-- the lease of the next set may be made
pub leases-allowed : (att : Att) (sets left : List RangeSet) (set : RangeSet) (given : List Addr)
    (old mid : JournalView)
    → LeasesFirst att sets left given old mid → slice_get sets (length given) ≡ Some set → HasRangesApart set
    → IsAllowed mid.host (LeaseNext att (length given) set)
leases-allowed att sets left set given old mid first at apart =
    lease-allowed (record { network = att.network; sets = sets }) mid.host att (length given) set at apart first.ready

-- the ranges of one of the sets share no address
pub set-apart : (sets : List RangeSet) (i : ℕ) (set : RangeSet) → are_apart (ranges_of sets) ≡ true
    → slice_get sets i ≡ Some set → HasRangesApart set
set-apart [] i set apart at = absurd (none-some set at)
set-apart (first ∷ sets) zero set apart at =
    subst HasRangesApart (same_Some first set at) (all_pairs-left is_apart first.ranges (ranges_of sets) apart)
set-apart (first ∷ sets) (suc i) set apart at =
    set-apart sets i set (all_pairs-right is_apart first.ranges (ranges_of sets) apart) at

pub leases-at : (att : Att) (sets left next : List RangeSet) (set : RangeSet) (given : List Addr)
    (old mid : JournalView)
    → LeasesFirst att sets left given old mid → left ≡ set ∷ next → LeasesFirst att sets (set ∷ next) given old mid
leases-at att sets left next set given old mid first at =
    let P : List RangeSet → Type 0 = λ l. LeasesFirst att sets l given old mid in subst P at first

pub leases-done : (att : Att) (sets left : List RangeSet) (given : List Addr) (old mid : JournalView)
    → LeasesFirst att sets left given old mid → left ≡ [] → (co : Course) (c : Command) → att_of c ≡ att
    → Steps co c old mid (leasing co sets []) (leasing co [] given) [] given (Ok steps.Granted)
leases-done att sets left given old mid first none =
    let P : List RangeSet → Type 0 = λ l. LeasesFirst att sets l given old mid in (subst P none first).went
