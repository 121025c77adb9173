-- An ADD without pools leases nothing.
use Rattle.session_laws.proofs.Names.{◌≡◌, ℕ, Bool, true, false, not, List, [], ◌∷◌, Some, refl, sym, ap, ◌∙◌}
use Rattle.session_laws.proofs.Names.{and_parts, not-true, same_Some, list_all, Addr, att_of, Ending, reply_to, State}
use Rattle.session_laws.proofs.Names.{AtBegin, AfterLeases, ReadingCache, Deleting, Over, after_leases, at_call_after}
use Rattle.session_laws.proofs.Names.{at_deletion, deleting, leases_in, next_call, Made, replies, Call, Begin, CacheGet}
use Rattle.session_laws.proofs.Names.{Kind, Reply, Done, Fault, Gone, Leased, Att, Host, deletion, Command}
use Rattle.kernel_types.specs.declared.call.Kind.TheVariants as kinds
use Rattle.session_laws.specs.{Course.{Course, advance, at_begin, at_cache, leasing}, Laws.{BeginsAt, Run}}
use Rattle.session_laws.specs.LawsOfAnswers.{LeasesBySetsAlone, asks_for_lease}
use Rattle.session_laws.proofs.{Answers.Leased.{is_lease, none-reply}, Courses.{Ready.made_on, Runs.{Keeps, along}}}
use Rattle.session_laws.proofs.Courses.Runs.{leases-same}

abbrev leases_none : List Call → Bool
leases_none calls = list_all (λ call. not (asks_for_lease call)) calls

-- neither the next call nor one after it asks for a lease
abbrev Unleasing : State → Bool
Unleasing AtBegin = true
Unleasing (AfterLeases next left given) = leases_none (next ∷ left)
Unleasing (ReadingCache ending) = true
Unleasing (Deleting next left ending) = true
Unleasing (Over ending given) = true
Unleasing s = false

-- ---- the next call

deletion-no_lease : (att : Att) (kind : Kind) → asks_for_lease (deletion att kind) ≡ false
deletion-no_lease att kinds.Links = refl
deletion-no_lease att kinds.Rules = refl
deletion-no_lease att kinds.Settings = refl
deletion-no_lease att kinds.Leases = refl
deletion-no_lease att kinds.Cached = refl

next-no_lease : (c : Command) (s : State) (call : Call) → Unleasing s ≡ true → next_call c s ≡ Some call
    → asks_for_lease call ≡ false
unfolding next_call
next-no_lease c AtBegin call none next = ap asks_for_lease (sym (same_Some (Begin (att_of c) c.netns) call next))
next-no_lease c (AfterLeases first left given) call none next =
    let parts = and_parts (not (asks_for_lease first)) (leases_none left) none in
    ap asks_for_lease (sym (same_Some first call next)) ∙ not-true (asks_for_lease first) parts.0
next-no_lease c (ReadingCache ending) call none next =
    ap asks_for_lease (sym (same_Some (CacheGet (att_of c)) call next))
next-no_lease c (Deleting kind left ending) call none next =
    ap asks_for_lease (sym (same_Some (deletion (att_of c) kind) call next)) ∙ deletion-no_lease (att_of c) kind
next-no_lease c (Over ending given) call none next = absurd cc
next-no_lease c _ call none next = absurd cc

-- ---- the state after it

after_leases-none : (calls : List Call) (given : List Addr) → leases_none calls ≡ true
    → Unleasing (after_leases calls given) ≡ true
after_leases-none [] given none = refl
after_leases-none (call ∷ calls) given none = none

deleting-none : (ks : List Kind) (ending : Ending) → Unleasing (deleting ks ending) ≡ true
deleting-none [] ending = refl
deleting-none (kind ∷ ks) ending = refl

begin-none : (co : Course) (number : ℕ) (r : Reply) → co.sets ≡ [] → LeasesBySetsAlone co
    → Unleasing (at_begin co number r) ≡ true
begin-none co number Done unpooled none =
    ap (λ sets. Unleasing (leasing co sets [])) unpooled ∙ after_leases-none co.forward [] none
begin-none co number _ unpooled none = refl

call-none : (number : ℕ) (left : List Call) (given : List Addr) (r : Reply) → leases_none left ≡ true
    → Unleasing (at_call_after number left given r) ≡ true
call-none number left given Done none = after_leases-none left given none
call-none number left given _ none = refl

cache-none : (co : Course) (number : ℕ) (ending : Ending) (r : Reply) → Unleasing (at_cache co number ending r) ≡ true
cache-none co number ending Fault = refl
cache-none co number ending _ = deleting-none co.kinds ending

deletion-none : (number : ℕ) (kind : Kind) (left : List Kind) (ending : Ending) (r : Reply)
    → Unleasing (at_deletion number kind left ending r) ≡ true
deletion-none number kind left ending (Gone false) = deleting-none left ending
deletion-none number kind left ending (Gone true) = refl
deletion-none number kind left ending Fault = refl
deletion-none number kind left ending _ = refl

advance-none : (co : Course) (number : ℕ) (s : State) (r : Reply) → co.sets ≡ [] → LeasesBySetsAlone co
    → Unleasing s ≡ true
    → Unleasing (advance co number s r) ≡ true
unfolding advance
advance-none co number AtBegin r unpooled forward none = begin-none co number r unpooled forward
advance-none co number (AfterLeases next left given) r unpooled forward none =
    call-none number left given r (and_parts (not (asks_for_lease next)) (leases_none left) none).1
advance-none co number (ReadingCache ending) r unpooled forward none = cache-none co number ending r
advance-none co number (Deleting next left ending) r unpooled forward none = deletion-none number next left ending r
advance-none co number (Over ending given) r unpooled forward none = refl
advance-none co number _ r unpooled forward none = absurd cc

-- ---- the run

reply-none : (r : Reply) → is_lease r ≡ false → leases_in (r ∷ []) ≡ []
reply-none (Leased addr) none = absurd cc
reply-none _ none = refl

abbrev Unleased : List Made → State → Host → Type 0
Unleased past s host = (Unleasing s ≡ true) × (leases_in (replies past) ≡ [])

keeps-unleased : (co : Course) (c : Command) → co.sets ≡ [] → LeasesBySetsAlone co → Keeps co c Unleased
keeps-unleased co c unpooled forward past number s host call fault next was = (
  advance-none co number s (reply_to host call fault) unpooled forward was.0,
  leases-same past (made_on host call fault)
      (reply-none (reply_to host call fault) (none-reply host call fault (next-no_lease c s call was.0 next)))
      ∙ was.1,
)

pub unpooled-leases : (r : Run) → BeginsAt AtBegin r → r.course.sets ≡ [] → LeasesBySetsAlone r.course
    → leases_in (replies r.entries) ≡ []
unpooled-leases r run unpooled forward =
    (along r.course r.command r.faulty Unleased (keeps-unleased r.course r.command unpooled forward) [] 0 AtBegin
    r.start r.entries run (refl, refl)).1
