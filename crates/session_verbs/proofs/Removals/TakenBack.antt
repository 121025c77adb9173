-- How the deletions of several kinds go on, kind by kind, and what goes before them.
use Rattle.session_verbs.proofs.Names.{◌≡◌, ℕ, ◌+◌, ◌<◌, ◌≤◌, true, false, List, [], ◌∷◌, ◌++◌, length, drop, get_or}
use Rattle.session_verbs.proofs.Names.{Some, Result, Ok, Err, refl, sym, ap, subst, ◌∙◌, drop_all, drop_more, is_fault}
use Rattle.session_verbs.proofs.Names.{CacheGet, Kind, Reply, Fault, Att, are_after, Command, att_of, Ending, State}
use Rattle.session_verbs.proofs.Names.{Deleting, Over, ReadingCache, deleting, faulted, finish_of, next_call, NoMemory}
use Rattle.session_laws.specs.Course.{Course, advance, at_cache, IsOver}
use Rattle.session_verbs.specs.Journal.{EndsAs, JournalView, KindEndsAs, KindsEndAs, Went, after_entries, made_next}
use Rattle.session_verbs.specs.declared.{delete.KindEnd.KindEnd, part.PartEnd.PartEnd}
use Rattle.session_verbs.proofs.{Going.{went-one, went-then, ends-then, ready-made}, Removals.KindEnds.GoesTo}
use Rattle.session_verbs.proofs.Removals.KindEnds.{StaysReady}
use Rattle.session_laws.proofs.Courses.Ready.{ready-cache_get}
use Rattle.session_verbs.specs.declared.delete.KindEnd.TheVariants as kind_ends
use Rattle.session_verbs.specs.declared.part.PartEnd.TheVariants as parts

-- the kinds' deletions went on so far, and these kinds are left
abbrev pub LeavesKinds : Att → List Kind → List Kind → JournalView → JournalView → Type 0
LeavesKinds att kinds left old new = (co : Course) (c : Command) (ending : Ending) → att_of c ≡ att
    → GoesTo co c old new (deleting kinds ending) (deleting left ending)

-- how one kind's deletions went on
abbrev pub EndsKind : Att → JournalView → JournalView → Kind → Result KindEnd NoMemory → Type 0
EndsKind att old new kind end = (co : Course) (c : Command) (left : List Kind) (ending : Ending) → att_of c ≡ att
    → KindEndsAs co c old new kind left ending end

-- how several kinds' deletions go on
abbrev pub EndsEach : Att → List Kind → JournalView → JournalView → Result KindEnd NoMemory → Type 0
EndsEach att kinds old new end = (co : Course) (c : Command) (ending : Ending) → att_of c ≡ att
    → KindsEndAs co c old new kinds ending end

-- before the next of the kinds
leaves-next : (att : Att) (kinds : List Kind) (i : ℕ) (d : Kind) (old mid : JournalView) → i < length kinds
    → LeavesKinds att kinds (drop i kinds) old mid
    → LeavesKinds att kinds (get_or kinds i d ∷ drop (i + 1) kinds) old mid
leaves-next att kinds i d old mid within leaves =
    subst (λ (ks : List Kind). LeavesKinds att kinds ks old mid) (drop_more kinds i d within) leaves

-- and after it, where its deletions ended so
ends-at : (att : Att) (old new : JournalView) (kind : Kind) (end told : KindEnd) → EndsKind att old new kind (Ok end)
    → end ≡ told → EndsKind att old new kind (Ok told)
ends-at att old new kind end told ended is = subst (λ (e : KindEnd). EndsKind att old new kind (Ok e)) is ended

pub leaves-fewer : (att : Att) (kinds : List Kind) (i : ℕ) (d : Kind) (old mid new : JournalView) (end : KindEnd)
    → i < length kinds → LeavesKinds att kinds (drop i kinds) old mid → EndsKind att mid new (get_or kinds i d) (Ok end)
    → end ≡ kind_ends.Gone → LeavesKinds att kinds (drop (i + 1) kinds) old new
leaves-fewer att kinds i d old mid new end within leaves ended is = λ co c ending own.
    let before = leaves-next att kinds i d old mid within leaves co c ending own in
    let one = ends-at att mid new (get_or kinds i d) end kind_ends.Gone ended is co c (drop (i + 1) kinds) ending own in
    (before.0 ++ one.0, went-then before.1 one.1)

pub each-gone : (att : Att) (kinds : List Kind) (i : ℕ) (old new : JournalView) → length kinds ≤ i
    → LeavesKinds att kinds (drop i kinds) old new → EndsEach att kinds old new (Ok kind_ends.Gone)
each-gone att kinds i old new past leaves = λ co c ending own.
    let P : List Kind → Type 0 = λ ks. GoesTo co c old new (deleting kinds ending) (deleting ks ending) in
    subst P (drop_all i kinds past) (leaves co c ending own)

pub each-fault : (att : Att) (kinds : List Kind) (i : ℕ) (d : Kind) (old mid new : JournalView) (end : KindEnd)
    → i < length kinds → LeavesKinds att kinds (drop i kinds) old mid → EndsKind att mid new (get_or kinds i d) (Ok end)
    → end ≡ kind_ends.Fault → EndsEach att kinds old new (Ok kind_ends.Fault)
each-fault att kinds i d old mid new end within leaves ended is = λ co c ending own.
    let before = leaves-next att kinds i d old mid within leaves co c ending own in
    let one =
    ends-at att mid new (get_or kinds i d) end kind_ends.Fault ended is co c (drop (i + 1) kinds) ending own in
    (before.0 ++ one.0, went-then before.1 one.1)

pub each-stopped : (att : Att) (kinds : List Kind) (i : ℕ) (d : Kind) (old mid new : JournalView) (end : KindEnd)
    → i < length kinds → LeavesKinds att kinds (drop i kinds) old mid → EndsKind att mid new (get_or kinds i d) (Ok end)
    → end ≡ kind_ends.Stopped → EndsEach att kinds old new (Ok kind_ends.Stopped)
each-stopped att kinds i d old mid new end within leaves ended is = λ co c ending own.
    let before = leaves-next att kinds i d old mid within leaves co c ending own in
    let one =
    ends-at att mid new (get_or kinds i d) end kind_ends.Stopped ended is co c (drop (i + 1) kinds) ending own in
    (before.0 ++ one.0, Deleting (get_or kinds i d) (drop (i + 1) kinds) ending, went-then before.1 one.1, (tt, one.2))

pub each-refused : (att : Att) (kinds : List Kind) (i : ℕ) (d : Kind) (old mid new : JournalView) (e error : NoMemory)
    (end : Result KindEnd NoMemory) → i < length kinds → LeavesKinds att kinds (drop i kinds) old mid
    → EndsKind att mid new (get_or kinds i d) (Err e) → end ≡ Err error → EndsEach att kinds old new end
each-refused att kinds i d old mid new e error end within leaves ended is = λ co c ending own.
    let P : Result KindEnd NoMemory → Type 0 = λ r. KindsEndAs co c old new kinds ending r in
    let before = leaves-next att kinds i d old mid within leaves co c ending own in
    let one = ended co c (drop (i + 1) kinds) ending own in
    subst P (sym is)
    (before.0 ++ one.0, Deleting (get_or kinds i d) (drop (i + 1) kinds) ending, went-then before.1 one.1)

-- ---- with how they end

-- how several kinds' deletions go on, with this ending where no call is a fault
abbrev pub EndsKinds : Att → List Kind → Ending → JournalView → JournalView → Result PartEnd NoMemory → Type 0
EndsKinds att kinds ending old new end = (co : Course) (c : Command) → att_of c ≡ att
    → EndsAs co c old new (deleting kinds ending) end

over-is : (ending told : Ending) → told ≡ ending → IsOver (Over ending []) told
unfolding finish_of
over-is ending told is = ap Some (sym is)

pub kinds-gone : (att : Att) (kinds : List Kind) (ending : Ending) (old new : JournalView)
    → EndsEach att kinds old new (Ok kind_ends.Gone) → EndsKinds att kinds ending old new (Ok (parts.Over ending))
kinds-gone att kinds ending old new each = λ co c own.
    (let ends = each co c ending own in (ends.0, Over ending [], ends.1, over-is ending ending refl))

pub kinds-fault : (att : Att) (kinds : List Kind) (ending told : Ending) (old new : JournalView)
    → EndsEach att kinds old new (Ok kind_ends.Fault) → told ≡ faulted new.made ending
    → EndsKinds att kinds ending old new (Ok (parts.Over told))
kinds-fault att kinds ending told old new each is = λ co c own.
    (let ends = each co c ending own in
    (ends.0, Over (faulted new.made ending) [], ends.1, over-is (faulted new.made ending) told is))

pub kinds-stopped : (att : Att) (kinds : List Kind) (ending : Ending) (old new : JournalView)
    → EndsEach att kinds old new (Ok kind_ends.Stopped) → EndsKinds att kinds ending old new (Ok parts.Stopped)
kinds-stopped att kinds ending old new each = λ co c own. each co c ending own

pub ready-then : (old mid new : JournalView) → StaysReady old.host mid.host → StaysReady mid.host new.host
    → StaysReady old.host new.host
ready-then old mid new first rest = λ pools ready. rest pools (first pools ready)

-- ---- the cached result is read, ahead of the deletions

-- how a deletion goes on, of an attachment by these kinds
abbrev pub EndsBack : Att → List Kind → Ending → JournalView → JournalView → Result PartEnd NoMemory → Type 0
EndsBack att kinds ending old new end = (co : Course) (c : Command) → att_of c ≡ att → co.kinds ≡ kinds
    → EndsAs co c old new (ReadingCache ending) end

at_cache-fault : (co : Course) (number : ℕ) (ending : Ending) (r : Reply) → is_fault r ≡ true
    → at_cache co number ending r ≡ Over (faulted number ending) []
at_cache-fault co number ending Fault is = refl
at_cache-fault co number ending _ is = cc

at_cache-else : (co : Course) (number : ℕ) (ending : Ending) (r : Reply) → is_fault r ≡ false
    → at_cache co number ending r ≡ deleting co.kinds ending
at_cache-else co number ending Fault is = cc
at_cache-else co number ending _ is = refl

cache-read : (att : Att) (ending : Ending) (old new : JournalView) (t : State)
    → new ≡ after_entries old (made_next old (CacheGet att) ∷ [])
    → (co : Course) (c : Command) → att_of c ≡ att
    → at_cache co (old.made + 1) ending (made_next old (CacheGet att)).reply ≡ t
    → Went co c (made_next old (CacheGet att) ∷ []) old new (ReadingCache ending) t
unfolding next_call advance
cache-read att ending old new t made co c own at =
    let P : State → Type 0 = λ s. Went co c (made_next old (CacheGet att) ∷ []) old new (ReadingCache ending) s in
    subst P at
    (went-one co c (CacheGet att) old new (ReadingCache ending) (ap (λ (a : Att). Some (CacheGet a)) own) made)

pub back-fault : (att : Att) (kinds : List Kind) (ending told : Ending) (old new : JournalView)
    → new ≡ after_entries old (made_next old (CacheGet att) ∷ []) → is_fault (made_next old (CacheGet att)).reply ≡ true
    → told ≡ faulted new.made ending → EndsBack att kinds ending old new (Ok (parts.Over told))
back-fault att kinds ending told old new made met is = λ co c own of_kinds.
    let r = (made_next old (CacheGet att)).reply in
    let count : old.made + 1 ≡ new.made = sym (ap (λ (j : JournalView). j.made) made) in
    let at = at_cache-fault co (old.made + 1) ending r met ∙ ap (λ n. Over (faulted n ending) []) count in (
      made_next old (CacheGet att) ∷ [],
      Over (faulted new.made ending) [],
      cache-read att ending old new (Over (faulted new.made ending) []) made co c own at,
      over-is (faulted new.made ending) told is,
    )

pub back-then : (att : Att) (kinds : List Kind) (ending : Ending) (old mid new : JournalView)
    (end : Result PartEnd NoMemory)
    → mid ≡ after_entries old (made_next old (CacheGet att) ∷ [])
    → is_fault (made_next old (CacheGet att)).reply ≡ false
    → EndsKinds att kinds ending mid new end → EndsBack att kinds ending old new end
back-then att kinds ending old mid new end made met rest = λ co c own of_kinds.
    let r = (made_next old (CacheGet att)).reply in
    let at = at_cache-else co (old.made + 1) ending r met ∙ ap (λ ks. deleting ks ending) of_kinds in
    ends-then new end (cache-read att ending old mid (deleting kinds ending) made co c own at) (rest co c own)

pub ready-cache : (att : Att) (old new : JournalView) → new ≡ after_entries old (made_next old (CacheGet att) ∷ [])
    → StaysReady old.host new.host
ready-cache att old new made = λ pools ready.
    ready-made pools old new (CacheGet att) made
    (ready-cache_get pools old.host att (are_after old.made old.faults) ready)
