-- How the deletions of one kind go on, call by call.
use Rattle.session_verbs.proofs.Names.{◌≡◌, ℕ, ◌+◌, ◌<◌, ◌≤◌, Bool, true, false, List, [], ◌∷◌, ◌++◌, Some, None}
use Rattle.session_verbs.proofs.Names.{Result, Ok, Err, refl, sym, ap, subst, ◌∙◌, arith, same_Some, none-some}
use Rattle.session_verbs.proofs.Names.{if◌then◌else◌, apply, is_fault, IsSound, Kind, Reply, Fault, Gone, Att, Host}
use Rattle.session_verbs.proofs.Names.{are_after, Command, att_of, Ending, reply_to, State, Deleting, Over, next_call}
use Rattle.session_verbs.proofs.Names.{at_deletion, faulted, NoMemory, share_of, deletions_of, Made, host_on}
use Rattle.plugin_chain.specs.Wanted.{deletion}
use Rattle.net_conf.specs.Sets.{one_if}
use Rattle.gc_sweep.proofs.Deletable.{deletion-falls}
use Rattle.session_laws.specs.{Course.{Course, advance}, Pools.{IsReady, Pools}}
use Rattle.session_verbs.specs.Journal.{JournalView, KindEndsAs, Went, after_entries, kind_end_by, made_next, may_go}
use Rattle.session_verbs.specs.declared.delete.KindEnd.{KindEnd}
use Rattle.session_verbs.proofs.Going.{went-next, ready-made}
use Rattle.session_laws.proofs.Courses.Ready.{made_on, ready-deletion}
use Rattle.session_verbs.specs.declared.delete.KindEnd.TheVariants as kind_ends

-- entries were made, and left the journal and the state so
abbrev pub GoesTo : Course → Command → JournalView → JournalView → State → State → Type 0
GoesTo co c old new s t = (es : List Made) × Went co c es old new s t

-- the deletions of the kind went on so far, and more of it may be left
abbrev pub StaysAt : Att → Kind → JournalView → JournalView → Type 0
StaysAt att kind old new = (co : Course) (c : Command) (left : List Kind) (ending : Ending) → att_of c ≡ att
    → GoesTo co c old new (Deleting kind left ending) (Deleting kind left ending)

pub stays-stopped : (att : Att) (kind : Kind) (old new : JournalView) → StaysAt att kind old new
    → may_go new ≡ false → (co : Course) (c : Command) (left : List Kind) (ending : Ending) → att_of c ≡ att
    → KindEndsAs co c old new kind left ending (Ok kind_ends.Stopped)
stays-stopped att kind old new stays stopped = λ co c left ending is.
    (let so_far = stays co c left ending is in (so_far.0, so_far.1, stopped))

pub stays-refused : (att : Att) (kind : Kind) (old mid new : JournalView) (end : Result KindEnd NoMemory) (e : NoMemory)
    → StaysAt att kind old mid → new ≡ mid → end ≡ Err e
    → (co : Course) (c : Command) (left : List Kind) (ending : Ending) → att_of c ≡ att
    → KindEndsAs co c old new kind left ending end
stays-refused att kind old mid new end e stays same is co c left ending own =
    let by_end : Result KindEnd NoMemory → Type 0 = λ r. KindEndsAs co c old new kind left ending r in
    let by_journal : JournalView → Type 0 = λ j. KindEndsAs co c old j kind left ending (Err e) in
    subst by_end (sym is) (subst by_journal (sym same) (stays co c left ending own))

-- one deletion more
one-more : (att : Att) (kind : Kind) (old mid new : JournalView) → StaysAt att kind old mid
    → new ≡ after_entries mid (made_next mid (deletion att kind) ∷ [])
    → (co : Course) (c : Command) (left : List Kind) (ending : Ending) → att_of c ≡ att
    → GoesTo co c old new (Deleting kind left ending)
    (at_deletion (mid.made + 1) kind left ending (made_next mid (deletion att kind)).reply)
unfolding next_call advance
one-more att kind old mid new stays made co c left ending is =
    let so_far = stays co c left ending is in (
      so_far.0 ++ made_next mid (deletion att kind) ∷ [],
      went-next (deletion att kind) new so_far.1 (ap (λ (a : Att). Some (deletion a kind)) is) made,
    )

unended : (number : ℕ) (kind : Kind) (left : List Kind) (ending : Ending) (r : Reply) → kind_end_by r ≡ None
    → at_deletion number kind left ending r ≡ Deleting kind left ending
unended number kind left ending (Gone false) none = absurd (none-some kind_ends.Gone (sym none))
unended number kind left ending Fault none = absurd (none-some kind_ends.Fault (sym none))
unended number kind left ending _ none = refl

pub stays-more : (att : Att) (kind : Kind) (old mid new : JournalView) → StaysAt att kind old mid
    → new ≡ after_entries mid (made_next mid (deletion att kind) ∷ [])
    → kind_end_by (made_next mid (deletion att kind)).reply ≡ None → StaysAt att kind old new
stays-more att kind old mid new stays made none = λ co c left ending is.
    let P : State → Type 0 = λ t. GoesTo co c old new (Deleting kind left ending) t in
    subst P (unended (mid.made + 1) kind left ending (made_next mid (deletion att kind)).reply none)
    (one-more att kind old mid new stays made co c left ending is)

ended-by : (co : Course) (c : Command) (old new : JournalView) (kind : Kind) (left : List Kind) (ending : Ending)
    (number : ℕ) (r : Reply) (end : KindEnd) → number ≡ new.made → kind_end_by r ≡ Some end
    → GoesTo co c old new (Deleting kind left ending) (at_deletion number kind left ending r)
    → KindEndsAs co c old new kind left ending (Ok end)
ended-by co c old new kind left ending number (Gone false) end count is went =
    subst (λ (e : KindEnd). KindEndsAs co c old new kind left ending (Ok e)) (same_Some kind_ends.Gone end is) went
ended-by co c old new kind left ending number Fault end count is went =
    let P : ℕ → Type 0 = λ n. GoesTo co c old new (Deleting kind left ending) (Over (faulted n ending) []) in
    subst (λ (e : KindEnd). KindEndsAs co c old new kind left ending (Ok e)) (same_Some kind_ends.Fault end is)
    (subst P count went)
ended-by co c old new kind left ending number _ end count is went = absurd (none-some end is)

pub stays-ended : (att : Att) (kind : Kind) (old mid new : JournalView) (end : KindEnd) → StaysAt att kind old mid
    → new ≡ after_entries mid (made_next mid (deletion att kind) ∷ [])
    → kind_end_by (made_next mid (deletion att kind)).reply ≡ Some end
    → (co : Course) (c : Command) (left : List Kind) (ending : Ending) → att_of c ≡ att
    → KindEndsAs co c old new kind left ending (Ok end)
stays-ended att kind old mid new end stays made is co c left ending own =
    ended-by co c old new kind left ending (mid.made + 1) (made_next mid (deletion att kind)).reply end
    (sym (ap (λ (j : JournalView). j.made) made)) is (one-more att kind old mid new stays made co c left ending own)

-- ---- a host that is ready stays so

abbrev pub StaysReady : Host → Host → Type 0
StaysReady old new = (pools : Pools) → IsReady pools old → IsReady pools new

pub ready-same : (old mid new : JournalView) → StaysReady old.host mid.host → new ≡ mid → StaysReady old.host new.host
ready-same old mid new stays same = λ pools ready.
    let P : JournalView → Type 0 = λ j. IsReady pools j.host in
    subst P (sym same) (stays pools ready)

pub ready-more : (att : Att) (kind : Kind) (old mid new : JournalView) → StaysReady old.host mid.host
    → new ≡ after_entries mid (made_next mid (deletion att kind) ∷ []) → StaysReady old.host new.host
ready-more att kind old mid new stays made = λ pools ready.
    ready-made pools mid new (deletion att kind) made
    (ready-deletion pools mid.host att kind (are_after mid.made mid.faults) (stays pools ready))

-- ---- fewer deletions are left

fewer-by : (att : Att) (host new : Host) (r : Reply) (gone : Bool) → r ≡ Gone gone → kind_end_by r ≡ None
    → deletions_of (share_of att new) + one_if gone ≤ deletions_of (share_of att host)
    → deletions_of (share_of att (if is_fault r then host else new)) < deletions_of (share_of att host)
fewer-by att host new r false is none fewer = absurd (none-some kind_ends.Gone (sym none ∙ ap kind_end_by is))
fewer-by att host new r true is none fewer =
    let P : Reply → Type 0 = λ q.
    deletions_of (share_of att (if is_fault q then host else new)) < deletions_of (share_of att host) in
    subst P (sym is) (omega (arith, fewer))

fewer-made : (att : Att) (kind : Kind) (host : Host) (faulty : Bool) → IsSound host
    → kind_end_by (reply_to host (deletion att kind) faulty) ≡ None
    → deletions_of (share_of att (host_on host (made_on host (deletion att kind) faulty)))
    < deletions_of (share_of att host)
fewer-made att kind host true sound none = absurd (none-some kind_ends.Fault (sym none))
fewer-made att kind host false sound none =
    let falls = deletion-falls att kind host sound in
    fewer-by att host (apply host (deletion att kind)).0 (apply host (deletion att kind)).1 falls.gone falls.reply
    none falls.fewer

pub deletions-fewer : (att : Att) (kind : Kind) (mid new : JournalView) → IsSound mid.host
    → new ≡ after_entries mid (made_next mid (deletion att kind) ∷ [])
    → kind_end_by (made_next mid (deletion att kind)).reply ≡ None
    → deletions_of (share_of att new.host) < deletions_of (share_of att mid.host)
deletions-fewer att kind mid new sound made none =
    let P : JournalView → Type 0 = λ j. deletions_of (share_of att j.host) < deletions_of (share_of att mid.host) in
    subst P (sym made) (fewer-made att kind mid.host (are_after mid.made mid.faults) sound none)
