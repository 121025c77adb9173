-- Which phases are over, and how they end.
use Rattle.std.proofs.Common.{◌≡◌, ℕ, ◌<◌, ◌≤◌, List, [], ◌∷◌, ◌++◌, length, drop, refl, sym, ap, ◌∙◌, subst, arith}
use Rattle.std.proofs.{Common.{not, Option, Some, None, inl, inr}, lemmas.List.{length-append, length-map}}
use Rattle.std.specs.{Bool.FalseIff, Prelude.{◌⊎◌, Bool, true, false, option_map, MatchBool}}
use Rattle.cni_addr.specs.declared.address.Addr.{Addr}
use Rattle.cni_result.specs.declared.cached.Cached.{Cached}
use Rattle.net_conf.specs.declared.{first.First.First, list.NetList.NetList}
use Rattle.pod_file.specs.declared.command.Command.{Command}
use Rattle.kernel_types.specs.declared.call.{Call.{Call, TheVariants.CachePut}, Kind.Kind, Reply.Reply}
use Rattle.kernel_types.specs.declared.object.Att.{Att}
use Rattle.plugin_base.specs.{PluginCalls.has_inner, Plugins.added_before, Share.{Share, no_objects, share_after_calls}}
use Rattle.plugin_chain.specs.{Plugins.plugin_of, Wanted.{deletion, sets_of, kinds_of, calls_after, calls_before}}
use Rattle.plugin_chain.specs.Wanted.{all_chained_calls, chained_kinds_reversed, first_kinds, first_plugin_result}
use Rattle.plugin_chain.specs.Wanted.{given_by_list, cached_of}
use Rattle.cni_verbs.specs.{Mappings.mappings_of, Phases.{KeepsOfList, KeepsAhead, state_in, state_outside}}
use Rattle.cni_verbs.specs.{Phases.state_by_phase, Script.{State, Finish, IsOpen, before_of, back_of, finish_of}}
use Rattle.cni_verbs.specs.declared.phase.Phase.{Phase}
use Rattle.verb_questions.specs.Questions.{check_questions}
use Rattle.cni_errors.specs.{CommandFields.att_of, declared.answer.Ending.{Ending, TheVariants.{Added, Yes}}}
use Rattle.cni_errors.specs.declared.answer.Question.{Question}
use Rattle.kernel_types.specs.declared.call.Kind.TheVariants as kinds
use Rattle.cni_verbs.specs.Script as script
use Rattle.cni_verbs.specs.declared.phase.Phase.TheVariants as phases
use Rattle.cni_verbs.proofs.{CallsOrOver.calls_or_over, PhaseSteps.{left_of, opens}}
use Rattle.verb_questions.proofs.QuestionCounts.{questions-left}
use Rattle.plugin_chain.proofs.PluginLaws.{first_laws}

-- what a phase's state is, where it is open or over
abbrev pub IsOverIf : Bool → State → Type 0
IsOverIf over s = FalseIff over (IsOpen s)

starts-after : (calls : List Call) (addrs : List Addr) → 0 < length calls → IsOpen (script.after_leases calls addrs)
starts-after [] addrs h = absurd (omega arith)
starts-after (call ∷ calls) addrs h = tt

starts-before : (list : NetList) (c : Command) (calls : List Call) → 0 < length calls
    → IsOpen (script.before_leases list c calls)
starts-before list c [] h = absurd (omega arith)
starts-before list c (call ∷ calls) h = tt

starts-asking : (questions : List Question) → 0 < length questions → IsOpen (script.asking questions)
starts-asking [] h = absurd (omega arith)
starts-asking (question ∷ questions) h = tt

starts-deleting : (kinds : List Kind) (ending : Ending) → 0 < length kinds → IsOpen (script.deleting kinds ending)
starts-deleting [] ending h = absurd (omega arith)
starts-deleting (kind ∷ kinds) ending h = tt

ends-with : {X : Type 0} (xs ys : List X) (z : X) → 0 < length (xs ++ (ys ++ z ∷ []))
ends-with xs ys z = omega (arith, length-append xs (ys ++ z ∷ []), length-append ys (z ∷ []))

-- no calls make no links
none-made : (first : First) (att : Att) (netns : List ℕ) (calls : List Call) → calls_before first att netns ≡ calls
    → length calls ≡ 0 → ⊥
none-made first att netns [] is none =
    let laws = first_laws first in
    let made : no_objects ≡ added_before (plugin_of first) att netns =
    ap (share_after_calls no_objects) (sym is) ∙ laws.adds_before att netns no_objects in
    let links : [] ≡ (plugin_of first).links att netns = ap (λ (s : Share). s.links) made in
    absurd (let there : has_inner att netns [] ≡ true = ap (has_inner att netns) links ∙ laws.inner att netns in cc)
none-made first att netns (call ∷ calls) is none = absurd (omega arith)

some-unless : (calls : List Call) → (length calls ≡ 0 → ⊥) → 0 < length calls
some-unless [] h = absurd (h refl)
some-unless (call ∷ calls) h = omega arith

-- a link is made before the leases
pub before-some : (list : NetList) (c : Command) → 0 < length (before_of list c)
before-some list c = some-unless (before_of list c) (none-made list.first (att_of c) c.netns (before_of list c) refl)

-- the cached result comes last
calls-left : (list : NetList) (c : Command) (addrs : List Addr) → 0 < length (back_of list c addrs)
calls-left list c addrs =
    let att = att_of c in
    let mappings = mappings_of list c in
    ends-with {X = Call}
    (calls_after list.first att c.netns (given_by_list list addrs))
    (all_chained_calls list.chained att c.netns mappings (first_plugin_result list att c.netns addrs))
    (CachePut att (cached_of list att c.netns mappings addrs))

-- the cached result is deleted last
kinds-some : (list : NetList) → 0 < length (kinds_of list)
kinds-some list = ends-with (chained_kinds_reversed list.chained) (first_kinds list.first) kinds.Cached

-- a phase whose work isn't done, or isn't made yet
abbrev is_early : Phase → Bool
is_early (phases.AfterLeases calls passed cached) = false
is_early (phases.Deleting deletions passed ending) = false
is_early (phases.Asking questions passed) = false
is_early (phases.Over ending) = false
is_early phase = true

-- as a match tells it
abbrev pub IsEarly : Phase → Type 0
IsEarly phase =
    (phase ≡ phases.AtBegin)
    ⊎ ((phase ≡ phases.Begun)
    ⊎ (((calls : List Call) × (passed : ℕ) × (phase ≡ phases.BeforeLeases calls passed))
    ⊎ ((phase ≡ phases.Leasing)
    ⊎ ((phase ≡ phases.Leased)
    ⊎ (((ending : Ending) × (phase ≡ phases.ReadingCache ending))
    ⊎ (((ending : Ending) × (phase ≡ phases.CacheRead ending))
    ⊎ ((phase ≡ phases.FindingEntry) ⊎ (((cached : Cached) × (phase ≡ phases.Found cached))
    ⊎ ((change : Call) × (phase ≡ phases.Changing change))))))))))

told-early : (phase : Phase) → IsEarly phase → is_early phase ≡ true
told-early phase (inl is) = ap is_early is
told-early phase (inr (inl is)) = ap is_early is
told-early phase (inr (inr (inl w))) = ap is_early w.2
told-early phase (inr (inr (inr (inl is)))) = ap is_early is
told-early phase (inr (inr (inr (inr (inl is))))) = ap is_early is
told-early phase (inr (inr (inr (inr (inr (inl w)))))) = ap is_early w.1
told-early phase (inr (inr (inr (inr (inr (inr (inl w))))))) = ap is_early w.1
told-early phase (inr (inr (inr (inr (inr (inr (inr (inl is)))))))) = ap is_early is
told-early phase (inr (inr (inr (inr (inr (inr (inr (inr (inl w))))))))) = ap is_early w.1
told-early phase (inr (inr (inr (inr (inr (inr (inr (inr (inr w))))))))) = ap is_early w.1

open-where : (list : NetList) (c : Command) (room made : ℕ) (addrs : List Addr) (phase : Phase)
    → KeepsOfList list c room made addrs phase → is_early phase ≡ true → IsOpen (state_in list c addrs phase)
open-where list c room made addrs phases.AtBegin kept early = tt
open-where list c room made addrs phases.Begun kept early = starts-before list c (before_of list c) (before-some list c)
open-where list c room made addrs (phases.BeforeLeases calls passed) kept early =
    subst (λ calls. IsOpen (script.before_leases list c calls)) (sym (left_of calls passed kept.stands.0).1.1) tt
open-where list c room made addrs phases.Leasing kept early =
    subst (λ sets. IsOpen (script.leasing list c sets addrs))
    (sym (left_of (sets_of list) (length addrs) kept.stands).1.1) tt
open-where list c room made addrs phases.Leased kept early =
    starts-after (back_of list c addrs) addrs (calls-left list c addrs)
open-where list c room made addrs (phases.AfterLeases calls passed cached) kept early = absurd cc
open-where list c room made addrs (phases.ReadingCache ending) kept early = tt
open-where list c room made addrs (phases.CacheRead ending) kept early =
    starts-deleting (kinds_of list) ending (kinds-some list)
open-where list c room made addrs (phases.Deleting deletions passed ending) kept early = absurd cc
open-where list c room made addrs phases.FindingEntry kept early = tt
open-where list c room made addrs (phases.Found cached) kept early =
    starts-asking (check_questions list c cached) (questions-left list c cached)
open-where list c room made addrs (phases.Asking questions passed) kept early = absurd cc
open-where list c room made addrs (phases.Changing change) kept early = tt
open-where list c room made addrs (phases.Over ending) kept early = absurd cc

pub early-open : (list : NetList) (c : Command) (room made : ℕ) (addrs : List Addr) (phase : Phase)
    → KeepsOfList list c room made addrs phase → IsEarly phase → IsOpen (state_in list c addrs phase)
early-open list c room made addrs phase kept early =
    open-where list c room made addrs phase kept (told-early phase early)

over-listed : {X : Type 0} (state : List X → State) (items : List X) (passed : ℕ) (over : Bool)
    → (IsOpen (state []) → ⊥) → ((item : X) (left : List X) → IsOpen (state (item ∷ left)))
    → MatchBool over (length items ≤ passed) (passed < length items) → IsOverIf over (state (drop passed items))
over-listed state items passed true ends starts h =
    λ opened. let lt = opens state items passed ends opened in omega arith
over-listed state items passed false ends starts h =
    subst (λ left. IsOpen (state left)) (sym (left_of items passed h).1.1) (starts _ _)

pub after-leases-over : (list : NetList) (c : Command) (passed : ℕ) (calls read : List Call) (cached : Cached)
    (addrs : List Addr) (phase : Phase) (over : Bool)
    → phase ≡ phases.AfterLeases calls passed cached
    → read ≡ calls → MatchBool over (length read ≤ passed) (passed < length read)
    → IsOverIf over (state_in list c addrs phase)
after-leases-over list c passed calls read cached addrs phase over is same h =
    subst (λ p. IsOverIf over (state_in list c addrs p)) (sym is)
    (subst (λ cs. IsOverIf over (script.after_leases (drop passed cs) addrs)) same
    (over-listed (λ left. script.after_leases left addrs) read passed over (λ opened. opened) (λ call left. tt) h))

pub deleting-over : (list : NetList) (c : Command) (passed : ℕ) (deletions read : List Call) (ending : Ending)
    (addrs : List Addr) (phase : Phase) (over : Bool)
    → phase ≡ phases.Deleting deletions passed ending
    → KeepsAhead list c addrs phase → read ≡ deletions → MatchBool over (length read ≤ passed) (passed < length read)
    → IsOverIf over (state_in list c addrs phase)
deleting-over list c passed deletions read ending addrs phase over is keeps same h =
    let K : Phase → Type 0 = λ p. KeepsAhead list c addrs p in
    let of_kinds : length read ≡ length (kinds_of list) =
    ap length (same ∙ subst K is keeps) ∙ length-map (kinds_of list) (deletion (att_of c)) in
    subst (λ p. IsOverIf over (state_in list c addrs p)) (sym is)
    (over-listed (λ ks. script.deleting ks ending) (kinds_of list) passed over (λ opened. opened) (λ kind ks. tt)
    (subst (λ n. MatchBool over (n ≤ passed) (passed < n)) of_kinds h))

pub asking-over : (list : NetList) (c : Command) (passed : ℕ) (questions read : List Question) (addrs : List Addr)
    (phase : Phase) (over : Bool)
    → phase ≡ phases.Asking questions passed
    → read ≡ questions → MatchBool over (length read ≤ passed) (passed < length read)
    → IsOverIf over (state_in list c addrs phase)
asking-over list c passed questions read addrs phase over is same h =
    subst (λ p. IsOverIf over (state_in list c addrs p)) (sym is)
    (subst (λ qs. IsOverIf over (script.asking (drop passed qs))) same
    (over-listed script.asking read passed over (λ opened. opened) (λ question left. tt) h))

-- ---- a run of no network

pub unless-changing : (phase : Phase) (changing : Bool)
    → MatchBool changing ((change : Call) × (phase ≡ phases.Changing change))
    (((number : ℕ) (r : Reply) → script.outside_advance number (state_outside phase) r ≡ state_outside phase)
    × (IsOpen (state_outside phase) → ⊥))
    → IsOverIf (not changing) (state_outside phase)
unless-changing phase true h = subst (λ p. IsOpen (state_outside p)) (sym h.1) tt
unless-changing phase false h = h.1

pub outside-over : (list : Option NetList) (c : Command) (addrs : List Addr) (phase : Phase) (over : Bool) → list ≡ None
    → IsOverIf over (state_outside phase) → IsOverIf over (state_by_phase list c addrs phase)
outside-over list c addrs phase over none h = subst (λ l. IsOverIf over (state_by_phase l c addrs phase)) (sym none) h

-- ---- how it ends

pub unended : {A : Type 0} (c : Command) (s : State) (over : Bool) (f : Finish → A) → over ≡ false → IsOverIf over s
    → None ≡ option_map f (finish_of s)
unended c s true f is h = absurd cc
unended c s false f is h = elim (calls_or_over c s) [
  | inl k ↦ sym (ap (option_map f) k.unfinished)
  | inr o ↦ absurd (o.not_open h)
]

-- the end of a list
finish-listed : {A X : Type 0} (state : List X → State) (items : List X) (finish : Finish) (f : Finish → A)
    → finish_of (state []) ≡ Some finish → ((item : X) (left : List X) → IsOpen (state (item ∷ left)))
    → (IsOpen (state items) → ⊥) → Some (f finish) ≡ option_map f (finish_of (state items))
finish-listed state [] finish f ends starts over = sym (ap (option_map f) ends)
finish-listed state (item ∷ left) finish f ends starts over = absurd (over (starts item left))

pub after-finish : {A : Type 0} (list : NetList) (c : Command) (passed : ℕ) (calls : List Call) (cached : Cached)
    (addrs : List Addr) (phase : Phase) (f : Finish → A)
    → phase ≡ phases.AfterLeases calls passed cached
    → (IsOpen (state_in list c addrs phase) → ⊥)
    → Some (f (record { ending = Added; given = addrs })) ≡ option_map f (finish_of (state_in list c addrs phase))
unfolding finish_of
after-finish list c passed calls cached addrs phase f is over =
    subst
    (λ p. Some (f (record { ending = Added; given = addrs })) ≡ option_map f (finish_of (state_in list c addrs p)))
    (sym is)
    (finish-listed (λ left. script.after_leases left addrs) (drop passed calls)
    (record { ending = Added; given = addrs }) f refl (λ call left. tt)
    (subst (λ p. IsOpen (state_in list c addrs p) → ⊥) is over))

pub deleting-finish : {A : Type 0} (list : NetList) (c : Command) (passed : ℕ) (deletions : List Call) (ending : Ending)
    (addrs : List Addr) (phase : Phase) (f : Finish → A)
    → phase ≡ phases.Deleting deletions passed ending
    → (IsOpen (state_in list c addrs phase) → ⊥)
    → Some (f (record { ending = ending; given = [] })) ≡ option_map f (finish_of (state_in list c addrs phase))
unfolding finish_of
deleting-finish list c passed deletions ending addrs phase f is over =
    subst (λ p. Some (f (record { ending = ending; given = [] })) ≡ option_map f (finish_of (state_in list c addrs p)))
    (sym is)
    (finish-listed (λ kinds. script.deleting kinds ending) (drop passed (kinds_of list))
    (record { ending = ending; given = [] }) f refl (λ kind kinds. tt)
    (subst (λ p. IsOpen (state_in list c addrs p) → ⊥) is over))

pub asking-finish : {A : Type 0} (list : NetList) (c : Command) (passed : ℕ) (questions : List Question)
    (addrs : List Addr) (phase : Phase) (f : Finish → A)
    → phase ≡ phases.Asking questions passed
    → (IsOpen (state_in list c addrs phase) → ⊥)
    → Some (f (record { ending = Yes; given = [] })) ≡ option_map f (finish_of (state_in list c addrs phase))
unfolding finish_of
asking-finish list c passed questions addrs phase f is over =
    subst (λ p. Some (f (record { ending = Yes; given = [] })) ≡ option_map f (finish_of (state_in list c addrs p)))
    (sym is)
    (finish-listed script.asking (drop passed questions) (record { ending = Yes; given = [] }) f refl
    (λ question left. tt)
    (subst (λ p. IsOpen (state_in list c addrs p) → ⊥) is over))

pub over-finish : {A : Type 0} (list : NetList) (c : Command) (ending : Ending) (addrs : List Addr) (phase : Phase)
    (f : Finish → A)
    → phase ≡ phases.Over ending
    → Some (f (record { ending = ending; given = [] })) ≡ option_map f (finish_of (state_in list c addrs phase))
unfolding finish_of
over-finish list c ending addrs phase f is = sym (ap (λ p. option_map f (finish_of (state_in list c addrs p))) is)
