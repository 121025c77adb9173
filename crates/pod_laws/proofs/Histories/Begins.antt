-- Begins in a history: while an ADD goes on, the last one of its attachment is its own.
use Rattle.pod_laws.proofs.Names.{◌≡◌, ◌≢◌, ℕ, ◌+◌, Bool, true, false, List, [], ◌∷◌, ◌++◌, length, Option, Some, None}
use Rattle.pod_laws.proofs.Names.{slice_get, refl, sym, ◌∙◌, ap, subst, inl, inr, arith, and_parts, eqb_tells}
use Rattle.pod_laws.proofs.Names.{list_all-append, list_all, option_or, if◌then◌else◌, NetList, is_of_network, Command}
use Rattle.pod_laws.proofs.Names.{Verb, att_eq, is_from_outside, Call, Begin, LeaseNext, CacheGet, Kind, Reply, Done}
use Rattle.pod_laws.proofs.Names.{Leased, Att, att_eq-refl, is_plugin_call_of, is_call_of, Share, is_done, is_granted}
use Rattle.pod_laws.proofs.Names.{State, AtBegin, BeforeLeases, Leasing, AfterLeases, ReadingCache, Deleting, Over}
use Rattle.pod_laws.proofs.Names.{Calls, turn, att_of, Ending, Added, Yes, Skipped, Versions, Refused, deletion, Legal}
use Rattle.pod_laws.proofs.Names.{Placed, commands_of, World, entry_of, host_of, reply_to, Entry, LeftAreOfPlugins}
use Rattle.pod_laws.proofs.Names.{apart, ready_is, none-or-some, split_nil}
use Rattle.pod_file.specs.declared.command.Verb.TheVariants as verbs
use Rattle.kernel_types.specs.declared.call.Kind.TheVariants as kinds
use Rattle.plugin_base.proofs.OtherCalls.{call-apart}
use Rattle.pod_laws.specs.{AskedFor.{begins, is_begin_of, last_begun}, Moments.own_entries, Refused.lets_go_on}
use Rattle.pod_laws.proofs.Histories.Entries.{apart-entry, is_of-own, own_entries-own, own_entries-other, no-entries}
use Rattle.pod_laws.proofs.Histories.{Runs.{every-run-now, own-state}, States.{IsOtherVerb, is_question, not-both}}
use Rattle.pod_laws.proofs.Histories.Steps.{AllOpen, Changes, GoesOn, IsOpenKept, OpenFact, by-open}
use Rattle.pod_laws.proofs.Histories.Turns.{AsksOrCollects, IsTurnOf, change-of, other_att, turn-of}
use Rattle.pod_laws.proofs.Refused.{Causes.{IsPluginReply, begin-may}, Runs.{undone-start, undone-step}}
use Rattle.pod_laws.proofs.Refused.Undoing.{Undoing, Leads}

-- ---- Begins in a history

begun-step : (b : Bool) (k : ℕ) → (if b then Some k else None) ≡ option_or (if b then Some k else None) None
begun-step true k = refl
begun-step false k = refl

or-assoc : (a b d : Option ℕ) → option_or (option_or a b) d ≡ option_or a (option_or b d)
or-assoc None b d = refl
or-assoc (Some x) b d = refl

last_begun-push : (att : Att) (h : List Entry) (e : Entry)
    → last_begun att (h ++ e ∷ []) ≡ option_or (if begins att e then Some e.command else None) (last_begun att h)
last_begun-push att [] e = begun-step (begins att e) e.command
last_begun-push att (x ∷ xs) e =
    ap (λ o. option_or o (if begins att x then Some x.command else None)) (last_begun-push att xs e)
    ∙ or-assoc (if begins att e then Some e.command else None) (last_begun att xs)
    (if begins att x then Some x.command else None)

pub last_begun-same : (att : Att) (h : List Entry) (e : Entry) → begins att e ≡ false
    → last_begun att (h ++ e ∷ []) ≡ last_begun att h
last_begun-same att h e not =
    last_begun-push att h e ∙ ap (λ b. option_or (if b then Some e.command else None) (last_begun att h)) not

last_begun-new : (att : Att) (h : List Entry) (e : Entry) → begins att e ≡ true
    → last_begun att (h ++ e ∷ []) ≡ Some e.command
last_begun-new att h e is =
    last_begun-push att h e ∙ ap (λ b. option_or (if b then Some e.command else None) (last_begun att h)) is

-- a call of one attachment begins no other
pub begin-apart : (att other : Att) (call : Call) → att_eq att other ≡ false → is_call_of att call ≡ true
    → is_begin_of other call ≡ false
begin-apart att other (Begin a netns) differ is = (call-apart att other (Begin a netns) differ is).unnamed
begin-apart att other _ differ is = refl

pub plugin-no_begin : (att other : Att) (call : Call) → is_plugin_call_of att call ≡ true
    → is_begin_of other call ≡ false
plugin-no_begin att other (Begin a netns) is = cc
plugin-no_begin att other _ is = refl

pub deletion-no_begin : (att other : Att) (kind : Kind) → is_begin_of other (deletion att kind) ≡ false
deletion-no_begin att other kinds.Links = refl
deletion-no_begin att other kinds.Rules = refl
deletion-no_begin att other kinds.Settings = refl
deletion-no_begin att other kinds.Leases = refl
deletion-no_begin att other kinds.Cached = refl

pub question-no_begin : (other : Att) (call : Call) → is_question call ≡ true → is_begin_of other call ≡ false
question-no_begin other (Begin a netns) is = cc
question-no_begin other _ is = refl

pub outside-no_begin : (other : Att) (call : Call) → is_from_outside call ≡ true → is_begin_of other call ≡ false
outside-no_begin other (Begin a netns) is = cc
outside-no_begin other _ is = refl

pub aside-no_begin : (other : Att) (c : Command) (call : Call) → AsksOrCollects c call → is_begin_of other call ≡ false
aside-no_begin other c call (inl asked) = question-no_begin other call asked
aside-no_begin other c call (inr collected) =
    ap (is_begin_of other) (sym collected.deletes) ∙ deletion-no_begin collected.att other collected.kind

-- a run begins no other attachment than its own
pub turn-no_begin : (other : Att) (c : Command) (call : Call) → att_eq (att_of c) other ≡ false → IsTurnOf c call
    → is_begin_of other call ≡ false
turn-no_begin other c call differ (inl own) = begin-apart (att_of c) other call differ own
turn-no_begin other c call differ (inr aside) = aside-no_begin other c call aside

pub not-begins : (att : Att) (e : Entry) → is_begin_of att e.call ≡ false → begins att e ≡ false
not-begins att e h = grind (arith, h)

-- ---- the first call of an ADD is its Begin, and no later one is

no-lead : (c : Command) (es : List Entry) (ending : Ending) → c.verb ≡ verbs.Add → es ≡ [] → Leads c es ending → ⊥
no-lead c es Added verb none h = h
no-lead c es Yes verb none h = not-both c verb h.verb
no-lead c es (Skipped skip) verb none h = h
no-lead c es Versions verb none h = h
no-lead c es (Refused cause) verb none h =
    let f = h.first.refuses in split_nil f.past f.later h.first.by (sym none ∙ f.are)

pub first-call : (list : NetList) (c : Command) (es : List Entry) (st : State) (s : Share) (call : Call)
    → c.verb ≡ verbs.Add → es ≡ [] → turn c st ≡ Calls call → Undoing list c es st s → call ≡ Begin (att_of c) c.netns
unfolding turn
first-call list c es AtBegin s call verb none is was = cc
first-call list c es (BeforeLeases x xs) s call verb none is was = absurd (was.begun none)
first-call list c es (Leasing set sets given) s call verb none is was = absurd (was.begun none)
first-call list c es (AfterLeases x xs given) s call verb none is was = absurd (was.begun none)
first-call list c es (ReadingCache ending) s call verb none is was = absurd (no-lead c es ending verb none was)
first-call list c es (Deleting kind ks ending) s call verb none is was = absurd (no-lead c es ending verb none was.0)
first-call list c es (Over ending given) s call verb none is was = cc
first-call list c es _ s call verb none is was = absurd (subst IsOtherVerb verb was)

abbrev BeginsNone : Att → Call → Type 0
BeginsNone att call = is_begin_of att call ≡ false

later-call : (list : NetList) (c : Command) (es : List Entry) (st : State) (s : Share) (att : Att) (call : Call)
    → c.verb ≡ verbs.Add → es ≢ [] → LeftAreOfPlugins list c st → turn c st ≡ Calls call → Undoing list c es st s
    → BeginsNone att call
unfolding turn
later-call list c es AtBegin s att call verb some left is was = absurd (some was.none)
later-call list c es (BeforeLeases x xs) s att call verb some left is was =
    subst (BeginsNone att) (let e : x ≡ call = cc in e) (plugin-no_begin (att_of c) att x left.0.0.0)
later-call list c es (Leasing set sets given) s att call verb some left is was =
    subst (BeginsNone att) (let e : LeaseNext (att_of c) (length given) set ≡ call = cc in e) refl
later-call list c es (AfterLeases x xs given) s att call verb some left is was =
    subst (BeginsNone att) (let e : x ≡ call = cc in e) (plugin-no_begin (att_of c) att x left.0.0)
later-call list c es (ReadingCache ending) s att call verb some left is was =
    subst (BeginsNone att) (let e : CacheGet (att_of c) ≡ call = cc in e) refl
later-call list c es (Deleting kind ks ending) s att call verb some left is was =
    subst (BeginsNone att) (let e : deletion (att_of c) kind ≡ call = cc in e) (deletion-no_begin (att_of c) att kind)
later-call list c es (Over ending given) s att call verb some left is was = cc
later-call list c es _ s att call verb some left is was = absurd (subst IsOtherVerb verb was)

-- ---- while an ADD goes on, the last Begin is its own

pub granted-done : (r : Reply) → IsPluginReply r → is_granted r ≡ true → is_done r ≡ true
granted-done Done may h = refl
granted-done (Leased addr) may h = absurd may
granted-done _ may h = cc

abbrev IsLast : OpenFact
IsLast p h m d =
    d.command.verb ≡ verbs.Add → own_entries m h ≢ [] → list_all lets_go_on (own_entries m h) ≡ true
    → last_begun (att_of d.command) h ≡ Some (m + 1)

-- the entry of a ready ADD that is granted
last-own : (w : World) (n : ℕ) (c : Placed) (list : NetList) (call : Call) (faulty : Bool)
    → GoesOn w n c list call faulty → AllOpen IsLast w
    → IsLast w.plan (w.history ++ entry_of (host_of w) n call faulty ∷ []) n c
last-own w n c list call faulty on last = λ verb some go_on.
    let e = entry_of (host_of w) n call faulty in
    let es = own_entries n w.history in
    let att = att_of c.command in
    let pushed : own_entries n (w.history ++ e ∷ []) ≡ es ++ e ∷ [] =
    own_entries-own n w.history e (is_of-own n e refl) in
    let all : list_all lets_go_on (es ++ e ∷ []) ≡ true = ap (list_all lets_go_on) (sym pushed) ∙ go_on in
    let both =
    and_parts (list_all lets_go_on es) (list_all lets_go_on (e ∷ []))
    (sym (list_all-append lets_go_on es (e ∷ [])) ∙ all) in
    let own = own-state w n c list call faulty on in
    let was = every-run-now Undoing undone-start undone-step w n c list call faulty on in
    elim (none-or-some es) [
      | inl none ↦
          let first : call ≡ Begin att c.command.netns =
          first-call list c.command es _ _ call verb none own.turn_is was in
          let done : is_done e.reply ≡ true =
          granted-done e.reply
          (subst (λ j. IsPluginReply (reply_to (host_of w) j faulty)) (sym first)
          (begin-may att c.command.netns (host_of w) faulty))
          (and_parts (lets_go_on e) true both.1).0 in
          let mine : is_begin_of att call ≡ true = ap (is_begin_of att) first ∙ att_eq-refl att in
          last_begun-new att w.history e (grind (arith, done, mine))
      | inr more ↦
          last_begun-same att w.history e
          (not-begins att e
          (later-call list c.command es _ _ att call verb more own.of_plugins own.turn_is was))
          ∙ last n c on.ready.there on.ready.unanswered verb more both.0
    ]

-- an entry of another command
last-other : (w : World) (n m : ℕ) (c d : Placed) (list : NetList) (call : Call) (faulty : Bool)
    → GoesOn w n c list call faulty → m ≢ n → slice_get (commands_of w.plan) m ≡ Some d
    → slice_get w.answers m ≡ Some None → IsLast w.plan w.history m d
    → IsLast w.plan (w.history ++ entry_of (host_of w) n call faulty ∷ []) m d
last-other w n m c d list call faulty on differs at is_open last = λ verb some go_on.
    let e = entry_of (host_of w) n call faulty in
    let mine : own_entries m (w.history ++ e ∷ []) ≡ own_entries m w.history =
    own_entries-other m w.history e (apart-entry w n m call faulty differs) in
    let there : own_entries m w.history ≢ [] = λ none. some (mine ∙ none) in
    elim (apart w on.legal m n d c on.ready differs at is_open) [
      | inl none ↦ absurd (there (no-entries (own_entries m w.history) none))
      | inr other ↦
          let differ : att_eq (att_of c.command) (att_of d.command) ≡ false =
          other_att (att_of c.command) (att_of d.command) (λ q. other (sym q)) in
          last_begun-same (att_of d.command) w.history e
          (not-begins (att_of d.command) e
          (turn-no_begin (att_of d.command) c.command call differ (turn-of w n c list call faulty on)))
          ∙ last verb there (ap (list_all lets_go_on) (sym mine) ∙ go_on)
    ]

-- an entry from outside
not-add : (v : Verb) → v ≡ verbs.Add → is_of_network v ≡ false → ⊥
not-add v is outside = let e : true ≡ false = sym (ap is_of_network is) ∙ outside in cc

last-changed : (w : World) (n m : ℕ) (c d : Placed) (call : Call) (faulty : Bool) → Changes w n c call faulty
    → slice_get (commands_of w.plan) m ≡ Some d → IsLast w.plan w.history m d
    → IsLast w.plan (w.history ++ entry_of (host_of w) n call faulty ∷ []) m d
last-changed w n m c d call faulty on at last = λ verb some go_on.
    let e = entry_of (host_of w) n call faulty in
    let change = change-of w n c call faulty on in
    let differs : m ≢ n = λ here.
    not-add c.command.verb (ap (λ (x : Placed). x.command.verb) (sym (ready_is w n m c d on.ready here at)) ∙ verb)
    change.verb_is in
    let mine : own_entries m (w.history ++ e ∷ []) ≡ own_entries m w.history =
    own_entries-other m w.history e (apart-entry w n m call faulty differs) in
    last_begun-same (att_of d.command) w.history e
    (not-begins (att_of d.command) e (outside-no_begin (att_of d.command) call change.call_is))
    ∙ last verb (λ none. some (mine ∙ none)) (ap (list_all lets_go_on) (sym mine) ∙ go_on)

last-kept : IsOpenKept IsLast
last-kept w n c call faulty goes last = λ m d at is_open.
    elim goes [
      | inl on ↦ elim (eqb_tells m n) [
        | inl t ↦
            let e = entry_of (host_of w) n call faulty in
            let same = ready_is w n m c d on.1.ready t.1 at in
            let P : ℕ → Placed → Type 0 = λ j x. IsLast w.plan (w.history ++ e ∷ []) j x in
            subst (λ j. P j d) (sym t.1) (subst (P n) (sym same) (last-own w n c on.0 call faulty on.1 last))
        | inr f ↦ last-other w n m c d on.0 call faulty on.1 f.1 at is_open (last m d at is_open)
      ]
      | inr on ↦ last-changed w n m c d call faulty on at (last m d at is_open)
    ]

pub all-last : (w : World) → Legal w → AllOpen IsLast w
all-last w legal = by-open IsLast (λ p m d verb some go_on. absurd (some refl)) last-kept w legal
