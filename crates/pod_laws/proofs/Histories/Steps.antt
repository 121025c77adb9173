-- What holds of every legal history, and of every command that is not answered, because each entry keeps it.
use Rattle.pod_laws.proofs.Names.{◌≡◌, ℕ, Bool, true, false, List, [], ◌∷◌, ◌++◌, Option, Some, None, slice_get, refl}
use Rattle.pod_laws.proofs.Names.{sym, ◌∙◌, ap, subst, inl, inr, ◌⊎◌, eqb_tells, same_Some, none-some, NetList, Command}
use Rattle.pod_laws.proofs.Names.{IsAllowed, apply, IsSound, Call, Reply, Host, turn_by, Calls, turn, state_after}
use Rattle.pod_laws.proofs.Names.{outside_after, Answer, Legal, Placed, IsWellFormed, commands_of, list_for, World}
use Rattle.pod_laws.proofs.Names.{IsReady, after_entry, host_of, own_replies, entry_of, done, Entry, Plan, ready_is}
use Rattle.pod_laws.proofs.Names.{sound_host, host-made}
use Rattle.std.proofs.{Common.slice_set, lemmas.Option.slice_get_within}
use Rattle.kernel_types.proofs.EveryCall.{IsSound-apply}
use Rattle.cni_errors.specs.declared.answer.Answer.TheVariants.{OutOfMemory}
use Rattle.pod_workers.specs.{Legal.{starts, steps, refused_memory, turns}, World.{with_entry, answered, next_of}}
use Rattle.pod_workers.specs.declared.plan.Next.{Next}
use Rattle.pod_workers.specs.declared.plan.Next.TheVariants as next
use Rattle.pod_workers.proofs.{Hosts.Sound.{allowed_next, goes_in}, Worlds.Histories.slice_get-set_same}
use Rattle.pod_workers.proofs.Worlds.Histories.{slice_get-set_other}
use Rattle.pod_laws.specs.Moments.{is_of}
use Rattle.pod_laws.proofs.Histories.Entries.{apart-entry}

-- ---- a step that makes an entry

-- the command at place n, of this list, is ready and makes this call next, which may be made where no fault is listed
-- for it
pub record GoesOn (w : World) (n : ℕ) (c : Placed) (list : NetList) (call : Call) (faulty : Bool) : Type 0 where
  pub legal : Legal w
  pub ready : IsReady w n c
  pub listed : list_for w.plan c.command ≡ Some list
  pub turn_is : turn c.command (state_after list c.command (own_replies w n)) ≡ Calls call
  pub allowed : faulty ≡ false → IsAllowed (host_of w) call

-- the same for a command that has no list, which makes a change from outside
pub record Changes (w : World) (n : ℕ) (c : Placed) (call : Call) (faulty : Bool) : Type 0 where
  pub legal : Legal w
  pub ready : IsReady w n c
  pub unlisted : list_for w.plan c.command ≡ None
  pub turn_is : turn c.command (outside_after c.command (own_replies w n)) ≡ Calls call
  pub allowed : faulty ≡ false → IsAllowed (host_of w) call

-- what holds of the command that goes on, and of its list, holds of the command at its place
pub at_its_place : (w : World) (n : ℕ) (c : Placed) (list : NetList) (call : Call) (faulty : Bool)
    → GoesOn w n c list call faulty → (P : ℕ → Placed → NetList → Type 0) → (m : ℕ) (d : Placed) (other : NetList)
    → m ≡ n → slice_get (commands_of w.plan) m ≡ Some d → list_for w.plan d.command ≡ Some other → P n c list
    → P m d other
at_its_place w n c list call faulty on P m d other place at listed mine =
    let same : d ≡ c = ready_is w n m c d on.ready place at in
    let same_list : other ≡ list =
    same_Some other list (sym listed ∙ ap (λ (x : Placed). list_for w.plan x.command) same ∙ on.listed) in
    subst (λ j. P j d other) (sym place) (subst (λ x. P n x other) (sym same) (subst (P n c) (sym same_list) mine))

-- no command with a list is at the place of a change from outside
pub no_list_there : (w : World) (n : ℕ) (c : Placed) (call : Call) (faulty : Bool) → Changes w n c call faulty
    → (m : ℕ) (d : Placed) (list : NetList)
    → m ≡ n → slice_get (commands_of w.plan) m ≡ Some d → list_for w.plan d.command ≡ Some list → ⊥
no_list_there w n c call faulty on m d list place at listed =
    none-some list (sym on.unlisted
    ∙ ap (λ (x : Placed). list_for w.plan x.command) (sym (ready_is w n m c d on.ready place at))
    ∙ listed)

abbrev GoesByList : Command → List Reply → Call → NetList → Option NetList → Type 0
GoesByList c rs call list o = (o ≡ Some list) × (turn c (state_after list c rs) ≡ Calls call)

turn-list : (o : Option NetList) (c : Command) (rs : List Reply) (call : Call) → turn_by o c rs ≡ Calls call
    → ((list : NetList) × GoesByList c rs call list o) ⊎ ((o ≡ None) × (turn c (outside_after c rs) ≡ Calls call))
turn-list None c rs call is = inr (refl, is)
turn-list (Some list) c rs call is = inl (list, (refl, is))

abbrev pub Goes : World → ℕ → Placed → Call → Bool → Type 0
Goes w n c call faulty = ((list : NetList) × GoesOn w n c list call faulty) ⊎ Changes w n c call faulty

pub goes-on : (w : World) (n : ℕ) (c : Placed) (call : Call) (faulty : Bool) → Legal w → IsReady w n c
    → next_of w c.command (own_replies w n) ≡ next.Call call faulty → Goes w n c call faulty
goes-on w n c call faulty legal ready is =
    let rs = own_replies w n in
    let made = goes_in w n c.command call faulty is in
    let may : faulty ≡ false → IsAllowed (host_of w) call = λ f.
    allowed_next w n c call legal ready (is ∙ ap (λ b. next.Call call b) f) in
    elim (turn-list (list_for w.plan c.command) c.command rs call made.call_is) [
      | inl by ↦
          inl (by.0, record { legal = legal; ready = ready; listed = by.1.0; turn_is = by.1.1; allowed = may })
      | inr by ↦ inr (record { legal = legal; ready = ready; unlisted = by.0; turn_is = by.1; allowed = may })
    ]

-- ---- what each entry keeps

-- an entry of a command with a list keeps what holds of histories
abbrev pub EntriesKeep : (Plan → List Entry → Type 0) → Type 0
EntriesKeep P =
    (w : World) (n : ℕ) (c : Placed) (list : NetList) (call : Call) (faulty : Bool) → GoesOn w n c list call faulty
    → P w.plan w.history → P w.plan (w.history ++ entry_of (host_of w) n call faulty ∷ [])

-- so does a change from outside
abbrev pub ChangesKeep : (Plan → List Entry → Type 0) → Type 0
ChangesKeep P =
    (w : World) (n : ℕ) (c : Placed) (call : Call) (faulty : Bool) → Changes w n c call faulty → P w.plan w.history
    → P w.plan (w.history ++ entry_of (host_of w) n call faulty ∷ [])

kept-done : (P : Plan → List Entry → Type 0) → EntriesKeep P → ChangesKeep P
    → (w : World) (n : ℕ) (c : Placed) (x : Next) → Legal w → IsReady w n c → next_of w c.command (own_replies w n) ≡ x
    → P w.plan w.history → P (done w n x).plan (done w n x).history
kept-done P keep change w n c (next.Answer a) legal ready is was = was
kept-done P keep change w n c (next.Call call faulty) legal ready is was =
    elim (goes-on w n c call faulty legal ready is) [
      | inl on ↦ keep w n c on.0 call faulty on.1 was
      | inr on ↦ change w n c call faulty on was
    ]

pub by-entries : (P : Plan → List Entry → Type 0) → ((p : Plan) → IsWellFormed p → P p []) → EntriesKeep P
    → ChangesKeep P → (w : World) → Legal w → P w.plan w.history
by-entries P start keep change _ (starts w begun) =
    subst (P w.plan) (sym (ap (λ (v : World). v.history) begun.is)) (start w.plan begun.plan)
by-entries P start keep change _ (steps v w n c legal ready is) =
    subst (λ (u : World). P u.plan u.history) (sym is)
    (kept-done P keep change v n c (next_of v c.command (own_replies v n)) legal ready refl
    (by-entries P start keep change v legal))
by-entries P start keep change _ (refused_memory v w n c legal ready is) =
    subst (λ (u : World). P u.plan u.history) (sym is) (by-entries P start keep change v legal)
by-entries P start keep change _ (turns v w legal less over is) =
    subst (λ (u : World). P u.plan u.history) (sym is) (by-entries P start keep change v legal)

-- ---- what each entry keeps of the commands with a list

abbrev pub ListFact : Type 1
ListFact = Plan → List Entry → ℕ → Placed → NetList → Type 0

abbrev pub AllListed : ListFact → Plan → List Entry → Type 0
AllListed R p h =
    (n : ℕ) (c : Placed) (list : NetList) → slice_get (commands_of p) n ≡ Some c → list_for p c.command ≡ Some list
    → R p h n c list

abbrev pub IsOwnKept : ListFact → Type 0
IsOwnKept R =
    (w : World) (n : ℕ) (c : Placed) (list : NetList) (call : Call) (faulty : Bool) → GoesOn w n c list call faulty
    → R w.plan w.history n c list → R w.plan (w.history ++ entry_of (host_of w) n call faulty ∷ []) n c list

abbrev pub IsOtherKept : ListFact → Type 0
IsOtherKept R =
    (p : Plan) (h : List Entry) (m : ℕ) (d : Placed) (list : NetList) (e : Entry) → is_of m e ≡ false → R p h m d list
    → R p (h ++ e ∷ []) m d list

listed-kept : (R : ListFact) → IsOwnKept R → IsOtherKept R → EntriesKeep (AllListed R)
listed-kept R own other w n c list call faulty on was = λ m d other_list at listed.
    let e = entry_of (host_of w) n call faulty in
    elim (eqb_tells m n) [
      | inl t ↦
          at_its_place w n c list call faulty on (R w.plan (w.history ++ e ∷ [])) m d other_list t.1 at listed
          (own w n c list call faulty on (was n c list on.ready.there on.listed))
      | inr f ↦
          other w.plan w.history m d other_list e (apart-entry w n m call faulty f.1) (was m d other_list at listed)
    ]

listed-changed : (R : ListFact) → IsOtherKept R → ChangesKeep (AllListed R)
listed-changed R other w n c call faulty on was = λ m d list at listed.
    let e = entry_of (host_of w) n call faulty in
    elim (eqb_tells m n) [
      | inl t ↦ absurd (no_list_there w n c call faulty on m d list t.1 at listed)
      | inr f ↦ other w.plan w.history m d list e (apart-entry w n m call faulty f.1) (was m d list at listed)
    ]

pub by-listed : (R : ListFact) → ((p : Plan) (n : ℕ) (c : Placed) (list : NetList) → R p [] n c list) → IsOwnKept R
    → IsOtherKept R → (w : World) → Legal w → AllListed R w.plan w.history
by-listed R start own other w legal =
    by-entries (AllListed R) (λ p well n c list at listed. start p n c list) (listed-kept R own other)
    (listed-changed R other) w legal

-- ---- what each entry keeps of the commands that aren't answered

abbrev pub OpenFact : Type 1
OpenFact = Plan → List Entry → ℕ → Placed → Type 0

abbrev pub AllOpen : OpenFact → World → Type 0
AllOpen Q w =
    (m : ℕ) (d : Placed) → slice_get (commands_of w.plan) m ≡ Some d → slice_get w.answers m ≡ Some None
    → Q w.plan w.history m d

abbrev pub IsOpenKept : OpenFact → Type 0
IsOpenKept Q =
    (w : World) (n : ℕ) (c : Placed) (call : Call) (faulty : Bool) → Goes w n c call faulty → AllOpen Q w
    → AllOpen Q (with_entry w (entry_of (host_of w) n call faulty))

open-answered : (Q : OpenFact) (w : World) (n : ℕ) (c : Placed) (a : Answer) → IsReady w n c → AllOpen Q w
    → AllOpen Q (answered w n a)
open-answered Q w n c a ready was = λ m d at is_open. elim (eqb_tells m n) [
  | inl t ↦
      absurd (none-some a (same_Some None (Some a)
      (sym is_open
      ∙ ap (slice_get (slice_set w.answers n (Some a))) t.1
      ∙ slice_get-set_same w.answers n (Some a) (slice_get_within w.answers n None ready.unanswered))))
  | inr f ↦ was m d at (sym (slice_get-set_other w.answers n m (Some a) f.1) ∙ is_open)
]

open-done : (Q : OpenFact) → IsOpenKept Q → (w : World) (n : ℕ) (c : Placed) (x : Next) → Legal w → IsReady w n c
    → next_of w c.command (own_replies w n) ≡ x → AllOpen Q w → AllOpen Q (done w n x)
open-done Q keep w n c (next.Answer a) legal ready is was = open-answered Q w n c a ready was
open-done Q keep w n c (next.Call call faulty) legal ready is was =
    keep w n c call faulty (goes-on w n c call faulty legal ready is) was

pub by-open : (Q : OpenFact) → ((p : Plan) (m : ℕ) (d : Placed) → Q p [] m d) → IsOpenKept Q → (w : World) → Legal w
    → AllOpen Q w
by-open Q start keep _ (starts w begun) = λ m d at is_open.
    subst (λ h. Q w.plan h m d) (sym (ap (λ (v : World). v.history) begun.is)) (start w.plan m d)
by-open Q start keep _ (steps v w n c legal ready is) =
    subst (AllOpen Q) (sym is)
    (open-done Q keep v n c (next_of v c.command (own_replies v n)) legal ready refl (by-open Q start keep v legal))
by-open Q start keep _ (refused_memory v w n c legal ready is) =
    subst (AllOpen Q) (sym is) (open-answered Q v n c OutOfMemory ready (by-open Q start keep v legal))
by-open Q start keep _ (turns v w legal less over is) = subst (AllOpen Q) (sym is) (by-open Q start keep v legal)

-- ---- the host after an entry

-- what holds of the host as it is and after the call holds after the entry
pub on-entry : (P : Host → Type 0) (k : Host) (n : ℕ) (call : Call) (faulty : Bool) → P k
    → (faulty ≡ false → P (apply k call).0) → P (after_entry k (entry_of k n call faulty))
on-entry P k n call true h g = h
on-entry P k n call false h g = subst P (sym (host-made k n call)) (g refl)

pub sound-entered : (w : World) (n : ℕ) (call : Call) (faulty : Bool) → Legal w
    → (faulty ≡ false → IsAllowed (host_of w) call)
    → IsSound (after_entry (host_of w) (entry_of (host_of w) n call faulty))
sound-entered w n call faulty legal allowed =
    let sound = sound_host w legal in
    on-entry IsSound (host_of w) n call faulty sound (λ f. IsSound-apply (host_of w) call sound (allowed f))
