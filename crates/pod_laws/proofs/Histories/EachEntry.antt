-- What each entry does to the host, because the last one does.
use Rattle.pod_laws.proofs.Names.{◌≡◌, ℕ, ◌+◌, Bool, true, List, [], ◌∷◌, ◌++◌, sym, ◌∙◌, ap, subst, inl, inr, arith}
use Rattle.pod_laws.proofs.Names.{both_ways, NetList, Call, Host, is_of_network, Command, Verb, Placed, World, after}
use Rattle.pod_laws.proofs.Names.{entry_of, host_of, after_entry, Entry, Plan, after-append, ready_is, split_nil}
use Rattle.pod_laws.proofs.Names.{split_snoc}
use Rattle.pod_laws.specs.Single.{AllDo, EachEntry, ByVerb}
use Rattle.pod_laws.proofs.Histories.{Steps.{Changes, GoesOn, by-entries}, Turns.change-of}

-- one entry more
do-next : (Does : Plan → Entry → Host → Host → Type 0) (w : World) (x : Entry)
    → Does w.plan x (host_of w) (after_entry (host_of w) x) → AllDo Does w.plan w.history
    → AllDo Does w.plan (w.history ++ x ∷ [])
do-next Does w x now was = λ before later e is.
    let opening = w.plan.pods.opening in
    elim (split_snoc w.history before later x e is) [
      | inl t ↦
          let P : List Entry → Entry → Type 0 = λ h y. Does w.plan y (after opening h) (after opening (h ++ y ∷ [])) in
          let at_host : P w.history x =
          subst (Does w.plan x (host_of w)) (sym (after-append opening w.history x)) now in
          subst (λ h. P h e) t.1 (subst (P w.history) t.2 at_host)
      | inr t ↦ was before t.0 e t.2
    ]

-- the entry of a command with a list does so
abbrev pub DoesNow : (Plan → Entry → Host → Host → Type 0) → Type 0
DoesNow Does =
    (w : World) (n : ℕ) (c : Placed) (list : NetList) (call : Call) (faulty : Bool) → GoesOn w n c list call faulty
    → Does w.plan (entry_of (host_of w) n call faulty) (host_of w)
    (after_entry (host_of w) (entry_of (host_of w) n call faulty))

-- so does a change from outside
abbrev pub DoesOutside : (Plan → Entry → Host → Host → Type 0) → Type 0
DoesOutside Does = (w : World) (n : ℕ) (c : Placed) (call : Call) (faulty : Bool) → Changes w n c call faulty
    → Does w.plan (entry_of (host_of w) n call faulty) (host_of w)
    (after_entry (host_of w) (entry_of (host_of w) n call faulty))

pub each-entry : (Does : Plan → Entry → Host → Host → Type 0) → DoesNow Does → DoesOutside Does → EachEntry Does
each-entry Does now change w legal =
    by-entries (AllDo Does) (λ p well before later e split. absurd (split_nil before later e split))
    (λ v n c list call faulty on was.
    do-next Does v (entry_of (host_of v) n call faulty) (now v n c list call faulty on) was)
    (λ v n c call faulty on was. do-next Does v (entry_of (host_of v) n call faulty) (change v n c call faulty on) was)
    w legal

-- ---- by the verb

-- the entry of a command of such a verb does so
abbrev pub DoesByVerb : (Verb → Type 0) → (Command → Host → Host → Type 0) → Type 0
DoesByVerb IsOfVerb Does =
    (w : World) (n : ℕ) (c : Placed) (list : NetList) (call : Call) (faulty : Bool) → GoesOn w n c list call faulty
    → IsOfVerb c.command.verb
    → Does c.command (host_of w) (after_entry (host_of w) (entry_of (host_of w) n call faulty))

by-now : (IsOfVerb : Verb → Type 0) (Does : Command → Host → Host → Type 0) → DoesByVerb IsOfVerb Does
    → DoesNow (ByVerb IsOfVerb Does)
by-now IsOfVerb Does now w n c list call faulty on = λ m d at number verb.
    let x = entry_of (host_of w) n call faulty in
    let place : m ≡ n = let a : n + 1 ≡ m + 1 = number in omega (arith, a) in
    let same : d ≡ c = ready_is w n m c d on.ready place at in
    subst (λ (z : Placed). Does z.command (host_of w) (after_entry (host_of w) x)) (sym same)
    (now w n c list call faulty on (subst (λ (z : Placed). IsOfVerb z.command.verb) same verb))

-- a command with a list has no entry from outside
pub by-outside : (IsOfVerb : Verb → Type 0) (Does : Command → Host → Host → Type 0)
    → ((v : Verb) → IsOfVerb v → is_of_network v ≡ true) → DoesOutside (ByVerb IsOfVerb Does)
by-outside IsOfVerb Does listed w n c call faulty on = λ m d at number verb.
    let place : m ≡ n = let a : n + 1 ≡ m + 1 = number in omega (arith, a) in
    let same : d ≡ c = ready_is w n m c d on.ready place at in
    absurd (both_ways (is_of_network c.command.verb) (change-of w n c call faulty on).verb_is
    (ap (λ (z : Placed). is_of_network z.command.verb) (sym same) ∙ listed d.command.verb verb))

pub each-entry_of : (IsOfVerb : Verb → Type 0) (Does : Command → Host → Host → Type 0)
    → ((v : Verb) → IsOfVerb v → is_of_network v ≡ true) → DoesByVerb IsOfVerb Does → EachEntry (ByVerb IsOfVerb Does)
each-entry_of IsOfVerb Does listed now =
    each-entry (ByVerb IsOfVerb Does) (by-now IsOfVerb Does now) (by-outside IsOfVerb Does listed)
