-- A fact about every run that its own entries keep, where the host keeps enough between them.
use Rattle.pod_laws.proofs.Names.{◌≡◌, ℕ, ◌+◌, Bool, true, List, [], ◌∷◌, ◌++◌, length, refl, sym, ◌∙◌, ap, subst, inl}
use Rattle.pod_laws.proofs.Names.{inr, ◌⊎◌, arith, length-map, map-append, NetList, Command, Call, Host, State, advance}
use Rattle.pod_laws.proofs.Names.{start_state, state_after, Legal, Placed, World, IsReady, after, after_entry, host_of}
use Rattle.pod_laws.proofs.Names.{replies_of, entry_of, Entry, Plan, after-append}
use Rattle.pod_workers.proofs.Books.Kept.{state_from-append}
use Rattle.pod_laws.specs.Moments.{is_of, own_entries, until_last}
use Rattle.pod_laws.proofs.Histories.Entries.{is_of-own, own_entries-own, own_entries-other, replies_in, no-entries}
use Rattle.pod_laws.proofs.Histories.{Entries.{until_last-own, until_last-other}, Steps.{AllListed, AllOpen, GoesOn}}
use Rattle.pod_laws.proofs.Histories.Steps.{IsOtherKept, IsOwnKept, by-listed}

-- the state of a run after these entries
abbrev pub state_by : NetList → Command → List Entry → State
state_by list c es = state_after list c (replies_in es)

pub state_by-append : (list : NetList) (c : Command) (es : List Entry) (e : Entry)
    → state_by list c (es ++ e ∷ []) ≡ advance list c (length es + 1) (state_by list c es) e.reply
state_by-append list c es e =
    let rs = replies_in es in
    let long : 0 + length rs + 1 ≡ length es + 1 =
    let same = length-map es (λ (x : Entry). x.reply) in omega (arith, same) in
    ap (state_after list c) (map-append (λ (x : Entry). x.reply) es (e ∷ []))
    ∙ state_from-append list c 0 (start_state list c) rs e.reply
    ∙ ap (λ k. advance list c k (state_by list c es) e.reply) long

-- what holds of a run's entries, its state and the host at its last entry
abbrev pub HostFact : Type 1
HostFact = NetList → Command → List Entry → State → Host → Type 0

-- it holds before the first entry, whatever is there
abbrev pub StartsOn : HostFact → Type 0
StartsOn F = (list : NetList) (c : Command) (host : Host) → F list c [] (start_state list c) host

-- what a host keeps for a command from one of its entries to the next: of the host as it was and as it is
abbrev pub Keeping : Type 1
Keeping = Command → Host → Host → Type 0

-- it is kept where nothing happens, and for each command that isn't answered since its last entry
pub record IsKeptBetween (R : Keeping) : Type 0 where
  pub same : (c : Command) (host : Host) → R c host host
  pub since : (w : World) → Legal w
      → AllOpen (λ p h m d.
      (replies_of m h ≡ []) ⊎ R d.command (after p.pods.opening (until_last m h)) (after p.pods.opening h))
      w

-- each own entry keeps the fact, in a host that kept this since the last one
abbrev pub IsHostFact : Keeping → HostFact → Type 0
IsHostFact R F =
    (w : World) (n : ℕ) (c : Placed) (list : NetList) (call : Call) (faulty : Bool) (old : Host)
    → GoesOn w n c list call faulty → R c.command old (host_of w)
    → let e = entry_of (host_of w) n call faulty in
    let es = own_entries n w.history in
    F list c.command es (state_by list c.command es) old
    → F list c.command (es ++ e ∷ []) (advance list c.command (length es + 1) (state_by list c.command es) e.reply)
    (after_entry (host_of w) e)

abbrev pub RunAt : HostFact → Plan → List Entry → ℕ → Placed → NetList → Type 0
RunAt F p h m d list =
    F list d.command (own_entries m h) (state_by list d.command (own_entries m h))
    (after p.pods.opening (until_last m h))

abbrev pub EachRun : HostFact → Plan → List Entry → Type 0
EachRun F p h = AllListed (RunAt F) p h

-- the fact about a ready run, at a host of which enough was kept since
pub record IsNow (R : Keeping) (F : HostFact) (w : World) (n : ℕ) (c : Placed) (list : NetList) : Type 0 where
  pub old : Host
  pub keeps : R c.command old (host_of w)
  pub holds : F list c.command (own_entries n w.history) (state_by list c.command (own_entries n w.history)) old

run-now : (R : Keeping) (F : HostFact) → IsKeptBetween R → StartsOn F
    → (w : World) (n : ℕ) (c : Placed) (list : NetList) → Legal w → IsReady w n c → RunAt F w.plan w.history n c list
    → IsNow R F w n c list
run-now R F kept start w n c list legal ready last = elim (kept.since w legal n c ready.there ready.unanswered) [
  | inl none ↦
      let no_entry : own_entries n w.history ≡ [] = no-entries (own_entries n w.history) none in
      let P : List Entry → Type 0 = λ es. F list c.command es (state_by list c.command es) (host_of w) in
      record {
        old = host_of w;
        keeps = kept.same c.command (host_of w);
        holds = subst P (sym no_entry) (start list c.command (host_of w));
      }
  | inr keeps ↦ record { old = after w.plan.pods.opening (until_last n w.history); keeps = keeps; holds = last }
]

-- an entry of another command leaves what holds of a run
run-other : (F : HostFact) → IsOtherKept (RunAt F)
run-other F p h m d list e far was =
    subst (λ l. F list d.command l (state_by list d.command l) (after p.pods.opening (until_last m (h ++ e ∷ []))))
    (sym (own_entries-other m h e far))
    (subst (λ l.
    F list d.command (own_entries m h) (state_by list d.command (own_entries m h)) (after p.pods.opening l))
    (sym (until_last-other m h e far)) was)

run-own : (R : Keeping) (F : HostFact) → IsKeptBetween R → StartsOn F → IsHostFact R F → IsOwnKept (RunAt F)
run-own R F kept start step w n c list call faulty on last =
    let h = w.history in
    let e = entry_of (host_of w) n call faulty in
    let opening = w.plan.pods.opening in
    let own : is_of n e ≡ true = is_of-own n e refl in
    let es = own_entries n h in
    let before = run-now R F kept start w n c list on.legal on.ready last in
    let now = step w n c list call faulty before.old on before.keeps before.holds in
    let at_state =
    subst (λ st. F list c.command (es ++ e ∷ []) st (after_entry (host_of w) e))
    (sym (state_by-append list c.command es e)) now in
    let at_entries =
    subst (λ l. F list c.command l (state_by list c.command l) (after_entry (host_of w) e))
    (sym (own_entries-own n h e own)) at_state in
    let at_end : after_entry (host_of w) e ≡ after opening (until_last n (h ++ e ∷ [])) =
    sym (ap (after opening) (until_last-own n h e own) ∙ after-append opening h e) in
    subst (F list c.command (own_entries n (h ++ e ∷ [])) (state_by list c.command (own_entries n (h ++ e ∷ []))))
    at_end at_entries

-- a fact that holds at the start of each run, and that each own entry keeps, holds of every run at its last entry
pub each-run : (R : Keeping) (F : HostFact) → IsKeptBetween R → StartsOn F → IsHostFact R F → (w : World) → Legal w
    → EachRun F w.plan w.history
each-run R F kept start step w legal =
    by-listed (RunAt F) (λ p n c list. start list c.command _) (run-own R F kept start step) (run-other F) w legal

-- and of a run that goes on, at its last entry
pub each-run-now : (R : Keeping) (F : HostFact) → IsKeptBetween R → StartsOn F → IsHostFact R F
    → (w : World) (n : ℕ) (c : Placed) (list : NetList) (call : Call) (faulty : Bool) → GoesOn w n c list call faulty
    → IsNow R F w n c list
each-run-now R F kept start step w n c list call faulty on =
    run-now R F kept start w n c list on.legal on.ready
    (each-run R F kept start step w on.legal n c list on.ready.there on.listed)
