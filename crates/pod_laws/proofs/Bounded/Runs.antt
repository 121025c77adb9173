-- A run makes no more calls than were left to it before its first entry.
use Rattle.pod_laws.proofs.Names.{◌≡◌, ℕ, ◌+◌, ◌≤◌, true, List, [], ◌∷◌, ◌++◌, length, Some, slice_get, refl, ◌∙◌, ap}
use Rattle.pod_laws.proofs.Names.{inl, inr, arith, both_ways, length-append, length-map, NetList, Command, Share}
use Rattle.pod_laws.proofs.Names.{share_of, att_of, advance, start_state, Legal, Placed, commands_of, list_for, World}
use Rattle.pod_laws.proofs.Names.{host_of, own_replies, entry_of, Entry, Plan, calls_left, after-append, entry_or_none}
use Rattle.pod_laws.proofs.Names.{has_reply, sound_host, split_nil, split_snoc, IsNoCollection}
use Rattle.pod_workers.specs.CallCounts.{AddsInAtMost}
use Rattle.pod_workers.proofs.{Ends.StepsLeft.{entry-falls, none-stays}, Hosts.Replies.true-from}
use Rattle.pod_laws.specs.Moments.{is_of, objects_after, own_entries, until_last}
use Rattle.pod_laws.proofs.Histories.Entries.{is_of-own, own_entries-own, own_entries-other, replies_in, no-entries}
use Rattle.pod_laws.proofs.Histories.{Entries.{until_last-own, until_last-other}, RunFacts.{state_by, state_by-append}}
use Rattle.pod_laws.proofs.Histories.{Runs.{own-state, share-kept}, Steps.{AllListed, IsOtherKept, IsOwnKept}}
use Rattle.pod_laws.proofs.Histories.Steps.{by-listed}

-- ---- calls made and calls left

-- the calls that a run has made, and the most that it still makes after its last one
abbrev made_and_left : Plan → List Entry → ℕ → Command → NetList → ℕ → ℕ
made_and_left p h n c list most =
    length (own_entries n h)
    + calls_left most list c (state_by list c (own_entries n h)) (objects_after p (att_of c) (until_last n h))

-- the most calls of a run that begins after this history
abbrev at_start : Plan → List Entry → Command → NetList → ℕ → ℕ
at_start p before c list most = calls_left most list c (start_state list c) (objects_after p (att_of c) before)

-- its first call, and the most calls after that
abbrev at_first : Plan → List Entry → Entry → Command → NetList → ℕ → ℕ
at_first p before e c list most =
    1
    + calls_left most list c (advance list c 1 (start_state list c) e.reply)
    (objects_after p (att_of c) (before ++ e ∷ []))

-- since its first entry the calls that are left fell at each
abbrev RunFrom : Plan → List Entry → ℕ → Placed → NetList → Type 0
RunFrom p h n c list =
    (most : ℕ) (before rest : List Entry) (e : Entry) → AddsInAtMost list c.command most
    → IsNoCollection (start_state list c.command) → h ≡ before ++ e ∷ rest → e.command ≡ n + 1
    → own_entries n before ≡ []
    → (made_and_left p h n c.command list most ≤ at_start p before c.command list most)
    × (made_and_left p h n c.command list most ≤ at_first p before e c.command list most)

-- ---- an entry of another command

from-other : IsOtherKept RunFrom
from-other p h n c list x far was = λ most before rest e in_most none split own first.
    let same : made_and_left p (h ++ x ∷ []) n c.command list most ≡ made_and_left p h n c.command list most =
    ap (λ es.
    length es
    + calls_left most list c.command (state_by list c.command es)
    (objects_after p (att_of c.command) (until_last n (h ++ x ∷ []))))
    (own_entries-other n h x far)
    ∙ ap (λ l.
    length (own_entries n h)
    + calls_left most list c.command (state_by list c.command (own_entries n h))
    (objects_after p (att_of c.command) l))
    (until_last-other n h x far) in
    elim (split_snoc h before rest x e split) [
      | inl t ↦ absurd (both_ways (is_of n x) far (ap (is_of n) t.2 ∙ is_of-own n e own))
      | inr t ↦ (let earlier = was most before t.0 e in_most none t.2 own first in (omega arith, omega arith))
    ]

-- ---- an own entry

from-own : IsOwnKept RunFrom
from-own w n c list call faulty on was = λ most before rest e in_most none split own first.
    let h = w.history in
    let x = entry_of (host_of w) n call faulty in
    let es = own_entries n h in
    let att = att_of c.command in
    let mine : is_of n x ≡ true = is_of-own n x refl in
    let state = state_by list c.command es in
    let next = advance list c.command (length es + 1) state x.reply in
    let st = own-state w n c list call faulty on in
    let fall = entry-falls most list c.command (length es + 1) n state (host_of w) call faulty in_most
    (record { sound = sound_host w on.legal; allowed = on.allowed }) st.of_plugins
    (true-from IsNoCollection list c.command 0 (start_state list c.command) (replies_in es)
    (none-stays list c.command) none)
    st.turn_is in
    let longer = length-append es (x ∷ []) in
    let entered : made_and_left w.plan (h ++ x ∷ []) n c.command list most
    ≡ length (es ++ x ∷ []) + calls_left most list c.command next (objects_after w.plan att (h ++ x ∷ [])) =
    ap (λ l.
    length l
    + calls_left most list c.command (state_by list c.command l)
    (objects_after w.plan att (until_last n (h ++ x ∷ []))))
    (own_entries-own n h x mine)
    ∙ ap (λ s.
    length (es ++ x ∷ [])
    + calls_left most list c.command s (objects_after w.plan att (until_last n (h ++ x ∷ []))))
    (state_by-append list c.command es x)
    ∙ ap (λ l. length (es ++ x ∷ []) + calls_left most list c.command next (objects_after w.plan att l))
    (until_last-own n h x mine) in
    let host_is =
    ap (λ k. calls_left most list c.command next (share_of att k)) (after-append w.plan.pods.opening h x) in
    elim (split_snoc h before rest x e split) [
      | inl t ↦
          let empty : es ≡ [] = ap (own_entries n) t.1 ∙ first in
          let start : length es + calls_left most list c.command state (share_of att (host_of w))
          ≡ 0 + at_start w.plan before c.command list most =
          ap (λ l. length l + calls_left most list c.command (state_by list c.command l) (share_of att (host_of w)))
          empty
          ∙ ap (λ l. 0 + calls_left most list c.command (start_state list c.command) (objects_after w.plan att l))
          t.1 in
          let here : length (es ++ x ∷ [])
          + calls_left most list c.command next (objects_after w.plan att (h ++ x ∷ []))
          ≡ at_first w.plan before e c.command list most =
          ap (λ l.
          length (l ++ x ∷ [])
          + calls_left most list c.command
          (advance list c.command (length l + 1) (state_by list c.command l) x.reply)
          (objects_after w.plan att (h ++ x ∷ [])))
          empty
          ∙ ap (λ l. at_first w.plan l x c.command list most) t.1
          ∙ ap (λ y. at_first w.plan before y c.command list most) t.2 in
          (omega arith, omega arith)
      | inr t ↦ elim (share-kept.since w on.legal n c on.ready.there on.ready.unanswered) [
        | inl nothing ↦ absurd (has_reply n h before t.0 e t.2 own nothing)
        | inr still ↦
            let earlier = was most before t.0 e in_most none t.2 own first in
            let same = ap (λ s. length es + calls_left most list c.command state s) still in
            (omega arith, omega arith)
      ]
    ]

-- ---- every history

from-first : (w : World) → Legal w → AllListed RunFrom w.plan w.history
from-first w legal =
    by-listed RunFrom
    (λ p n c list most before rest e in_most none split own first. absurd (split_nil before rest e split)) from-own
    from-other w legal

-- the calls that a run has made, against what was left before its first, and after it
pub made-within : (w : World) → Legal w
    → (n : ℕ) (c : Placed) (list : NetList) (most : ℕ) (before rest : List Entry) (e : Entry)
    → slice_get (commands_of w.plan) n ≡ Some c → list_for w.plan c.command ≡ Some list
    → AddsInAtMost list c.command most → IsNoCollection (start_state list c.command) → w.history ≡ before ++ e ∷ rest
    → e.command ≡ n + 1 → own_entries n before ≡ []
    → (length (own_replies w n)
    ≤ calls_left most list c.command (start_state list c.command) (objects_after w.plan (att_of c.command) before))
    × (length (own_replies w n)
    ≤ 1
    + calls_left most list c.command (advance list c.command 1 (start_state list c.command) e.reply)
    (objects_after w.plan (att_of c.command) (before ++ e ∷ [])))
made-within w legal n c list most before rest e at listed in_most none split own first =
    let all = from-first w legal n c list at listed most before rest e in_most none split own first in
    let long = length-map (own_entries n w.history) (λ (y : Entry). y.reply) in
    (omega arith, omega arith)

-- ---- the first entry

-- where what was left before the first call is no more than a number, no more calls were made
pub made-below : (w : World) → Legal w → (n : ℕ) (c : Placed) (list : NetList) (most bound : ℕ)
    → slice_get (commands_of w.plan) n ≡ Some c → list_for w.plan c.command ≡ Some list
    → AddsInAtMost list c.command most
    → IsNoCollection (start_state list c.command)
    → ((s : Share) → calls_left most list c.command (start_state list c.command) s ≤ bound)
    → length (own_replies w n) ≤ bound
made-below w legal n c list most bound at listed in_most none few = elim (entry_or_none n w.history) [
  | inl nothing ↦
      let no_reply : length (own_replies w n) ≡ 0 = ap length nothing in
      omega arith
  | inr is ↦
      let made =
      (made-within w legal n c list most is.0 is.1 is.2 at listed in_most none is.3 is.4
      (no-entries (own_entries n is.0) is.5)).0 in
      let left = few (objects_after w.plan (att_of c.command) is.0) in
      omega arith
]
