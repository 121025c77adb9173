-- Histories with one entry more, and answers with one that is written.
use Rattle.pod_workers.proofs.Names.{◌≡◌, ◌≢◌, ℕ, zero, suc, ◌+◌, ◌-◌, ◌<◌, ◌≤◌, true, false, List, [], ◌∷◌, ◌++◌}
use Rattle.pod_workers.proofs.Names.{length, Some, slice_get, slice_set, refl, sym, ◌∙◌, ap, inl, inr, ◌⊎◌, arith}
use Rattle.pod_workers.proofs.Names.{eqb_tells, length-append, map-append, length-map, same_Some, none-some, Call}
use Rattle.pod_workers.proofs.Names.{Reply, Host}
use Rattle.std.proofs.lemmas.List.{map_push, Elements.filter-append, Sums.{count_by-le-length, length-filter}}
use Rattle.plugin_base.proofs.KeyLists.{filter-push_dropped, filter-push_kept}
use Rattle.pod_workers.specs.World.{is_of, own_entries, replies_in, replies_of, after, after_entry, last_entry}
use Rattle.pod_workers.specs.declared.plan.Entry.{Entry}
use Rattle.pod_workers.proofs.Lists.Splits.{split_nil}
use Rattle.kernel_types.proofs.ListLemmas.{slice_get-middle}

-- ---- a place that is written

pub slice_get-set_same : {X : Type 0} (xs : List X) (i : ℕ) (x : X) → i < length xs
    → slice_get (slice_set xs i x) i ≡ Some x
slice_get-set_same [] i x h = absurd (omega arith)
slice_get-set_same (y ∷ ys) zero x h = refl
slice_get-set_same (y ∷ ys) (suc i) x h = slice_get-set_same ys i x (omega arith)

pub slice_get-set_other : {X : Type 0} (xs : List X) (i j : ℕ) (x : X) → j ≢ i
    → slice_get (slice_set xs i x) j ≡ slice_get xs j
slice_get-set_other [] i j x h = refl
slice_get-set_other (y ∷ ys) zero zero x h = absurd (h refl)
slice_get-set_other (y ∷ ys) zero (suc j) x h = refl
slice_get-set_other (y ∷ ys) (suc i) zero x h = refl
slice_get-set_other (y ∷ ys) (suc i) (suc j) x h = slice_get-set_other ys i j x (λ e. h (ap suc e))

-- ---- one entry more

pub same_entry : (e g : Entry) → e.command ≡ g.command → e.call ≡ g.call → e.reply ≡ g.reply → e ≡ g
same_entry e g number call reply =
    let made : ℕ → Call → Reply → Entry = λ n k r. record { command = n; call = k; reply = r } in
    ap (λ (n : ℕ). made n e.call e.reply) number
    ∙ ap (λ (k : Call). made g.command k e.reply) call
    ∙ ap (made g.command g.call) reply

pub is_of-own : (n : ℕ) (e : Entry) → e.command ≡ n + 1 → is_of n e ≡ true
is_of-own n e is = elim (eqb_tells e.command (n + 1)) [ inl t ↦ t.0 | inr f ↦ absurd (f.1 is) ]

pub is_of-other : (n : ℕ) (e : Entry) → e.command ≢ n + 1 → is_of n e ≡ false
is_of-other n e not = elim (eqb_tells e.command (n + 1)) [ inl t ↦ absurd (not t.1) | inr f ↦ f.0 ]

pub own_entries-own : (n : ℕ) (h : List Entry) (e : Entry) → is_of n e ≡ true
    → own_entries n (h ++ e ∷ []) ≡ own_entries n h ++ e ∷ []
own_entries-own n h e is = filter-push_kept (is_of n) h e is

pub own_entries-other : (n : ℕ) (h : List Entry) (e : Entry) → is_of n e ≡ false
    → own_entries n (h ++ e ∷ []) ≡ own_entries n h
own_entries-other n h e is = filter-push_dropped (is_of n) h e is

pub replies_of-own : (n : ℕ) (h : List Entry) (e : Entry) → e.command ≡ n + 1
    → replies_of n (h ++ e ∷ []) ≡ replies_of n h ++ e.reply ∷ []
replies_of-own n h e is =
    ap replies_in (own_entries-own n h e (is_of-own n e is)) ∙ map_push (λ (x : Entry). x.reply) (own_entries n h) e

pub replies_of-other : (n : ℕ) (h : List Entry) (e : Entry) → e.command ≢ n + 1
    → replies_of n (h ++ e ∷ []) ≡ replies_of n h
replies_of-other n h e not = ap replies_in (own_entries-other n h e (is_of-other n e not))

-- a command has no more entries than the history
pub length-replies_of : (n : ℕ) (h : List Entry) → length (replies_of n h) ≤ length h
length-replies_of n h =
    rw (length-map (own_entries n h) (λ (e : Entry). e.reply), length-filter (is_of n) h)
    (count_by-le-length (is_of n) h)

pub after-append : (host : Host) (es : List Entry) (e : Entry)
    → after host (es ++ e ∷ []) ≡ after_entry (after host es) e
after-append host [] e = refl
after-append host (x ∷ xs) e = after-append (after_entry host x) xs e

-- ---- parts of a history

pub replies_of-append : (n : ℕ) (g h : List Entry) → replies_of n (g ++ h) ≡ replies_of n g ++ replies_of n h
replies_of-append n g h =
    ap replies_in (filter-append (is_of n) g h)
    ∙ map-append (λ (x : Entry). x.reply) (own_entries n g) (own_entries n h)

-- a command of which an entry stands in the history has a reply
pub has_reply : (n : ℕ) (h before rest : List Entry) (e : Entry) → h ≡ before ++ e ∷ rest → e.command ≡ n + 1
    → replies_of n h ≡ [] → ⊥
has_reply n h before rest e at own none =
    elim (eqb_tells e.command (n + 1)) [
      | inl t ↦
          let here : replies_of n (e ∷ rest) ≡ e.reply ∷ replies_of n rest = rw t.0 refl in
          split_nil (replies_of n before) (replies_of n rest) e.reply
          (sym none
          ∙ ap (replies_of n) at
          ∙ replies_of-append n before (e ∷ rest)
          ∙ ap (λ rs. replies_of n before ++ rs) here)
      | inr f ↦ absurd (f.1 own)
    ]

-- a history is empty, or has a last entry
pub empty_or_last : (h : List Entry) → (h ≡ []) ⊎ ((before : List Entry) × (e : Entry) × (h ≡ before ++ e ∷ []))
empty_or_last [] = inl refl
empty_or_last (x ∷ xs) = elim (empty_or_last xs) [
  | inl none ↦ inr ([], x, ap (λ l. x ∷ l) none)
  | inr is ↦ inr (x ∷ is.0, is.1, ap (λ l. x ∷ l) is.2)
]

pub last_entry-append : (h : List Entry) (e : Entry) → last_entry (h ++ e ∷ []) ≡ Some e
last_entry-append h e =
    let long = length-append h (e ∷ []) in
    let at : length (h ++ e ∷ []) - 1 ≡ length h = omega arith in
    ap (slice_get (h ++ e ∷ [])) at ∙ slice_get-middle h [] e

pub last_entry-splits : (h : List Entry) (e : Entry) → last_entry h ≡ Some e
    → (before : List Entry) × (h ≡ before ++ e ∷ [])
last_entry-splits h e is = elim (empty_or_last h) [
  | inl none ↦ absurd (none-some e (ap last_entry (sym none) ∙ is))
  | inr split ↦ (
    split.0,
    split.2
        ∙ ap (λ x. split.0 ++ x ∷ [])
        (same_Some split.1 e (sym (last_entry-append split.0 split.1) ∙ ap last_entry (sym split.2) ∙ is)),
  )
]

-- a command has no reply, or a first entry
pub entry_or_none : (n : ℕ) (h : List Entry)
    → (replies_of n h ≡ [])
    ⊎ ((before rest : List Entry) × (e : Entry) × (h ≡ before ++ e ∷ rest) × (e.command ≡ n + 1)
    × (replies_of n before ≡ []))
entry_or_none n [] = inl refl
entry_or_none n (x ∷ xs) = elim (eqb_tells x.command (n + 1)) [
  | inl t ↦ inr ([], xs, x, refl, t.1, refl)
  | inr f ↦ elim (entry_or_none n xs) [
    | inl none ↦ inl (rw f.0 none)
    | inr is ↦ inr (x ∷ is.0, is.1, is.2, ap (λ l. x ∷ l) is.3, is.4, rw f.0 is.5)
  ]
]

-- what was written is written back
pub set-back : {X : Type 0} (xs : List X) (i : ℕ) (x y : X) → slice_get xs i ≡ Some x
    → slice_set (slice_set xs i y) i x ≡ xs
set-back [] i x y at = absurd (none-some x at)
set-back (z ∷ zs) zero x y at = ap (λ q. q ∷ zs) (sym (same_Some z x at))
set-back (z ∷ zs) (suc i) x y at = ap (λ l. z ∷ l) (set-back zs i x y at)
