-- A GC after another one leaves what the first was to keep.
use Rattle.pod_laws.proofs.Names.{◌≡◌, ℕ, ◌≤◌, Bool, true, false, List, [], ◌∷◌, length, refl, sym, ◌∙◌, ap, subst, inl}
use Rattle.pod_laws.proofs.Names.{inr, arith, filter, if◌then◌else◌, filter-within, NetList, is_of_network}
use Rattle.pod_laws.proofs.Names.{is_exclusive_verb, Command, DropsOnly, Host, keep, stays, Bounds, Entry}
use Rattle.pod_laws.proofs.Names.{listed_network, none-or-some}
use Rattle.cni_addr.proofs.Lists.{filter-every}
use Rattle.pod_file.specs.declared.command.ValidAtt.{ValidAtt}
use Rattle.cni_errors.specs.declared.answer.Answer.TheVariants as answers
use Rattle.gc_sweep.proofs.{Kept.host_of_parts, Lists.count_drops}
use Rattle.pod_laws.specs.{Answers.OrCutOff, Collected.{CollectionsInARowKeep, CollectionsFillTheirRounds}}
use Rattle.pod_laws.specs.{Collected.{IsCleanCollection, IsCollectionAnswer}, Moments.{host_at_end, host_at_round}}
use Rattle.pod_laws.specs.Moments.{host_at_start, own_entries}
use Rattle.pod_laws.proofs.Collected.AloneRounds.{end-round, start-after, start-round}
use Rattle.pod_laws.proofs.Collected.Answered.{collections_are_answered, collections_are_bounded}

-- ---- lists that lost elements

drops-length : {X : Type 0} (old new : List X) → DropsOnly (λ x. true) old new → length new ≤ length old
drops-length old new d = rw (filter-every new, filter-every old) at (count_drops (λ x. true) (λ x. true) old new d)

drops-none : {X : Type 0} (old new : List X) → DropsOnly (λ x. true) old new → length old ≤ length new → new ≡ old
drops-none [] new d long = d
drops-none (x ∷ old) [] d long = absurd (omega arith)
drops-none (x ∷ old) (y ∷ new) d long = elim d [
  | inl same ↦ let rest = drops-none old new same.1 (omega arith) in let head = same.0 in cc
  | inr drop ↦ absurd (let shorter = drops-length old (y ∷ new) drop.1 in omega arith)
]

filter-same-if : {X : Type 0} (a b : Bool) (x y : X) (fs gs : List X) → x ≡ y → a ≡ b → DropsOnly (λ x. true) fs gs
    → DropsOnly (λ x. true) (if a then x ∷ fs else fs) (if b then y ∷ gs else gs)
filter-same-if true true x y fs gs same test d = inl (same, d)
filter-same-if true false x y fs gs same test d = cc
filter-same-if false true x y fs gs same test d = cc
filter-same-if false false x y fs gs same test d = d

filter-drop-if : {X : Type 0} (b : Bool) (x : X) (fs gs : List X) → DropsOnly (λ x. true) fs gs
    → DropsOnly (λ x. true) (if b then x ∷ fs else fs) gs
filter-drop-if true x fs [] d = (refl, d)
filter-drop-if true x fs (y ∷ gs) d = inr (refl, d)
filter-drop-if false x fs gs d = d

filter-drops : {X : Type 0} (p : X → Bool) (old new : List X) → DropsOnly (λ x. true) old new
    → DropsOnly (λ x. true) (filter p old) (filter p new)
filter-drops p [] new d = ap (filter p) d
filter-drops p (x ∷ old) [] d = filter-drop-if (p x) x (filter p old) [] (filter-drops p old [] d.1)
filter-drops p (x ∷ old) (y ∷ new) d = elim d [
  | inl same ↦
      filter-same-if (p x) (p y) x y (filter p old) (filter p new) same.0 (ap p same.0) (filter-drops p old new same.1)
  | inr drop ↦ filter-drop-if (p x) x (filter p old) (filter p (y ∷ new)) (filter-drops p old (y ∷ new) drop.1)
]

-- what passes is the same in a list between
between : {X : Type 0} (p : X → Bool) (xs ys : List X) → DropsOnly (λ x. true) ys (filter p xs)
    → DropsOnly (λ x. true) xs ys → filter p ys ≡ filter p xs
between p xs ys lower upper =
    let low = drops-length (filter p ys) (filter p (filter p xs)) (filter-drops p ys (filter p xs) lower) in
    let same : length (filter p (filter p xs)) ≡ length (filter p xs) = ap length (filter-within p p (λ x h. h) xs) in
    drops-none (filter p xs) (filter p ys) (filter-drops p xs ys upper) (omega arith)

-- ---- what is to be kept is the same after a GC

kept-same : (c : Command) (old new : Host) → Bounds c old new → keep c.network c.valid new ≡ keep c.network c.valid old
kept-same c old new b =
    host_of_parts (keep c.network c.valid new) (keep c.network c.valid old)
    (ap (filter (λ n. stays c.network c.valid n.tag)) b.upper.namespaces)
    (between (λ l. stays c.network c.valid l.tag) old.links new.links b.lower.removes.links b.upper.removes.links)
    (between (λ a. stays c.network c.valid a.tag) old.addresses new.addresses b.lower.removes.addresses
    b.upper.removes.addresses)
    (between (λ r. stays c.network c.valid r.tag) old.routes new.routes b.lower.removes.routes b.upper.removes.routes)
    (between (λ r. stays c.network c.valid r.tag) old.rules new.rules b.lower.removes.rules b.upper.removes.rules)
    (between (λ s. stays c.network c.valid s.tag) old.settings new.settings b.lower.removes.settings
    b.upper.removes.settings)
    (between (λ l. stays c.network c.valid l.tag) old.leases new.leases b.lower.removes.leases b.upper.removes.leases)
    (between (λ x. stays c.network c.valid x.tag) old.cached new.cached b.lower.removes.cached b.upper.removes.cached)
    b.upper.lasts

clean-of : (list : NetList) (c : Command) (es : List Entry) (old new : Host)
    → OrCutOff (IsCollectionAnswer list c es old new) answers.Yes → IsCleanCollection list c es old new answers.Yes
clean-of list c es old new (inl (inl old_list)) = absurd (let e = old_list.answer in cc)
clean-of list c es old new (inl (inr (inl disabled))) = absurd (let e = disabled.answer in cc)
clean-of list c es old new (inl (inr (inr (inl clean)))) = clean
clean-of list c es old new (inl (inr (inr (inr faulty)))) = absurd (let e = faulty.answer in cc)
clean-of list c es old new (inr cut) = absurd (let e : false ≡ true = cut in cc)

pub collections_fill_their_rounds : CollectionsFillTheirRounds
collections_fill_their_rounds w legal n c at gc some =
    (start-round w legal n c at (ap is_exclusive_verb gc) some, end-round w legal n c at (ap is_exclusive_verb gc) some)

pub collections_in_a_row_keep : CollectionsInARowKeep
collections_in_a_row_keep w legal m n d c at_m at_n row answered =
    let found = listed_network w legal n c at_n (ap is_of_network row.second) in
    let clean =
    clean-of found.0 c.command (own_entries n w.history) (host_at_start w n) (host_at_end w n)
    (collections_are_answered w legal n c answers.Yes at_n row.second answered found.0 found.1) in
    let P : List ℕ → List ValidAtt → Type 0 = λ network valid.
    host_at_end w n ≡ keep network valid (host_at_start w n) in
    let ended : P d.command.network d.command.valid =
    subst (λ x. P x d.command.valid) (sym row.network) (subst (P c.command.network) (sym row.valid) clean.leaves) in
    let kept : Host → Host = keep d.command.network d.command.valid in
    let same : kept (host_at_start w n) ≡ kept (host_at_round w d.round) =
    elim (none-or-some (own_entries m w.history)) [
      | inl none ↦
          ap kept (start-after w legal m n d c at_m at_n (ap is_exclusive_verb row.first)
          (ap is_exclusive_verb row.second) row.round none clean.called)
      | inr some ↦
          let first = collections_fill_their_rounds w legal m d at_m row.first some in
          let second = collections_fill_their_rounds w legal n c at_n row.second clean.called in
          ap kept (second.0 ∙ ap (host_at_round w) row.round ∙ sym first.1)
          ∙ kept-same d.command (host_at_start w m) (host_at_end w m)
          (collections_are_bounded w legal m d at_m row.first some)
          ∙ ap kept first.0
    ] in
    ended ∙ same
