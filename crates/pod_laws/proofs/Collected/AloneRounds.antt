-- An exclusive command that makes a call starts with its round and ends with it.
use Rattle.pod_laws.proofs.Names.{◌≡◌, ◌≢◌, ℕ, ◌+◌, ◌≤◌, true, false, List, [], ◌∷◌, ◌++◌, Some, slice_get, refl, sym}
use Rattle.pod_laws.proofs.Names.{◌∙◌, ap, subst, inl, inr, ◌⊎◌, append_assoc, arith, filter-append, same_Some}
use Rattle.pod_laws.proofs.Names.{list_any, if◌then◌else◌, is_exclusive_verb, list_any-append_right, Legal, Placed}
use Rattle.pod_laws.proofs.Names.{commands_of, World, after, replies_of, Entry, Plan, entry_or_none, has_reply, fine}
use Rattle.pod_laws.proofs.Names.{cons_parts}
use Rattle.std.proofs.lemmas.Bool.{cases_lt, cases_order, le-ltb, lt-ltb, or_left}
use Rattle.std.specs.Prelude.{◌<◌}
use Rattle.plugin_base.proofs.Deletions.{empty_none}
use Rattle.pod_workers.specs.{Facts.{EachOne, IsEntryOf}, World.{at_number, replies_in}}
use Rattle.pod_workers.proofs.{Lists.Elements.at_number-is, Plans.WellFormedPlans.stand_alone}
use Rattle.pod_workers.proofs.Worlds.Facts.{each_follows, goes_by_rounds}
use Rattle.pod_laws.specs.Moments.{host_at_end, host_at_round, host_at_start, is_before, is_of, own_entries}
use Rattle.pod_laws.specs.Moments.{until_first, until_last, until_round}
use Rattle.pod_laws.proofs.Histories.{AloneRuns.until_first-own, Entries.{is_of-own, no-entries, same-place}}

-- ---- commands of a round

no-own : (m : ℕ) (h : List Entry) → replies_of m h ≡ [] → own_entries m h ≡ []
no-own m h none = no-entries (own_entries m h) none

alone-in : (w : World) → Legal w → (k m : ℕ) (x d : Placed) → slice_get (commands_of w.plan) k ≡ Some x
    → slice_get (commands_of w.plan) m ≡ Some d → x.round ≡ d.round → is_exclusive_verb d.command.verb ≡ true → k ≡ m
alone-in w legal k m x d at_k at_m round exclusive =
    stand_alone w.plan (fine w legal).plan k m x d at_k at_m round exclusive

-- ---- its first entry stands where its round starts

before-is : (p : Plan) (round : ℕ) (e : Entry) (n : ℕ) (c : Placed) → IsEntryOf p e n c → c.round < round
    → is_before round (at_number (commands_of p) e.command) ≡ true
before-is p round e n c of_e less =
    ap (is_before round) (at_number-is (commands_of p) e.command n of_e.number ∙ of_e.there) ∙ lt-ltb c.round round less

not-before : (p : Plan) (round : ℕ) (e : Entry) (n : ℕ) (c : Placed) → IsEntryOf p e n c → round ≤ c.round
    → is_before round (at_number (commands_of p) e.command) ≡ false
not-before p round e n c of_e within =
    ap (is_before round) (at_number-is (commands_of p) e.command n of_e.number ∙ of_e.there)
    ∙ le-ltb c.round round within

-- each of these is of an earlier round
abbrev AreOfEarlierRounds : Plan → ℕ → List Entry → Type 0
AreOfEarlierRounds p round h = EachOne h (λ before e. is_before round (at_number (commands_of p) e.command) ≡ true)

until_round-split : (p : Plan) (round : ℕ) (before rest : List Entry) (e : Entry) → AreOfEarlierRounds p round before
    → is_before round (at_number (commands_of p) e.command) ≡ false → until_round p round (before ++ e ∷ rest) ≡ before
until_round-split p round [] rest e are not = ap (λ b. if b then e ∷ until_round p round rest else []) not
until_round-split p round (x ∷ xs) rest e are not =
    ap (λ b. if b then x ∷ until_round p round (xs ++ e ∷ rest) else []) (are [] xs x refl)
    ∙ ap (λ l. x ∷ l)
    (until_round-split p round xs rest e (λ before later y is. are (x ∷ before) later y (ap (λ l. x ∷ l) is)) not)

-- no command from this round up to that of c has made a call
abbrev NoneSince : World → ℕ → Placed → Type 0
NoneSince w round c =
    (k : ℕ) (x : Placed) → slice_get (commands_of w.plan) k ≡ Some x → round ≤ x.round → x.round < c.round
    → own_entries k w.history ≡ []

earlier-rounds : (w : World) → Legal w → (n : ℕ) (c : Placed) (round : ℕ) (before rest : List Entry) (e : Entry)
    → is_exclusive_verb c.command.verb ≡ true → NoneSince w round c → w.history ≡ before ++ e ∷ rest
    → IsEntryOf w.plan e n c
    → replies_of n before ≡ [] → AreOfEarlierRounds w.plan round before
earlier-rounds w legal n c round before rest e exclusive since split of_e none = λ first later y is.
    let whole : w.history ≡ first ++ y ∷ (later ++ e ∷ rest) =
    split ∙ ap (λ l. l ++ e ∷ rest) is ∙ append_assoc first (y ∷ later) (e ∷ rest) in
    let follows = each_follows w legal first (later ++ e ∷ rest) y whole in
    let k = follows.place in
    let x = follows.by in
    let of_y : IsEntryOf w.plan y k x = follows.of in
    let ascend : x.round ≤ c.round = (goes_by_rounds w legal).entries first later rest y e k n x c whole of_y of_e in
    elim (cases_lt x.round round) [
      | inl less ↦ before-is w.plan round y k x of_y less
      | inr from ↦ absurd (elim (cases_order x.round c.round) [
        | inl same ↦
            let own : y.command ≡ n + 1 =
            of_y.number ∙ ap (λ j. j + 1) (alone-in w legal k n x c of_y.there of_e.there same exclusive) in
            has_reply n before first later y is own none
        | inr (inl less) ↦
            has_reply k w.history first (later ++ e ∷ rest) y whole of_y.number
            (ap replies_in (since k x of_y.there from less))
        | inr (inr more) ↦ absurd (omega arith)
      ])
    ]

starts-round : (w : World) → Legal w → (n : ℕ) (c : Placed) (round : ℕ) → slice_get (commands_of w.plan) n ≡ Some c
    → is_exclusive_verb c.command.verb ≡ true → own_entries n w.history ≢ [] → round ≤ c.round → NoneSince w round c
    → until_first n w.history ≡ until_round w.plan round w.history
starts-round w legal n c round at exclusive some within since = elim (entry_or_none n w.history) [
  | inl none ↦ absurd (some (no-own n w.history none))
  | inr is ↦
      let before = is.0 in
      let e = is.2 in
      let of_e : IsEntryOf w.plan e n c = record { number = is.4; there = at } in
      ap (until_first n) is.3 ∙ until_first-own n before e is.1 (no-own n before is.5) (is_of-own n e is.4)
      ∙ sym (ap (until_round w.plan round) is.3
      ∙ until_round-split w.plan round before is.1 e
      (earlier-rounds w legal n c round before is.1 e exclusive since is.3 of_e is.5)
      (not-before w.plan round e n c of_e within))
]

-- an exclusive command that made a call starts from the host at the start of its round
pub start-round : (w : World) → Legal w → (n : ℕ) (c : Placed) → slice_get (commands_of w.plan) n ≡ Some c
    → is_exclusive_verb c.command.verb ≡ true → own_entries n w.history ≢ []
    → host_at_start w n ≡ host_at_round w c.round
start-round w legal n c at exclusive some =
    ap (after w.plan.pods.opening)
    (starts-round w legal n c c.round at exclusive some (omega arith) (λ k x there from less. absurd (omega arith)))

-- one starts from the host at the start of the round before its own, where the one that stands alone there made no call
pub start-after : (w : World) → Legal w → (m n : ℕ) (d c : Placed) → slice_get (commands_of w.plan) m ≡ Some d
    → slice_get (commands_of w.plan) n ≡ Some c → is_exclusive_verb d.command.verb ≡ true
    → is_exclusive_verb c.command.verb ≡ true
    → c.round ≡ d.round + 1 → own_entries m w.history ≡ [] → own_entries n w.history ≢ []
    → host_at_start w n ≡ host_at_round w d.round
start-after w legal m n d c at_m at_n first second r none some =
    ap (after w.plan.pods.opening)
    (starts-round w legal n c d.round at_n second some (omega arith) (λ k x there from less.
    subst (λ j. own_entries j w.history ≡ [])
    (sym (alone-in w legal k m x d there at_m (let s : x.round ≡ d.round = omega arith in s) first)) none))

-- ---- its last entry stands where its round ends

first-or-later : (x y : Entry) (xs before rest : List Entry) → x ∷ xs ≡ before ++ y ∷ rest
    → (x ≡ y) ⊎ ((between : List Entry) × (xs ≡ between ++ y ∷ rest))
first-or-later x y xs [] rest is = inl (cons_parts x y xs rest is).0
first-or-later x y xs (z ∷ zs) rest is = inr (zs, (cons_parts x z xs (zs ++ y ∷ rest) is).1)

-- an entry from which on the command has one is of no later round
none-later : (w : World) → Legal w → (m k : ℕ) (d x : Placed) (before rest others later : List Entry) (e f : Entry)
    → w.history ≡ before ++ e ∷ rest → e ∷ rest ≡ others ++ f ∷ later → IsEntryOf w.plan e k x → IsEntryOf w.plan f m d
    → x.round < d.round + 1
none-later w legal m k d x before rest others later e f whole split of_e of_f =
    elim (first-or-later e f rest others later split) [
      | inl same ↦
          let place : k ≡ m = same-place m k e f of_e.number (sym same) of_f.number in
          let by : x ≡ d = same_Some x d (sym of_e.there ∙ ap (slice_get (commands_of w.plan)) place ∙ of_f.there) in
          let r : x.round ≡ d.round = ap (λ (y : Placed). y.round) by in
          omega arith
      | inr more ↦
          let ascend : x.round ≤ d.round =
          (goes_by_rounds w legal).entries before more.0 later e f k m x d
          (whole ∙ ap (λ l. before ++ e ∷ l) more.1) of_e of_f in
          omega arith
    ]

-- an entry that stands after all those of a command that stands alone is of a later round
all-later : (w : World) → Legal w → (m k : ℕ) (d x : Placed) (before rest : List Entry) (e : Entry)
    → slice_get (commands_of w.plan) m ≡ Some d → is_exclusive_verb d.command.verb ≡ true → own_entries m w.history ≢ []
    → w.history ≡ before ++ e ∷ rest
    → IsEntryOf w.plan e k x → replies_of m (e ∷ rest) ≡ [] → d.round + 1 ≤ x.round
all-later w legal m k d x before rest e at exclusive some whole of_e none = elim (entry_or_none m before) [
  | inl nothing ↦
      absurd (some (ap (own_entries m) whole
      ∙ filter-append (is_of m) before (e ∷ rest)
      ∙ ap (λ l. l ++ own_entries m (e ∷ rest)) (no-own m before nothing)
      ∙ no-own m (e ∷ rest) none))
  | inr is ↦
      let f = is.2 in
      let split : w.history ≡ is.0 ++ f ∷ (is.1 ++ e ∷ rest) =
      whole ∙ ap (λ l. l ++ e ∷ rest) is.3 ∙ append_assoc is.0 (f ∷ is.1) (e ∷ rest) in
      let ascend : d.round ≤ x.round =
      (goes_by_rounds w legal).entries is.0 is.1 rest f e m k d x split
      (record { number = is.4; there = at }) of_e in
      elim (cases_order x.round d.round) [
        | inl same ↦
            absurd (has_reply m (e ∷ rest) [] rest e refl
            (of_e.number ∙ ap (λ j. j + 1) (alone-in w legal k m x d of_e.there at same exclusive)) none)
        | inr (inl less) ↦ absurd (omega arith)
        | inr (inr more) ↦ omega arith
      ]
]

-- it has an entry from here on where this one is of its round or an earlier one
entry-within : (w : World) → Legal w → (m : ℕ) (d : Placed) (before rest : List Entry) (e : Entry)
    → slice_get (commands_of w.plan) m ≡ Some d → is_exclusive_verb d.command.verb ≡ true → own_entries m w.history ≢ []
    → w.history ≡ before ++ e ∷ rest
    → list_any (is_of m) (e ∷ rest) ≡ is_before (d.round + 1) (at_number (commands_of w.plan) e.command)
entry-within w legal m d before rest e at exclusive some whole =
    let follows = each_follows w legal before rest e whole in
    let k = follows.place in
    let x = follows.by in
    let of_e : IsEntryOf w.plan e k x = follows.of in
    elim (entry_or_none m (e ∷ rest)) [
      | inl none ↦
          empty_none (is_of m) (e ∷ rest) (no-own m (e ∷ rest) none)
          ∙ sym (not-before w.plan (d.round + 1) e k x of_e
          (all-later w legal m k d x before rest e at exclusive some whole of_e none))
      | inr is ↦
          let own : list_any (is_of m) (is.2 ∷ is.1) ≡ true =
          or_left (is_of m is.2) (list_any (is_of m) is.1) (is_of-own m is.2 is.4) in
          ap (list_any (is_of m)) is.3 ∙ list_any-append_right (is_of m) is.0 (is.2 ∷ is.1) own
          ∙ sym (before-is w.plan (d.round + 1) e k x of_e
          (none-later w legal m k d x before rest is.0 is.1 e is.2 whole is.3 of_e
          (record { number = is.4; there = at })))
    ]

ends-from : (w : World) → Legal w → (m : ℕ) (d : Placed) (before rest : List Entry)
    → slice_get (commands_of w.plan) m ≡ Some d → is_exclusive_verb d.command.verb ≡ true → own_entries m w.history ≢ []
    → w.history ≡ before ++ rest
    → until_last m rest ≡ until_round w.plan (d.round + 1) rest
ends-from w legal m d before [] at exclusive some whole = refl
ends-from w legal m d before (e ∷ rest) at exclusive some whole =
    ap (λ b. if b then e ∷ until_last m rest else []) (entry-within w legal m d before rest e at exclusive some whole)
    ∙ ap (λ l. if is_before (d.round + 1) (at_number (commands_of w.plan) e.command) then e ∷ l else [])
    (ends-from w legal m d (before ++ e ∷ []) rest at exclusive some
    (whole ∙ sym (append_assoc before (e ∷ []) rest)))

-- it ends in the host at the start of the next round
pub end-round : (w : World) → Legal w → (m : ℕ) (d : Placed) → slice_get (commands_of w.plan) m ≡ Some d
    → is_exclusive_verb d.command.verb ≡ true → own_entries m w.history ≢ []
    → host_at_end w m ≡ host_at_round w (d.round + 1)
end-round w legal m d at exclusive some =
    ap (after w.plan.pods.opening) (ends-from w legal m d [] w.history at exclusive some refl)
