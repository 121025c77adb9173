-- An attachment that is gone stays gone until a call of an ADD of it is granted after its Begin: any other entry leaves
-- it, or only removes.
use Rattle.pod_laws.proofs.Names.{◌≡◌, ◌≢◌, ℕ, ◌+◌, Bool, true, false, not, List, [], ◌∷◌, ◌++◌, Some, slice_get, refl}
use Rattle.pod_laws.proofs.Names.{sym, ◌∙◌, ap, subst, inl, inr, ◌⊎◌, append_assoc, and_from, and_parts, both_ways}
use Rattle.pod_laws.proofs.Names.{cases_Bool, false_from_ne_true, append-nil, filter-append, list_all-append, same_Some}
use Rattle.pod_laws.proofs.Names.{list_all, list_any, ◌||◌, Command, Verb, att_eq, Att, Host, att_eq-refl, att_eq-same}
use Rattle.pod_laws.proofs.Names.{share_of, no_objects, is_done, att_of, Legal, Placed, commands_of, World, entry_of}
use Rattle.pod_laws.proofs.Names.{host_of, after_entry, Entry, Plan, OnlyRemoves, share-removes_none}
use Rattle.std.proofs.lemmas.{Bool.or_parts, List.append_cancel_left}
use Rattle.pod_file.specs.declared.command.Verb.TheVariants as verbs
use Rattle.cni_errors.specs.declared.answer.Answer.TheVariants as answers
use Rattle.pod_laws.specs.{AskedFor.{begins, is_begin_of}, Moments.{IsGone, is_of, own_entries, until_last}}
use Rattle.pod_laws.specs.{Refused.lets_go_on, Repeated.{GoneStaysGone, IsWithoutMaking, RepeatedDeletionsLeave}}
use Rattle.pod_laws.specs.{Repeated.makes_nothing, Single.EachEntry}
use Rattle.pod_laws.proofs.{Added.Prefixes.front-none, Deleted.{Entries.each_deletion_is_own, FirstEntries.BeginsFirst}}
use Rattle.pod_laws.proofs.Deleted.{FirstEntries.begins_first, InTurn.in_turn, Removals.removes-entered}
use Rattle.pod_laws.proofs.{Deleted.Removals.quiet-entered, Given.OfRuns.was_deleted, Histories.EachEntry.DoesNow}
use Rattle.pod_laws.proofs.Histories.{EachEntry.{DoesOutside, each-entry}, Entries.{is_of-own, own_entries-own}}
use Rattle.pod_laws.proofs.{Histories.{States.not-both, Turns.{other-entered, removes-changed}}, Tests.any-filtered}

-- ---- one entry

own-passes : (p : Entry → Bool) (n : ℕ) (e : Entry) → e.command ≡ n + 1 → list_all p (own_entries n (e ∷ [])) ≡ true
    → p e ≡ true
own-passes p n e is all =
    (and_parts (p e) true (ap (list_all p) (sym (own_entries-own n [] e (is_of-own n e is))) ∙ all)).0

add-or-not : (v : Verb) → (v ≡ verbs.Add) ⊎ (v ≢ verbs.Add)
add-or-not verbs.Add = inl refl
add-or-not _ = inr (λ e. cc)

not-adding : (c : Command) → c.verb ≡ verbs.Gc → c.verb ≢ verbs.Add
not-adding c gc = λ add. let e : verbs.Add ≡ verbs.Gc = sym add ∙ gc in cc

-- an attachment that has nothing has nothing after the entry, unless an ADD of it may make something by it
abbrev StaysGone : Plan → Entry → Host → Host → Type 0
StaysGone p e old new =
    (att : Att) → IsWithoutMaking p att (e ∷ []) → share_of att old ≡ no_objects → share_of att new ≡ no_objects

gone-now : DoesNow StaysGone
gone-now w n c list call faulty on = λ att without gone.
    let k = host_of w in
    let x = entry_of k n call faulty in
    let stays : OnlyRemoves k (after_entry k x) → share_of att (after_entry k x) ≡ no_objects = λ removes.
    share-removes_none att k (after_entry k x) removes gone in
    elim (cases_Bool (att_eq (att_of c.command) att)) [
      | inl same ↦ elim (add-or-not c.command.verb) [
        | inl add ↦
            stays (quiet-entered w n c list call faulty att on
            (own-passes (makes_nothing att) n x refl
            (without n c on.ready.there add (att_eq-same (att_of c.command) att same))))
        | inr not ↦ stays (removes-entered w n c list call faulty on not)
      ]
      | inr differ ↦ elim (other-entered w n c list call faulty att on differ) [
        | inl gc ↦ stays (removes-entered w n c list call faulty on (not-adding c.command gc))
        | inr kept ↦ kept ∙ gone
      ]
    ]

gone-outside : DoesOutside StaysGone
gone-outside w n c call faulty on = λ att without gone.
    share-removes_none att (host_of w) (after_entry (host_of w) (entry_of (host_of w) n call faulty))
    (removes-changed w n c call faulty on) gone

each-stays : EachEntry StaysGone
each-stays = each-entry StaysGone gone-now gone-outside

-- ---- entry by entry

all-parts : (p : Entry → Bool) (n : ℕ) (e : Entry) (es : List Entry) → list_all p (own_entries n (e ∷ es)) ≡ true
    → (list_all p (own_entries n (e ∷ [])) ≡ true) × (list_all p (own_entries n es) ≡ true)
all-parts p n e es all =
    and_parts (list_all p (own_entries n (e ∷ []))) (list_all p (own_entries n es))
    (sym (list_all-append p (own_entries n (e ∷ [])) (own_entries n es))
    ∙ ap (list_all p) (sym (filter-append (is_of n) (e ∷ []) es))
    ∙ all)

stays-through : (w : World) → Legal w → (att : Att) (before between later : List Entry)
    → w.history ≡ before ++ between ++ later → IsWithoutMaking w.plan att between → IsGone w.plan att before
    → IsGone w.plan att (before ++ between)
stays-through w legal att before [] later is without gone = subst (IsGone w.plan att) (sym (append-nil before)) gone
stays-through w legal att before (e ∷ es) later is without gone =
    let more = append_assoc before (e ∷ []) es in
    let one =
    each-stays w legal before (es ++ later) e (is ∙ append_assoc before (e ∷ es) later) att
    (λ n c at add same. (all-parts (makes_nothing att) n e es (without n c at add same)).0) gone in
    subst (IsGone w.plan att) more
    (stays-through w legal att (before ++ e ∷ []) es later (is ∙ ap (λ h. h ++ later) (sym more))
    (λ n c at add same. (all-parts (makes_nothing att) n e es (without n c at add same)).1) one)

pub gone_stays_gone : GoneStaysGone
gone_stays_gone w legal att before between later is without gone =
    stays-through w legal att before between later is without gone

-- ---- after a DEL no ADD makes anything until one has begun

unbegun-quiet : (c : Command) (att : Att) (es rest : List Entry) → att_of c ≡ att → BeginsFirst c (es ++ rest)
    → list_any (begins att) es ≡ false → list_all (makes_nothing att) es ≡ true
unbegun-quiet c att [] rest same first none = refl
unbegun-quiet c att (e ∷ es) rest same first none =
    let begin : is_begin_of att e.call ≡ true =
    ap (is_begin_of att) first.0 ∙ ap (λ a. att_eq a att) same ∙ att_eq-refl att in
    elim first.2 [
      | inl done ↦
          absurd (let e : true ≡ false =
          sym (and_from (is_begin_of att e.call) (is_done e.reply) begin done)
          ∙ (or_parts (begins att e) (list_any (begins att) es) none).0 in
          cc)
      | inr alone ↦
          and_from (makes_nothing att e) (list_all (makes_nothing att) es) (ap (λ b. b || not (lets_go_on e)) begin)
          (ap (list_all (makes_nothing att)) (front-none es rest (sym alone)))
    ]

unbegun : (w : World) → Legal w → (n : ℕ) (c : Placed) (between later : List Entry)
    → slice_get (commands_of w.plan) n ≡ Some c → c.command.verb ≡ verbs.Del
    → w.history ≡ until_last n w.history ++ between ++ later
    → list_any (begins (att_of c.command)) between ≡ false → IsWithoutMaking w.plan (att_of c.command) between
unbegun w legal n c between later at del is none = λ m d there add same.
    let att = att_of c.command in
    let past = until_last n w.history in
    let far : n ≢ m = λ place.
    let one : d ≡ c = same_Some d c (sym there ∙ ap (slice_get (commands_of w.plan)) (sym place) ∙ at) in
    not-both c.command (ap (λ (x : Placed). x.command.verb) (sym one) ∙ add) del in
    let split : own_entries m w.history ≡ own_entries m past ++ own_entries m between ++ own_entries m later =
    ap (own_entries m) is
    ∙ filter-append (is_of m) (past ++ between) later
    ∙ ap (λ l. l ++ own_entries m later) (filter-append (is_of m) past between) in
    elim (in_turn w legal n m c d at there far (ap (λ (a : Att). a.container) same)) [
      | inl before ↦
          let first : BeginsFirst d.command (own_entries m between ++ own_entries m later) =
          subst (BeginsFirst d.command) (split ∙ ap (λ l. l ++ own_entries m between ++ own_entries m later) before)
          (begins_first w legal m d there add) in
          unbegun-quiet d.command att (own_entries m between) (own_entries m later) same first
          (false_from_ne_true (list_any (begins att) (own_entries m between))
          (λ some. both_ways _ none (any-filtered (begins att) (is_of m) between some)))
      | inr all ↦
          let after : own_entries m between ++ own_entries m later ≡ [] =
          append_cancel_left (own_entries m past) (own_entries m between ++ own_entries m later) []
          (sym (append_assoc (own_entries m past) (own_entries m between) (own_entries m later))
          ∙ sym split
          ∙ all
          ∙ sym (append-nil (own_entries m past))) in
          ap (list_all (makes_nothing att)) (front-none (own_entries m between) (own_entries m later) (sym after))
    ]

-- ---- a DEL that is repeated

pub repeated_deletions_leave : RepeatedDeletionsLeave
repeated_deletions_leave w legal n m c d between later e at verb answer there again same number is none =
    let past = until_last n w.history in
    let gone : IsGone w.plan (att_of c.command) past = (was_deleted w legal n c answers.Yes at verb answer refl).gone in
    let still : IsGone w.plan (att_of c.command) (past ++ between) =
    gone_stays_gone w legal (att_of c.command) past between (e ∷ later) is
    (unbegun w legal n c between (e ∷ later) at verb is none) gone in
    let own = each_deletion_is_own w legal (past ++ between) later e is m d there number again in
    own.repeated (subst (λ a. IsGone w.plan a (past ++ between)) (sym same) still)
