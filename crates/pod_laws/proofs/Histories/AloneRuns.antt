-- The entries of an exclusive command stand together.
use Rattle.pod_laws.proofs.Names.{◌≡◌, ◌≢◌, ℕ, ◌+◌, Bool, true, false, List, [], ◌∷◌, ◌++◌, Some, slice_get, refl, sym}
use Rattle.pod_laws.proofs.Names.{◌∙◌, ap, subst, inl, inr, ◌⊎◌, append_assoc, eqb_tells, append-nil, same_Some}
use Rattle.pod_laws.proofs.Names.{none-some, list_any, if◌then◌else◌, NetList, is_exclusive_verb, Command, IsSound}
use Rattle.pod_laws.proofs.Names.{Call, Host, State, Calls, Finishes, advance, next_call, start_state, state_from, turn}
use Rattle.pod_laws.proofs.Names.{Legal, Placed, commands_of, list_for, World, IsReady, after, entry_of, host_of}
use Rattle.pod_laws.proofs.Names.{after_entry, made_in, replies_of, reply_to, Entry, Plan, replies_of-other}
use Rattle.pod_laws.proofs.Names.{alone_apart, other_number, ready_is, sound_host}
use Rattle.cni_verbs.proofs.CallsOrOver.{calls_or_over}
use Rattle.gc_sweep.specs.Trace.{IsRun, IsRunFrom}
use Rattle.pod_laws.specs.Moments.{host_at_end, host_at_start, is_of, own_entries, until_first, until_last}
use Rattle.pod_laws.proofs.Histories.Entries.{apart-entry, is_of-own, no-entries, own_entries-own, own_entries-other}
use Rattle.pod_laws.proofs.Histories.{Entries.{replies_in, until_last-own, until_last-other}, Runs.own-state}
use Rattle.pod_laws.proofs.Histories.Steps.{AllOpen, ChangesKeep, EntriesKeep, Goes, IsOpenKept, OpenFact, by-entries}
use Rattle.pod_laws.proofs.Histories.Steps.{by-open}

abbrev IsExclusive : Placed → Type 0
IsExclusive c = is_exclusive_verb c.command.verb ≡ true

-- ---- while it isn't answered, its last entry is the last one

abbrev IsLastToGo : OpenFact
IsLastToGo p h m d = IsExclusive d → (replies_of m h ≡ []) ⊎ (until_last m h ≡ h)

pub ready-of : (w : World) (n : ℕ) (c : Placed) (call : Call) (faulty : Bool) → Goes w n c call faulty → IsReady w n c
ready-of w n c call faulty (inl on) = on.1.ready
ready-of w n c call faulty (inr on) = on.ready

pub legal-of : (w : World) (n : ℕ) (c : Placed) (call : Call) (faulty : Bool) → Goes w n c call faulty → Legal w
legal-of w n c call faulty (inl on) = on.1.legal
legal-of w n c call faulty (inr on) = on.legal

last-kept : IsOpenKept IsLastToGo
last-kept w n c call faulty goes was = λ m d at is_open exclusive.
    let e = entry_of (host_of w) n call faulty in
    elim (eqb_tells m n) [
      | inl t ↦ inr (until_last-own m w.history e (is_of-own m e (ap (λ j. j + 1) (sym t.1))))
      | inr f ↦
          let far : e.command ≢ m + 1 = other_number e n m refl f.1 in
          inl (replies_of-other m w.history e far
          ∙ alone_apart w (legal-of w n c call faulty goes) m n d c (ready-of w n c call faulty goes) f.1 at
          is_open (inr exclusive))
    ]

all-last_to_go : (w : World) → Legal w → AllOpen IsLastToGo w
all-last_to_go w legal = by-open IsLastToGo (λ p m d exclusive. inl refl) last-kept w legal

-- ---- what it makes from the host at its start

next-turn : (c : Command) (st : State) (call : Call) → turn c st ≡ Calls call → next_call c st ≡ Some call
next-turn c st call is = elim (calls_or_over c st) [
  | inl k ↦
      let same : Calls k.call ≡ Calls call = sym k.turn_is ∙ is in let e : k.call ≡ call = cc in k.next_is ∙ ap Some e
  | inr o ↦ absurd (let e : Calls call ≡ Finishes o.finish = sym is ∙ o.turn_is in cc)
]

run-push : (list : NetList) (c : Command) (made : ℕ) (st : State) (host : Host) (es : List Entry)
    (e : Entry) (faulty : Bool)
    → IsRunFrom list c made st host (made_in es) → turn c (state_from list c made st (replies_in es)) ≡ Calls e.call
    → e.reply ≡ reply_to (after host es) e.call faulty → IsRunFrom list c made st host (made_in (es ++ e ∷ []))
run-push list c made st host [] e faulty run is reply = (next-turn c st e.call is, (faulty, reply), tt)
run-push list c made st host (x ∷ xs) e faulty run is reply = (
  run.0,
  run.1,
  run-push list c (made + 1) (advance list c (made + 1) st x.reply) (after_entry host x) xs e faulty run.2 is reply,
)

after-both : (host : Host) (xs ys : List Entry) → after host (xs ++ ys) ≡ after (after host xs) ys
after-both host [] ys = refl
after-both host (x ∷ xs) ys = after-both (after_entry host x) xs ys

-- the run of a command with a list
abbrev pub RunsFrom : Plan → ℕ → Placed → List Entry → List Entry → Type 0
RunsFrom p n c before own =
    (list : NetList) → list_for p c.command ≡ Some list
    → IsRun list c.command (after p.pods.opening before) (made_in own)

-- ---- so its entries stand together

-- the history up to the command's last entry is one without it, and then its entries, which are a run from the host
-- there
pub record StandsTogether (p : Plan) (h : List Entry) (n : ℕ) (c : Placed) : Type 0 where
  pub before : List Entry
  pub until : until_last n h ≡ before ++ own_entries n h
  pub none_before : own_entries n before ≡ []
  pub run : RunsFrom p n c before (own_entries n h)
  pub sound : IsSound (after p.pods.opening before)

abbrev AllTogether : Plan → List Entry → Type 0
AllTogether p h = (m : ℕ) (d : Placed) → slice_get (commands_of p) m ≡ Some d → IsExclusive d → StandsTogether p h m d

together-other : (p : Plan) (h : List Entry) (m : ℕ) (d : Placed) (e : Entry) → is_of m e ≡ false
    → StandsTogether p h m d → StandsTogether p (h ++ e ∷ []) m d
together-other p h m d e far was = record {
  before = was.before;
  until = until_last-other m h e far ∙ was.until ∙ ap (λ l. was.before ++ l) (sym (own_entries-other m h e far));
  none_before = was.none_before;
  run = subst (RunsFrom p m d was.before) (sym (own_entries-other m h e far)) was.run;
  sound = was.sound;
}

-- one entry more of a command whose entries, after these, are the last ones
run-more : (w : World) (n : ℕ) (c : Placed) (call : Call) (faulty : Bool) (before : List Entry) → Goes w n c call faulty
    → w.history ≡ before ++ own_entries n w.history → RunsFrom w.plan n c before (own_entries n w.history)
    → RunsFrom w.plan n c before (own_entries n w.history ++ entry_of (host_of w) n call faulty ∷ [])
run-more w n c call faulty before (inr on) split run = λ list listed. absurd (none-some list (sym on.unlisted ∙ listed))
run-more w n c call faulty before (inl on) split run = λ list listed.
    let e = entry_of (host_of w) n call faulty in
    let own = own_entries n w.history in
    let start = after w.plan.pods.opening before in
    let here : host_of w ≡ after start own =
    ap (after w.plan.pods.opening) split ∙ after-both w.plan.pods.opening before own in
    let same : on.0 ≡ list = same_Some on.0 list (sym on.1.listed ∙ listed) in
    let P : NetList → Type 0 = λ l. IsRun l c.command start (made_in (own ++ e ∷ [])) in
    subst P same
    (run-push on.0 c.command 0 (start_state on.0 c.command) start own e faulty (run on.0 on.1.listed)
    (own-state w n c on.0 call faulty on.1).turn_is (ap (λ k. reply_to k call faulty) here))

together-own : (w : World) (n : ℕ) (c : Placed) (call : Call) (faulty : Bool) → Goes w n c call faulty
    → (replies_of n w.history ≡ []) ⊎ (until_last n w.history ≡ w.history) → StandsTogether w.plan w.history n c
    → StandsTogether w.plan (w.history ++ entry_of (host_of w) n call faulty ∷ []) n c
together-own w n c call faulty goes (inl none) was =
    let h = w.history in
    let e = entry_of (host_of w) n call faulty in
    let own = is_of-own n e refl in
    let no_entry : own_entries n h ≡ [] = no-entries (own_entries n h) none in
    let whole : h ≡ h ++ own_entries n h = sym (ap (λ l. h ++ l) no_entry ∙ append-nil h) in
    let nothing : RunsFrom w.plan n c h (own_entries n h) =
    subst (RunsFrom w.plan n c h) (sym no_entry) (λ list listed. tt) in
    record {
      before = h;
      until =
          until_last-own n h e own
          ∙ ap (λ l. h ++ l) (sym (own_entries-own n h e own ∙ ap (λ l. l ++ e ∷ []) no_entry));
      none_before = no_entry;
      run =
          subst (RunsFrom w.plan n c h) (sym (own_entries-own n h e own))
          (run-more w n c call faulty h goes whole nothing);
      sound = sound_host w (legal-of w n c call faulty goes);
    }
together-own w n c call faulty goes (inr last) was =
    let h = w.history in
    let e = entry_of (host_of w) n call faulty in
    let own = is_of-own n e refl in
    record {
      before = was.before;
      until =
          until_last-own n h e own
          ∙ ap (λ l. l ++ e ∷ []) (sym last ∙ was.until)
          ∙ append_assoc was.before (own_entries n h) (e ∷ [])
          ∙ ap (λ l. was.before ++ l) (sym (own_entries-own n h e own));
      none_before = was.none_before;
      run =
          subst (RunsFrom w.plan n c was.before) (sym (own_entries-own n h e own))
          (run-more w n c call faulty was.before goes (sym last ∙ was.until) was.run);
      sound = was.sound;
    }

together-next : (w : World) (n : ℕ) (c : Placed) (call : Call) (faulty : Bool) → Goes w n c call faulty
    → AllTogether w.plan w.history → AllTogether w.plan (w.history ++ entry_of (host_of w) n call faulty ∷ [])
together-next w n c call faulty goes was = λ m d at exclusive.
    let e = entry_of (host_of w) n call faulty in
    let ready = ready-of w n c call faulty goes in
    elim (eqb_tells m n) [
      | inl t ↦
          let same : d ≡ c = ready_is w n m c d ready t.1 at in
          let mine : IsExclusive c = ap (λ (x : Placed). is_exclusive_verb x.command.verb) (sym same) ∙ exclusive in
          let last = all-last_to_go w (legal-of w n c call faulty goes) n c ready.there ready.unanswered mine in
          let P : ℕ → Placed → Type 0 = λ j x. StandsTogether w.plan (w.history ++ e ∷ []) j x in
          subst (λ j. P j d) (sym t.1)
          (subst (P n) (sym same) (together-own w n c call faulty goes last (was n c ready.there mine)))
      | inr f ↦ together-other w.plan w.history m d e (apart-entry w n m call faulty f.1) (was m d at exclusive)
    ]

together-kept : EntriesKeep AllTogether
together-kept w n c list call faulty on was = together-next w n c call faulty (inl (list, on)) was

together-changed : ChangesKeep AllTogether
together-changed w n c call faulty on was = together-next w n c call faulty (inr on) was

-- in every history the entries of an exclusive command stand together
pub stands_together : (w : World) → Legal w → (n : ℕ) (c : Placed) → slice_get (commands_of w.plan) n ≡ Some c
    → is_exclusive_verb c.command.verb ≡ true → StandsTogether w.plan w.history n c
stands_together w legal =
    by-entries AllTogether
    (λ p well m d at exclusive.
    record {
      before = [];
      until = refl;
      none_before = refl;
      run = λ list listed. tt;
      sound = well.pods.opening.sound;
    })
    together-kept together-changed w legal

-- ---- and lead from the host at its start to the one at its end

pub alone-end : (w : World) (n : ℕ) (c : Placed) (t : StandsTogether w.plan w.history n c)
    → host_at_end w n ≡ after (after w.plan.pods.opening t.before) (own_entries n w.history)
alone-end w n c t =
    ap (after w.plan.pods.opening) t.until ∙ after-both w.plan.pods.opening t.before (own_entries n w.history)

prefix-if : (b : Bool) (x : Entry) (t xs : List Entry) → (later : List Entry) × (xs ≡ t ++ later)
    → (later : List Entry) × (x ∷ xs ≡ (if b then x ∷ t else []) ++ later)
prefix-if true x t xs h = (h.0, ap (λ l. x ∷ l) h.1)
prefix-if false x t xs h = (x ∷ xs, refl)

until_last-prefix : (n : ℕ) (h : List Entry) → (later : List Entry) × (h ≡ until_last n h ++ later)
until_last-prefix n [] = ([], refl)
until_last-prefix n (x ∷ xs) = prefix-if (list_any (is_of n) (x ∷ xs)) x (until_last n xs) xs (until_last-prefix n xs)

first-if : (n : ℕ) (b : Bool) (x : Entry) (t : List Entry) (y : Entry) (ys : List Entry) → is_of n x ≡ b
    → (t ≡ y ∷ ys → is_of n y ≡ true) → (if b then x ∷ t else t) ≡ y ∷ ys → is_of n y ≡ true
first-if n true x t y ys own rest is = let e : x ≡ y = cc in ap (is_of n) (sym e) ∙ own
first-if n false x t y ys own rest is = rest is

first-own : (n : ℕ) (h : List Entry) (y : Entry) (ys : List Entry) → own_entries n h ≡ y ∷ ys → is_of n y ≡ true
first-own n [] y ys is = cc
first-own n (x ∷ xs) y ys is = first-if n (is_of n x) x (own_entries n xs) y ys refl (first-own n xs y ys) is

none-if : (b : Bool) (x : Entry) (t : List Entry) → (if b then x ∷ t else t) ≡ [] → (b ≡ false) × (t ≡ [])
none-if true x t is = cc
none-if false x t is = (refl, is)

pub until_first-own : (n : ℕ) (before : List Entry) (e : Entry) (rest : List Entry) → own_entries n before ≡ []
    → is_of n e ≡ true → until_first n (before ++ e ∷ rest) ≡ before
until_first-own n [] e rest none own = ap (λ b. if b then [] else e ∷ until_first n rest) own
until_first-own n (x ∷ xs) e rest none own =
    let parts = none-if (is_of n x) x (own_entries n xs) none in
    ap (λ b. if b then [] else x ∷ until_first n (xs ++ e ∷ rest)) parts.0
    ∙ ap (λ l. x ∷ l) (until_first-own n xs e rest parts.1 own)

start-of : (h : List Entry) (n : ℕ) (own : List Entry) → own_entries n h ≡ own → own ≢ [] → (before : List Entry)
    → until_last n h ≡ before ++ own_entries n h → own_entries n before ≡ [] → until_first n h ≡ before
start-of h n [] is some before until none = absurd (some refl)
start-of h n (e ∷ es) is some before until none =
    let front = until_last-prefix n h in
    let whole : h ≡ before ++ e ∷ (es ++ front.0) =
    front.1 ∙ ap (λ l. l ++ front.0) (until ∙ ap (λ l. before ++ l) is) ∙ append_assoc before (e ∷ es) front.0 in
    ap (until_first n) whole ∙ until_first-own n before e (es ++ front.0) none (first-own n h e es is)

-- where it made a call
pub alone-start : (w : World) (n : ℕ) (c : Placed) (t : StandsTogether w.plan w.history n c)
    → own_entries n w.history ≢ [] → host_at_start w n ≡ after w.plan.pods.opening t.before
alone-start w n c t some =
    ap (after w.plan.pods.opening)
    (start-of w.history n (own_entries n w.history) refl some t.before t.until t.none_before)
