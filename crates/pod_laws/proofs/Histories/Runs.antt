-- What holds of every run because its own entries keep it.
use Rattle.pod_laws.proofs.Names.{◌≡◌, ◌≢◌, ℕ, ◌+◌, Bool, false, List, [], ◌∷◌, ◌++◌, length, Some, None, slice_get}
use Rattle.pod_laws.proofs.Names.{refl, sym, ◌∙◌, ap, subst, inl, inr, ◌⊎◌, cases_Bool, eqb_tells, NetList}
use Rattle.pod_laws.proofs.Names.{is_exclusive_verb, Command, Call, Host, Share, share_of, att_of, State, Calls, turn}
use Rattle.pod_laws.proofs.Names.{advance, start_state, Legal, Placed, commands_of, list_for, World, after, after_entry}
use Rattle.pod_laws.proofs.Names.{host_of, replies_of, entry_of, Entry, replies_of-other, after-append}
use Rattle.pod_laws.proofs.Names.{LeftAreOfPlugins, left-are-of_plugins, apart, alone_apart, other_number}
use Rattle.pod_laws.specs.Moments.{own_entries, until_last, host_at_end}
use Rattle.pod_laws.proofs.Histories.Entries.{is_of-own, is_of-other, replies_in, until_last-own, until_last-other}
use Rattle.pod_laws.proofs.Histories.RunFacts.{HostFact, IsHostFact, IsKeptBetween, Keeping, each-run, each-run-now}
use Rattle.pod_laws.proofs.Histories.{RunFacts.state_by, States.{LeftFit, left-fit}, Steps.{GoesOn, IsOpenKept}}
use Rattle.pod_laws.proofs.Histories.{Steps.{OpenFact, by-open}, Turns.{alone-collecting, alone-outside, other-entered}}
use Rattle.pod_laws.proofs.Histories.Turns.{other_att}

-- ---- what a host keeps for a run between its entries

-- it is kept where nothing happens, and where a call of another command leaves the attachment's share, and neither
-- stands alone
pub record IsKeptBeside (R : Keeping) : Type 0 where
  pub same : (c : Command) (host : Host) → R c host host
  pub beside : (w : World) (n : ℕ) (c : Placed) (list : NetList) (call : Call) (faulty : Bool) (d : Command)
      (old : Host) → GoesOn w n c list call faulty → is_exclusive_verb d.verb ≡ false
      → share_of (att_of d) (after_entry (host_of w) (entry_of (host_of w) n call faulty))
      ≡ share_of (att_of d) (host_of w)
      → R d old (host_of w) → R d old (after_entry (host_of w) (entry_of (host_of w) n call faulty))

-- where a command isn't answered, it is kept since its last entry
abbrev Since : Keeping → OpenFact
Since R p h m d = (replies_of m h ≡ []) ⊎ R d.command (after p.pods.opening (until_last m h)) (after p.pods.opening h)

since-own : (R : Keeping) → IsKeptBeside R → (w : World) (n m : ℕ) (d : Placed) (call : Call) (faulty : Bool) → m ≡ n
    → Since R w.plan (w.history ++ entry_of (host_of w) n call faulty ∷ []) m d
since-own R kept w n m d call faulty same =
    let e = entry_of (host_of w) n call faulty in
    let h = w.history ++ e ∷ [] in
    inr (subst (λ l. R d.command (after w.plan.pods.opening l) (after w.plan.pods.opening h))
    (sym (until_last-own m w.history e (is_of-own m e (ap (λ j. j + 1) (sym same)))))
    (kept.same d.command (after w.plan.pods.opening h)))

since-other : (R : Keeping) → IsKeptBeside R
    → (w : World) (n m : ℕ) (c d : Placed) (list : NetList) (call : Call) (faulty : Bool)
    → GoesOn w n c list call faulty → m ≢ n → slice_get (commands_of w.plan) m ≡ Some d
    → slice_get w.answers m ≡ Some None
    → Since R w.plan w.history m d → Since R w.plan (w.history ++ entry_of (host_of w) n call faulty ∷ []) m d
since-other R kept w n m c d list call faulty on differs at is_open since =
    let e = entry_of (host_of w) n call faulty in
    let opening = w.plan.pods.opening in
    let last = after opening (until_last m w.history) in
    let far : e.command ≢ m + 1 = other_number e n m refl differs in
    let mine = replies_of-other m w.history e far in
    elim (cases_Bool (is_exclusive_verb d.command.verb)) [
      | inl exclusive ↦ inl (mine ∙ alone_apart w on.legal m n d c on.ready differs at is_open (inr exclusive))
      | inr beside ↦ elim (apart w on.legal m n d c on.ready differs at is_open) [
        | inl none ↦ inl (mine ∙ none)
        | inr other ↦ elim since [
          | inl none ↦ inl (mine ∙ none)
          | inr was ↦
              elim (other-entered w n c list call faulty (att_of d.command) on
              (other_att (att_of c.command) (att_of d.command) (λ q. other (sym q)))) [
                | inl gc ↦ inl (mine ∙ alone-collecting w n m c d list call faulty on gc differs at is_open)
                | inr share ↦
                    let now : R d.command last (after_entry (host_of w) e) =
                    kept.beside w n c list call faulty d.command last on beside share was in
                    inr (subst (λ l. R d.command (after opening l) (after opening (w.history ++ e ∷ [])))
                    (sym (until_last-other m w.history e (is_of-other m e far)))
                    (subst (R d.command last) (sym (after-append opening w.history e)) now))
              ]
        ]
      ]
    ]

since-kept : (R : Keeping) → IsKeptBeside R → IsOpenKept (Since R)
since-kept R kept w n c call faulty goes since = λ m d at is_open.
    let e = entry_of (host_of w) n call faulty in
    elim (eqb_tells m n) [
      | inl t ↦ since-own R kept w n m d call faulty t.1
      | inr f ↦ elim goes [
        | inl on ↦ since-other R kept w n m c d on.0 call faulty on.1 f.1 at is_open (since m d at is_open)
        | inr on ↦
            inl (replies_of-other m w.history e (other_number e n m refl f.1)
            ∙ alone-outside w n m c d call faulty on f.1 at is_open)
      ]
    ]

pub kept-between : (R : Keeping) → IsKeptBeside R → IsKeptBetween R
kept-between R kept =
    record { same = kept.same; since = λ w legal. by-open (Since R) (λ p m d. inl refl) (since-kept R kept) w legal }

-- ---- what holds of every run

-- what holds of a run's entries, its state and its share at its last entry
abbrev pub RunFact : Type 1
RunFact = NetList → Command → List Entry → State → Share → Type 0

abbrev pub AtRun : RunFact → World → ℕ → Placed → NetList → Host → Type 0
AtRun F w n c list host =
    F list c.command (own_entries n w.history) (state_by list c.command (own_entries n w.history))
    (share_of (att_of c.command) host)

-- it holds after one more entry, of this call
abbrev pub AfterEntry : RunFact → NetList → Command → List Entry → State → Host → ℕ → Bool → Call → Type 0
AfterEntry F list c es st k n faulty call =
    let e = entry_of k n call faulty in
    F list c (es ++ e ∷ []) (advance list c (length es + 1) st e.reply) (share_of (att_of c) (after_entry k e))

abbrev pub IsRunFact : RunFact → Type 0
IsRunFact F =
    (w : World) (n : ℕ) (c : Placed) (list : NetList) (call : Call) (faulty : Bool) → GoesOn w n c list call faulty
    → AtRun F w n c list (host_of w)
    → AfterEntry F list c.command (own_entries n w.history) (state_by list c.command (own_entries n w.history))
    (host_of w) n faulty call

-- it holds before the first entry, whatever is there
abbrev pub StartsWith : RunFact → Type 0
StartsWith F = (list : NetList) (c : Command) (s : Share) → F list c [] (start_state list c) s

-- the state of a run that goes on, by its entries
pub record IsOwnState (w : World) (n : ℕ) (c : Placed) (list : NetList) (call : Call) : Type 0 where
  pub of_plugins : LeftAreOfPlugins list c.command (state_by list c.command (own_entries n w.history))
  pub fits : LeftFit list c.command (state_by list c.command (own_entries n w.history))
  pub turn_is : turn c.command (state_by list c.command (own_entries n w.history)) ≡ Calls call

pub own-state : (w : World) (n : ℕ) (c : Placed) (list : NetList) (call : Call) (faulty : Bool)
    → GoesOn w n c list call faulty → IsOwnState w n c list call
own-state w n c list call faulty on = record {
  of_plugins = left-are-of_plugins list c.command (replies_in (own_entries n w.history));
  fits = left-fit list c.command (replies_in (own_entries n w.history));
  turn_is = on.turn_is;
}

-- the host keeps what the command's attachment has
abbrev pub SameShare : Keeping
SameShare c old new = share_of (att_of c) new ≡ share_of (att_of c) old

pub share-kept : IsKeptBetween SameShare
share-kept =
    kept-between SameShare
    (record { same = λ c host. refl; beside = λ w n c list call faulty d old on alone share was. share ∙ was })

abbrev of_share : RunFact → HostFact
of_share F list c es st host = F list c es st (share_of (att_of c) host)

share-step : (F : RunFact) → IsRunFact F → IsHostFact SameShare (of_share F)
share-step F step w n c list call faulty old on same was =
    step w n c list call faulty on
    (subst (F list c.command (own_entries n w.history) (state_by list c.command (own_entries n w.history)))
    (sym same) was)

-- a fact that holds at the start of each run, and that each own entry keeps, holds of every run at its last entry
pub every-run : (F : RunFact) → StartsWith F → IsRunFact F → (w : World) → Legal w
    → (n : ℕ) (c : Placed) (list : NetList) → slice_get (commands_of w.plan) n ≡ Some c
    → list_for w.plan c.command ≡ Some list → AtRun F w n c list (host_at_end w n)
every-run F start step w legal n c list at listed =
    each-run SameShare (of_share F) share-kept (λ list c host. start list c (share_of (att_of c) host))
    (share-step F step) w legal n c list at listed

-- the fact about a ready run, at the host as it is
pub every-run-now : (F : RunFact) → StartsWith F → IsRunFact F
    → (w : World) (n : ℕ) (c : Placed) (list : NetList) (call : Call) (faulty : Bool) → GoesOn w n c list call faulty
    → AtRun F w n c list (host_of w)
every-run-now F start step w n c list call faulty on =
    let now =
    each-run-now SameShare (of_share F) share-kept (λ list c host. start list c (share_of (att_of c) host))
    (share-step F step) w n c list call faulty on in
    subst (F list c.command (own_entries n w.history) (state_by list c.command (own_entries n w.history)))
    (sym now.keeps) now.holds
