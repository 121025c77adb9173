-- How parts of a task go on from one another.
use Rattle.session_verbs.proofs.Names.{◌≡◌, ℕ, ◌+◌, Bool, List, [], ◌∷◌, ◌++◌, length, map, Some, refl, sym, ap, subst}
use Rattle.session_verbs.proofs.Names.{◌∙◌, Result, Ok, Err, arith, append_assoc, append-nil, length-append, map-append}
use Rattle.session_verbs.proofs.Names.{NoMemory, State, next_call, Call, Host, Command, Made, host_from, host_on}
use Rattle.session_verbs.proofs.Names.{replies}
use Rattle.std.proofs.{Common.add-zero, lemmas.List.Sums.fold-append}
use Rattle.session_laws.specs.{Course.{Course, IsRunFrom, advance, state_from}, Pools.{IsReady, Pools}, Views.entry_of}
use Rattle.session_laws.specs.declared.entry.Entry.{Entry}
use Rattle.session_verbs.specs.Journal.{EndsAs, JournalView, Went, after_entries, made_next}
use Rattle.session_verbs.specs.declared.part.PartEnd.{PartEnd}
use Rattle.session_verbs.specs.declared.part.PartEnd.TheVariants as parts

-- ---- entries behind others

-- the counts of calls are equal by arithmetic alone
run-append : (co : Course) (c : Command) (faulty : ℕ → Bool) (made next : ℕ) (s : State) (host : Host)
    (es fs : List Made)
    → next ≡ made + length es → IsRunFrom co c faulty made s host es
    → IsRunFrom co c faulty next (state_from co made s (replies es)) (host_from host es) fs
    → IsRunFrom co c faulty made s host (es ++ fs)
run-append co c faulty made next s host [] fs is run more =
    subst (λ (k : ℕ). IsRunFrom co c faulty k s host fs) (is ∙ add-zero made) more
run-append co c faulty made next s host (e ∷ es) fs is run more = (
  run.0,
  run.1,
  run-append co c faulty (made + 1) next (advance co (made + 1) s e.reply) (host_on host e) es fs (omega arith)
      run.2 more,
)

state_from-append : (co : Course) (made next : ℕ) (s : State) (es fs : List Made) → next ≡ made + length es
    → state_from co made s (replies (es ++ fs)) ≡ state_from co next (state_from co made s (replies es)) (replies fs)
state_from-append co made next s [] fs is =
    ap (λ k. state_from co k s (replies fs)) (sym (is ∙ add-zero made))
state_from-append co made next s (e ∷ es) fs is =
    state_from-append co (made + 1) next (advance co (made + 1) s e.reply) es fs (omega arith)

same_after : (j : JournalView) (h g : Host) (x y : List Entry) (m n : ℕ) → h ≡ g → x ≡ y → m ≡ n
    → ◌≡◌ {A = JournalView} (record j { host = h; history = x; made = m })
    (record j { host = g; history = y; made = n })
same_after j h g x y m n hosts histories counts =
    let after : Host → List Entry → ℕ → JournalView = λ k l i. record j { host = k; history = l; made = i } in
    ap (λ (k : Host). after k x m) hosts ∙ ap (λ (l : List Entry). after g l m) histories ∙ ap (after g y) counts

pub after_entries-none : (j : JournalView) → after_entries j [] ≡ j
after_entries-none j =
    same_after j j.host j.host (j.history ++ []) j.history (j.made + 0) j.made refl (append-nil j.history)
    (add-zero j.made)

pub after_entries-append : (j : JournalView) (es fs : List Made)
    → after_entries (after_entries j es) fs ≡ after_entries j (es ++ fs)
after_entries-append j es fs =
    let entry : Made → Entry = entry_of j.task in
    same_after j (host_from (host_from j.host es) fs) (host_from j.host (es ++ fs))
    ((j.history ++ map entry es) ++ map entry fs) (j.history ++ map entry (es ++ fs))
    (j.made + length es + length fs) (j.made + length (es ++ fs))
    (sym (fold-append host_on j.host es fs))
    (append_assoc j.history (map entry es) (map entry fs) ∙ ap (λ l. j.history ++ l) (sym (map-append entry es fs)))
    (let both = length-append es fs in omega arith)

-- ---- parts of a task

-- no entry
pub went-none : (co : Course) (c : Command) (j : JournalView) (s : State) → Went co c [] j j s s
went-none co c j s = record { journal = sym (after_entries-none j); run = tt; state = refl }

-- one part, and then another
pub went-then : {co : Course} {c : Command} {es fs : List Made} {a b d : JournalView} {s t u : State}
    → Went co c es a b s t → Went co c fs b d t u → Went co c (es ++ fs) a d s u
went-then {co = co} {c = c} {es = es} {fs = fs} {a = a} {b = b} {d = d} {s = s} {t = t} {u = u} first second =
    let from_entries : JournalView → Type 0 = λ j. Went co c fs j d t u in
    let from_state : State → Type 0 = λ v. Went co c fs (after_entries a es) d v u in
    let rest : Went co c fs (after_entries a es) d (state_from co a.made s (replies es)) u =
    subst from_state (sym first.state) (subst from_entries first.journal second) in
    record {
      journal = rest.journal ∙ after_entries-append a es fs;
      run = run-append co c _ a.made (a.made + length es) s a.host es fs refl first.run rest.run;
      state = state_from-append co a.made (a.made + length es) s es fs refl ∙ rest.state;
    }

-- one call, with the kernel's reply or a fault
pub went-one : (co : Course) (c : Command) (call : Call) (a d : JournalView) (s : State) → next_call c s ≡ Some call
    → d ≡ after_entries a (made_next a call ∷ [])
    → Went co c (made_next a call ∷ []) a d s (advance co (a.made + 1) s (made_next a call).reply)
went-one co c call a d s is made = record { journal = made; run = (is, refl, tt); state = refl }

-- one call more
pub went-next : {co : Course} {c : Command} {es : List Made} {a b : JournalView} {s t : State} (call : Call)
    (d : JournalView)
    → Went co c es a b s t → next_call c t ≡ Some call → d ≡ after_entries b (made_next b call ∷ [])
    → Went co c (es ++ made_next b call ∷ []) a d s (advance co (b.made + 1) t (made_next b call).reply)
went-next {co = co} {c = c} {b = b} {t = t} call d before is made = went-then before (went-one co c call b d t is made)

-- a part whose end is known, behind another
pub ends-then : {co : Course} {c : Command} {es : List Made} {a b : JournalView} {s t : State} (d : JournalView)
    (end : Result PartEnd NoMemory) → Went co c es a b s t → EndsAs co c b d t end → EndsAs co c a d s end
ends-then {es = es} d (Ok (parts.Over ending)) first rest =
    (es ++ rest.0, rest.1, went-then first rest.2, rest.3)
ends-then {es = es} d (Ok parts.Stopped) first rest = (es ++ rest.0, rest.1, went-then first rest.2, rest.3)
ends-then {es = es} d (Err e) first rest = (es ++ rest.0, rest.1, went-then first rest.2)

-- ---- a host that is ready for pools

-- it stays so over a call that is entered, where the call leaves it so
pub ready-made : (pools : Pools) (a d : JournalView) (call : Call) → d ≡ after_entries a (made_next a call ∷ [])
    → IsReady pools (host_on a.host (made_next a call)) → IsReady pools d.host
ready-made pools a d call made ready =
    let P : JournalView → Type 0 = λ j. IsReady pools j.host in
    subst P (sym made) ready
