-- From a run of a verb to what is said of a task.
use Rattle.plugin_session.proofs.Names.{◌≡◌, ℕ, ◌+◌, ◌++◌, Bool, true, false, List, [], ◌∷◌, Option, Some, None, map}
use Rattle.plugin_session.proofs.Names.{refl, sym, ap, subst, ◌∙◌, ◌⊎◌, ◌≤◌, arith, is_some, length, IfSome, inl, inr}
use Rattle.plugin_session.proofs.Names.{Result, Ok, Err, IfOk, append-nil, same_Some, then_some, MatchOption, IsErr}
use Rattle.plugin_session.proofs.Names.{option_map, NoMemory, Call, CacheGet, Reply, Host, Command, att_of, Cause, Yes}
use Rattle.plugin_session.proofs.Names.{Refused, State, Collecting, FindingEntry, ReadingCache, leases_in, next_call}
use Rattle.plugin_session.proofs.Names.{Made, host_from, replies}
use Rattle.cni_result.specs.declared.error.CniError.{CniError}
use Rattle.pod_file.specs.declared.command.Verb.{Verb}
use Rattle.session_laws.specs.{Course.{Course, IsRunFrom, begins, start_work}, Holds.{Suite, TaskCause, Known}}
use Rattle.session_laws.specs.{Holds.{early_by, error_by, has_begun, is_begun}, Ran.{Handed, IsNewRow, Ran}}
use Rattle.session_laws.specs.{Ran.{RanByCourse, WasEarly, command_for, course_for, early_for}, Views.entry_of}
use Rattle.session_laws.specs.declared.{answer.TaskAnswer.TaskAnswer, entry.Entry.Entry, row.Row.Row}
use Rattle.session_verbs.specs.{Journal.{JournalView, after_entries}, declared.begun.Begun.Begun}
use Rattle.plugin_session.specs.Runs.{IsTurnedTo, RanTask, RunsAdd, RunsWithoutRow, answer_to, answered, ran_or, row_if}
use Rattle.plugin_session.specs.declared.run.TaskRun.{TaskRun}
use Rattle.session_laws.specs.declared.answer.TaskAnswer.TheVariants as answers
use Rattle.pod_file.specs.declared.command.Verb.TheVariants as verbs
use Rattle.plugin_session.proofs.Turned.{ran-none}

-- what the journal has after these entries, by the task's number
history-by : (h : Handed) (old new : JournalView) (es : List Made) → IsTurnedTo h old → new ≡ after_entries old es
    → new.history ≡ old.history ++ map (entry_of h.number) es
history-by h old new es turned is =
    ap (λ (j : JournalView). j.history) is ∙ ap (λ (n : ℕ). old.history ++ map (entry_of n) es) turned.task

-- it made no more calls than its stop says, where the journal keeps to that
within-by : (h : Handed) (old new : JournalView) (es : List Made) → IsTurnedTo h old → new ≡ after_entries old es
    → IfSome new.stop (λ most. new.made ≤ most) → IfSome h.task.stop (λ most. length es ≤ most)
within-by h old new es turned is kept =
    let stop : new.stop ≡ h.task.stop = ap (λ (j : JournalView). j.stop) is ∙ turned.stop in
    let made : new.made ≡ old.made + length es = ap (λ (j : JournalView). j.made) is in
    let counted : new.made ≡ length es = omega (arith, made, turned.made) in
    subst (λ o. IfSome o (λ most. length es ≤ most)) stop (subst (λ n. IfSome new.stop (λ most. n ≤ most)) counted kept)

-- no call is within every stop
none-within : (stop : Option ℕ) → IfSome stop (λ most. 0 ≤ most)
none-within None = tt
none-within (Some most) = omega arith

-- ---- an ADD that was run

begun-some : (begun : Bool) (b : Begun) → is_some (option_map (λ (x : Begun). x.row) (then_some begun b)) ≡ begun
begun-some true b = refl
begun-some false b = refl

row-same : (begun : Bool) (b : Begun) → then_some begun b.row ≡ option_map (λ (x : Begun). x.row) (then_some begun b)
row-same true b = refl
row-same false b = refl

if-begun : {X : Type 0} (begun : Bool) (x : X) (P : X → Type 0) → (begun ≡ true → P x) → IfSome (then_some begun x) P
if-begun true x P f = f refl
if-begun false x P f = tt

-- with the row that it made, where it made one
pub ran-add : (suite : Suite) (h : Handed) (old new : JournalView) (b : Begun) (run : TaskRun) → IsTurnedTo h old
    → early_for suite h ≡ None → RunsAdd suite h old new b run.answer → run.begun ≡ then_some b.begun b
    → IfSome new.stop (λ most. new.made ≤ most) → RanTask suite h old new run
ran-add suite h old new b run turned early runs kept stop =
    let es = runs.entries in
    let row : Option Begun → Option Row = option_map (λ (x : Begun). x.row) in
    let more : row_if b ≡ row run.begun = row-same b.begun b ∙ ap row (sym kept) in
    record {
      entries = es;
      history = history-by h old new es turned runs.journal;
      host = ap (λ (j : JournalView). j.host) runs.journal;
      ran = record {
        begun = ap (λ (o : Option Begun). is_some (row o)) kept ∙ begun-some b.begun b ∙ runs.begun;
        row = subst (λ o. IfSome o (IsNewRow suite h es)) more (if-begun b.begun b.row (IsNewRow suite h es) runs.row);
        ran =
            subst (λ o. MatchOption o (RanByCourse h old.host es (row run.begun) run.answer) (WasEarly h es run.answer))
            (sym early)
            (subst (λ o. RanByCourse h old.host es o run.answer) more runs.ran);
        within = within-by h old new es turned runs.journal stop;
      };
      given = subst (λ o. IfSome o (λ x. x.given.items ≡ leases_in (replies es))) (sym kept)
          (if-begun b.begun b (λ x. x.given.items ≡ leases_in (replies es)) runs.given);
    }

-- ---- before the first call

abbrev run-of : TaskAnswer → TaskRun
run-of a = record { answer = a; begun = None }

-- no call is made
ran-nothing : (suite : Suite) (h : Handed) (j : JournalView) (a : TaskAnswer)
    → MatchOption (early_for suite h) (RanByCourse h j.host [] None a) (WasEarly h [] a)
    → RanTask suite h j j (run-of a)
ran-nothing suite h j a ran = record {
  entries = [];
  history = sym (append-nil j.history);
  host = refl;
  ran = record { begun = refl; row = tt; ran = ran; within = none-within h.task.stop };
  given = tt;
}

early-or-not : (h : Handed) (j : JournalView) (early : Option TaskCause)
    → RanByCourse h j.host [] None answers.OutOfMemory
    → MatchOption early (RanByCourse h j.host [] None answers.OutOfMemory) (WasEarly h [] answers.OutOfMemory)
early-or-not h j None ran = ran
early-or-not h j (Some cause) ran = record { none = refl; answer = inr refl }

-- memory is refused before the journal is turned to it
pub ran-idle : (suite : Suite) (h : Handed) (was new : JournalView) (run : TaskRun) → new.history ≡ was.history
    → new.host ≡ was.host → run ≡ run-of answers.OutOfMemory → RanTask suite h was new run
ran-idle suite h was new run history host is =
    let idle : RanByCourse h was.host [] None answers.OutOfMemory =
    record { state = begins h.task.verb; run = tt; is = refl; answer = tt } in
    subst (RanTask suite h was new) (sym is) (record {
      entries = [];
      history = history ∙ sym (append-nil was.history);
      host = host;
      ran = record {
        begun = refl;
        row = tt;
        ran = early-or-not h was (early_for suite h) idle;
        within = none-within h.task.stop;
      };
      given = tt;
    })

-- it is refused for what is wrong of it
pub ran-wrong : (suite : Suite) (h : Handed) (j : JournalView) (cause : TaskCause) (a : TaskAnswer)
    → early_for suite h ≡ Some cause
    → (a ≡ answers.Refused (error_by (command_for h) cause)) ⊎ (a ≡ answers.OutOfMemory)
    → RanTask suite h j j (run-of a)
ran-wrong suite h j cause a early answer =
    ran-nothing suite h j a
    (subst (λ o. MatchOption o (RanByCourse h j.host [] None a) (WasEarly h [] a)) (sym early)
    (record { none = refl; answer = answer }))

-- memory is refused
pub ran-memory : (suite : Suite) (h : Handed) (j : JournalView) → IsTurnedTo h j → (r : Result TaskRun NoMemory)
    → IsErr r
    → RanTask suite h j j (ran_or r)
ran-memory suite h j turned (Err e) err =
    ran-nothing suite h j answers.OutOfMemory (early-or-not h j (early_for suite h) (ran-none h j turned))
ran-memory suite h j turned (Ok run) err = cc

pub ran-refused : (suite : Suite) (h : Handed) (j : JournalView) (cause : TaskCause) (e : CniError) (run : TaskRun)
    → early_for suite h ≡ Some cause → e ≡ error_by (command_for h) cause → run ≡ run-of (answers.Refused e)
    → RanTask suite h j j run
ran-refused suite h j cause e run early is run_is =
    subst (RanTask suite h j j) (sym run_is)
    (ran-wrong suite h j cause (answers.Refused e) early (inl (ap answers.Refused is)))

-- it is refused for its words, unless memory is
pub ran-words : (suite : Suite) (h : Handed) (c : Command) (j : JournalView) (cause : Cause)
    (r : Result TaskAnswer NoMemory)
    (run : TaskRun) → c ≡ command_for h → early_for suite h ≡ Some (Known cause)
    → IfOk r (λ a. a ≡ answer_to c (Refused cause)) → run ≡ run-of (answered r) → RanTask suite h j j run
ran-words suite h c j cause (Ok a) run command early answer is =
    subst (RanTask suite h j j) (sym is)
    (ran-wrong suite h j (Known cause) a early (inl (answer ∙ ap (λ x. answer_to x (Refused cause)) command)))
ran-words suite h c j cause (Err e) run command early answer is =
    subst (RanTask suite h j j) (sym is) (ran-wrong suite h j (Known cause) answers.OutOfMemory early (inr refl))

-- ---- a verb that makes no row

-- it makes no Begin
no-begin : (call made : Call) (r : Reply) → ((s : Reply) → is_begun call s ≡ false) → Some call ≡ Some made
    → is_begun made r ≡ false
no-begin call made r not is = subst (λ x. is_begun x r ≡ false) (same_Some call made is) (not r)

not-begun : (co : Course) (c : Command) (f : ℕ → Bool) (call : Call) (s : State) (host : Host) (es : List Made)
    → next_call c s ≡ Some call → ((r : Reply) → is_begun call r ≡ false) → IsRunFrom co c f 0 s host es
    → has_begun es ≡ false
not-begun co c f call s host [] next not run = refl
not-begun co c f call s host (e ∷ es) next not run = no-begin call e.call e.reply not (sym next ∙ run.0)

begins-otherwise : (co : Course) (c : Command) (f : ℕ → Bool) (verb : Verb) (host : Host) (es : List Made)
    → (verb ≡ verbs.Add → ⊥) → IsRunFrom co c f 0 (begins verb) host es → has_begun es ≡ false
unfolding next_call
begins-otherwise co c f verbs.Add host es not run = absurd (not refl)
begins-otherwise co c f verbs.Del host es not run =
    not-begun co c f (CacheGet (att_of c)) (ReadingCache Yes) host es refl (λ r. refl) run
begins-otherwise co c f verbs.Check host es not run =
    not-begun co c f (CacheGet (att_of c)) FindingEntry host es refl (λ r. refl) run
begins-otherwise co c f _ host es not run = not-begun co c f _ (Collecting start_work []) host es refl (λ r. refl) run

ends-unbegun : (h : Handed) (wrong : Option Cause) (host : Host) (es : List Made) (a : TaskAnswer)
    → (h.task.verb ≡ verbs.Add → ⊥)
    → MatchOption wrong (RanByCourse h host es None a) (λ cause. WasEarly h es a (Known cause)) → false ≡ has_begun es
ends-unbegun h None host es a not ran =
    sym (begins-otherwise (course_for h es None) (command_for h) _ h.task.verb host es not ran.run)
ends-unbegun h (Some cause) host es a not ran = ap has_begun (sym ran.none)

known : (h : Handed) (wrong : Option Cause) (host : Host) (es : List Made) (a : TaskAnswer)
    → MatchOption wrong (RanByCourse h host es None a) (λ cause. WasEarly h es a (Known cause))
    → MatchOption (option_map Known wrong) (RanByCourse h host es None a) (WasEarly h es a)
known h None host es a ran = ran
known h (Some cause) host es a ran = ran

plain : (suite : Suite) (h : Handed) (wrong : Option Cause) (old new : JournalView) (a : TaskAnswer)
    → IsTurnedTo h old → (h.task.verb ≡ verbs.Add → ⊥) → early_for suite h ≡ option_map Known wrong
    → RunsWithoutRow h wrong old new a → IfSome new.stop (λ most. new.made ≤ most) → RanTask suite h old new (run-of a)
plain suite h wrong old new a turned not early runs stop = record {
  entries = runs.entries;
  history = history-by h old new runs.entries turned runs.journal;
  host = ap (λ (j : JournalView). j.host) runs.journal;
  ran = record {
    begun = ends-unbegun h wrong old.host runs.entries a not runs.ran;
    row = tt;
    ran =
        subst (λ o. MatchOption o (RanByCourse h old.host runs.entries None a) (WasEarly h runs.entries a)) (sym early)
        (known h wrong old.host runs.entries a runs.ran);
    within = within-by h old new runs.entries turned runs.journal stop;
  };
  given = tt;
}

pub ran-plain : (suite : Suite) (h : Handed) (wrong : Option Cause) (old new : JournalView)
    (a : TaskAnswer) (run : TaskRun)
    → IsTurnedTo h old → (h.task.verb ≡ verbs.Add → ⊥) → early_for suite h ≡ option_map Known wrong
    → RunsWithoutRow h wrong old new a → run ≡ run-of a → IfSome new.stop (λ most. new.made ≤ most)
    → RanTask suite h old new run
ran-plain suite h wrong old new a run turned not early runs is stop =
    subst (RanTask suite h old new) (sym is) (plain suite h wrong old new a turned not early runs stop)

-- ---- its verb

-- what may be wrong of another verb's words
pub early-as : (suite : Suite) (h : Handed) (verb : Verb) → h.task.verb ≡ verb
    → early_for suite h ≡ early_by suite.plugins verb (command_for h) h.task
early-as suite h verb is = ap (λ (v : Verb). early_by suite.plugins v (command_for h) h.task) is

pub is-del : (verb : Verb) → verb ≡ verbs.Del → verb ≡ verbs.Add → ⊥
is-del verb is also = cc

pub is-check : (verb : Verb) → verb ≡ verbs.Check → verb ≡ verbs.Add → ⊥
is-check verb is also = cc

pub collects : (verb : Verb) → (verb ≡ verbs.Add → ⊥) → (verb ≡ verbs.Del → ⊥) → (verb ≡ verbs.Check → ⊥)
    → begins verb ≡ Collecting start_work []
collects verbs.Add add del check = absurd (add refl)
collects verbs.Del add del check = absurd (del refl)
collects verbs.Check add del check = absurd (check refl)
collects _ add del check = refl

pub collects-early : (suite : Suite) (h : Handed) (verb : Verb) → (verb ≡ verbs.Add → ⊥) → (verb ≡ verbs.Del → ⊥)
    → (verb ≡ verbs.Check → ⊥) → early_by suite.plugins verb (command_for h) h.task ≡ None
collects-early suite h verbs.Add add del check = absurd (add refl)
collects-early suite h verbs.Del add del check = absurd (del refl)
collects-early suite h verbs.Check add del check = absurd (check refl)
collects-early suite h _ add del check = refl

-- ---- turned to it

-- a run goes on from a journal that has the same host and history
pub ran-from : (suite : Suite) (h : Handed) (was old new : JournalView) (run : TaskRun) → old.history ≡ was.history
    → old.host ≡ was.host → RanTask suite h old new run → RanTask suite h was new run
ran-from suite h was old new run history host ran = record {
  entries = ran.entries;
  history = ran.history ∙ ap (λ (x : List Entry). x ++ map (entry_of h.number) ran.entries) history;
  host = ran.host ∙ ap (λ (x : Host). host_from x ran.entries) host;
  ran =
      subst (λ (x : Host). Ran suite h x ran.entries (option_map (λ (b : Begun). b.row) run.begun) run.answer)
      host ran.ran;
  given = ran.given;
}
