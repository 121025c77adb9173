-- From the parts of a task that the journal is turned to, to what is said of the task.
use Rattle.plugin_session.proofs.Names.{◌≡◌, ℕ, ◌+◌, Bool, false, List, [], ◌∷◌, Option, Some, None, refl, sym, ap}
use Rattle.plugin_session.proofs.Names.{subst, ◌∙◌, length, inl, inr, arith, Result, Ok, Err, IfOk, MatchOption, IsErr}
use Rattle.plugin_session.proofs.Names.{NoMemory, Host, are_after, Command, Cause, Ending, Added, Yes, Refused}
use Rattle.plugin_session.proofs.Names.{reply_to, State, Made, host_on, replies}
use Rattle.session_laws.specs.{Course.{Course, IsRunFrom, advance, begins, state_from, IsOver}, Holds.Known}
use Rattle.session_laws.specs.{Holds.is_faulty, Ran.{Handed, IsAnswerAt, RanByCourse, WasEarly, command_for}}
use Rattle.session_laws.specs.{Ran.course_for, declared.{answer.TaskAnswer.TaskAnswer, row.Row.Row}}
use Rattle.session_verbs.specs.{Journal.{EndsAs, JournalView, Went, may_go}, declared.part.PartEnd.PartEnd}
use Rattle.plugin_session.specs.Runs.{IsAnswerToEnd, IsTurnedTo, RunsWithoutRow, answer_to, answered}
use Rattle.session_laws.specs.declared.answer.TaskAnswer.TheVariants as answers
use Rattle.session_verbs.specs.declared.part.PartEnd.TheVariants as parts
use Rattle.plugin_session.proofs.Endings.{GoesTo, IsEnd, goes-ends}
use Rattle.session_verbs.proofs.Going.{after_entries-none, went-none}

-- ---- the entries

-- a run goes by what the test of faults says, and not by how
run-same : (co : Course) (c : Command) (f g : ℕ → Bool) (made : ℕ) (s : State) (host : Host) (es : List Made)
    → ((k : ℕ) → f k ≡ g k) → IsRunFrom co c f made s host es → IsRunFrom co c g made s host es
run-same co c f g made s host [] same run = run
run-same co c f g made s host (e ∷ es) same run = (
  run.0,
  run.1 ∙ ap (reply_to host e.call) (same made),
  run-same co c f g (made + 1) (advance co (made + 1) s e.reply) (host_on host e) es same run.2,
)

-- a part of the whole course is the task's run, with an answer to the state that it came to
pub ran-by : (h : Handed) (es : List Made) (more : Option Row) (a : TaskAnswer) (old new : JournalView) (t : State)
    → IsTurnedTo h old → Went (course_for h es more) (command_for h) es old new (begins h.task.verb) t
    → IsAnswerAt h es more t a → RanByCourse h old.host es more a
ran-by h es more a old new t turned went answer =
    let co = course_for h es more in
    let c = command_for h in
    let s = begins h.task.verb in
    record {
      state = t;
      run = run-same co c (λ k. are_after k old.faults) (is_faulty h.task.faults) 0 s old.host es turned.faults
          (subst (λ (k : ℕ). IsRunFrom co c (λ m. are_after m old.faults) k s old.host es) turned.made went.run);
      is = subst (λ (k : ℕ). state_from co k s (replies es) ≡ t) turned.made went.state;
      answer = answer;
    }

-- the entries of a part that made them are as many as the journal's calls
pub made-all : (co : Course) (c : Command) (h : Handed) (es : List Made) (old new : JournalView)
    (s t : State) (calls : ℕ)
    → IsTurnedTo h old → Went co c es old new s t → new.made ≡ calls → length es ≡ calls
made-all co c h es old new s t calls turned went is =
    let all : new.made ≡ old.made + length es = ap (λ (j : JournalView). j.made) went.journal in
    let none = turned.made in
    omega arith

pub same-stop : (co : Course) (c : Command) (h : Handed) (es : List Made) (old new : JournalView) (s t : State)
    (stop : Option ℕ) → IsTurnedTo h old → Went co c es old new s t → new.stop ≡ stop → h.task.stop ≡ stop
same-stop co c h es old new s t stop turned went is =
    sym turned.stop ∙ sym (ap (λ (j : JournalView). j.stop) went.journal) ∙ is

-- ---- the answer, where no row is made

answer-plain : (h : Handed) (es : List Made) (t : State) (ending : Ending) → IsEnd false ending → IsOver t ending
    → IsAnswerAt h es None t (answer_to (command_for h) ending)
answer-plain h es t Yes is over = over
answer-plain h es t (Refused cause) is over = (cause, over, refl)
answer-plain h es t Added is over = cc
answer-plain h es t _ is over = absurd is

-- the part that is left of its course, from this state on
pub from-begin : (h : Handed) (es : List Made) (more : Option Row) (old new : JournalView) (s t : State)
    → begins h.task.verb ≡ s → Went (course_for h es more) (command_for h) es old new s t
    → Went (course_for h es more) (command_for h) es old new (begins h.task.verb) t
from-begin h es more old new s t begun went =
    subst (λ u. Went (course_for h es more) (command_for h) es old new u t) (sym begun) went

-- nothing is done yet, and memory is refused
pub ran-none : (h : Handed) (j : JournalView) → IsTurnedTo h j → RanByCourse h j.host [] None answers.OutOfMemory
ran-none h j turned =
    ran-by h [] None answers.OutOfMemory j j (begins h.task.verb) turned
    (went-none (course_for h [] None) (command_for h) j (begins h.task.verb)) tt

-- ---- a verb that makes no row

wrong-or-not : (h : Handed) (wrong : Option Cause) (j : JournalView) → IsTurnedTo h j
    → MatchOption wrong (RanByCourse h j.host [] None answers.OutOfMemory)
    (λ cause. WasEarly h [] answers.OutOfMemory (Known cause))
wrong-or-not h None j turned = ran-none h j turned
wrong-or-not h (Some cause) j turned = record { none = refl; answer = inr refl }

-- memory is refused before its first call
pub runs-none : (h : Handed) (wrong : Option Cause) (j : JournalView) → IsTurnedTo h j
    → RunsWithoutRow h wrong j j answers.OutOfMemory
runs-none h wrong j turned =
    record { entries = []; journal = sym (after_entries-none j); ran = wrong-or-not h wrong j turned }

-- it is refused for its words, unless memory is
pub runs-wrong : (h : Handed) (wrong : Option Cause) (cause : Cause) (j : JournalView) (a : Result TaskAnswer NoMemory)
    → wrong ≡ Some cause → IfOk a (λ answer. answer ≡ answer_to (command_for h) (Refused cause))
    → RunsWithoutRow h wrong j j (answered a)
runs-wrong h wrong cause j (Ok a) is answer = record {
  entries = [];
  journal = sym (after_entries-none j);
  ran = subst (λ o. MatchOption o (RanByCourse h j.host [] None a) (λ why. WasEarly h [] a (Known why))) (sym is)
      (record { none = refl; answer = inl answer });
}
runs-wrong h wrong cause j (Err e) is answer = record {
  entries = [];
  journal = sym (after_entries-none j);
  ran =
      subst (λ o.
      MatchOption o (RanByCourse h j.host [] None answers.OutOfMemory)
      (λ why. WasEarly h [] answers.OutOfMemory (Known why)))
      (sym is)
      (record { none = refl; answer = inr refl });
}

runs-course : (h : Handed) (wrong : Option Cause) (es : List Made) (old new : JournalView) (t : State) (a : TaskAnswer)
    → IsTurnedTo h old → wrong ≡ None
    → Went (course_for h es None) (command_for h) es old new (begins h.task.verb) t → IsAnswerAt h es None t a
    → RunsWithoutRow h wrong old new a
runs-course h wrong es old new t a turned is went answer = record {
  entries = es;
  journal = went.journal;
  ran = subst (λ o. MatchOption o (RanByCourse h old.host es None a) (λ cause. WasEarly h es a (Known cause))) (sym is)
      (ran-by h es None a old new t turned went answer);
}

-- memory is refused on the way
pub runs-cut : (h : Handed) (wrong : Option Cause) (old new : JournalView) (s : State) (e : NoMemory)
    (r : Result TaskAnswer NoMemory) → IsTurnedTo h old → wrong ≡ None → begins h.task.verb ≡ s
    → EndsAs (course_for h [] None) (command_for h) old new s (Err e) → IsErr r
    → RunsWithoutRow h wrong old new (answered r)
runs-cut h wrong old new s e (Err f) turned is begun ends err =
    runs-course h wrong ends.0 old new ends.1 answers.OutOfMemory turned is
    (from-begin h ends.0 None old new s ends.1 begun ends.2) tt
runs-cut h wrong old new s e (Ok a) turned is begun ends err = cc

-- the task's stop is reached where a part is stopped
pub stopped-there : (co : Course) (c : Command) (old new : JournalView) (s : State) (end : PartEnd)
    → EndsAs co c old new s (Ok end) → end ≡ parts.Stopped → may_go new ≡ false
stopped-there co c old new s parts.Stopped ends is = ends.3.1
stopped-there co c old new s (parts.Over ending) ends is = cc

-- its course ends so, and memory may be refused for the answer
pub runs-ends : (h : Handed) (wrong : Option Cause) (old new : JournalView) (s : State) (end : PartEnd)
    (r : Result TaskAnswer NoMemory) → IsTurnedTo h old → wrong ≡ None → begins h.task.verb ≡ s → GoesTo false s
    → EndsAs (course_for h [] None) (command_for h) old new s (Ok end)
    → IfOk r (IsAnswerToEnd (command_for h) new end) → RunsWithoutRow h wrong old new (answered r)
runs-ends h wrong old new s (parts.Over ending) (Ok a) turned is begun plain ends answer =
    let co = course_for h [] None in
    let es = ends.0 in
    let t = ends.1 in
    let over : IsOver (state_from co old.made s (replies es)) ending =
    subst (λ u. IsOver u ending) (sym ends.2.state) ends.3 in
    let end = goes-ends false co old.made s (replies es) ending plain over in
    runs-course h wrong es old new t a turned is (from-begin h es None old new s t begun ends.2)
    (subst (IsAnswerAt h es None t) (sym answer) (answer-plain h es t ending end ends.3))
runs-ends h wrong old new s (parts.Over ending) (Err e) turned is begun plain ends answer =
    runs-course h wrong ends.0 old new ends.1 answers.OutOfMemory turned is
    (from-begin h ends.0 None old new s ends.1 begun ends.2) tt
runs-ends h wrong old new s parts.Stopped (Ok a) turned is begun plain ends answer =
    let co = course_for h [] None in
    let c = command_for h in
    let es = ends.0 in
    let t = ends.1 in
    let calls = answer.0 in
    let stop = same-stop co c h es old new s t (Some calls) turned ends.2 answer.2 in
    let all = made-all co c h es old new s t calls turned ends.2 answer.3 in
    runs-course h wrong es old new t a turned is (from-begin h es None old new s t begun ends.2)
    (subst (IsAnswerAt h es None t) (sym answer.1) (ends.3.0, stop, all))
runs-ends h wrong old new s parts.Stopped (Err e) turned is begun plain ends answer =
    runs-course h wrong ends.0 old new ends.1 answers.OutOfMemory turned is
    (from-begin h ends.0 None old new s ends.1 begun ends.2) tt
