-- What words and files come to.
use Rattle.std.proofs.Common.{◌≡◌, ◌∙◌, ◌≤◌, ℕ, List, [], inl, inr, refl, sym, ap, subst, Option, Some, Ok, Err}
use Rattle.cni_io.specs.Files.{StoredFiles}
use Rattle.cni_json.specs.Outcome.{◌>>=◌}
use Rattle.pod_text.specs.declared.asked.{Asked.Asked, SessionAsked.SessionAsked}
use Rattle.pod_workers.specs.{Plans.IsWellFormed, declared.plan.Plan.Plan}
use Rattle.session_file.specs.{WellFormed.IsSessionConf, declared.session.SessionConf.SessionConf}
use Rattle.tool_words.specs.{Source.IsSourceWithin, Words.{IsWithinLimits, words_given}, declared.source.Named.Named}
use Rattle.tool_words.specs.declared.{source.Source.{Source, TheVariants.{Files, Session}}, words.Words.Words}
use Rattle.tool_plan.specs.{Causes.{GivesStored, IsUnread, ReachesFile, WhereTold, files_named}, Dues.AreFiles}
use Rattle.tool_plan.specs.{Dues.{ComesTo, ComesToNoPlan, IsDueOf, IsSessionDueOf, NameNoFile}, Seen.FilesSeen}
use Rattle.tool_plan.specs.Verdict.{Input, IsAskedBy, IsInputBy, Judged, asked_of, carry, input_of, input_of_files}
use Rattle.tool_plan.specs.Verdict.{of_plan, of_session, session, session_asked_of, stored_session, verdict_if}
use Rattle.tool_plan.specs.{Verdict.verdict_on, declared.due.{DuePlan.DuePlan, DueSession.DueSession}}
use Rattle.tool_plan.specs.declared.plan.NoPlan.{NoPlan, TheVariants.{Usage, Line, Unread, NoMemory}}
use Rattle.tool_plan.specs.declared.plan.PlanInput.{PlanInput}

-- the words are taken and have this source
pub record IsBy (given : List (List ℕ)) (by : Words) (source : Source) : Type 0 where
  pub words_are : words_given given ≡ Some by
  pub source_is : by.source ≡ source

-- and it is within the limits
pub within : (given : List (List ℕ)) (by : Words) (source : Source) → IsBy given by source → IsWithinLimits by
    → IsSourceWithin source
within given by source is limits = subst IsSourceWithin is.source_is limits.source

-- a source that names files
abbrev NamesFiles : Source → Type 0
NamesFiles source = files_named source ≡ [] → ⊥

pub files_are_named : (named : Named) → NamesFiles (Files named)
files_are_named named none = cc

pub session_is_named : (file : List ℕ) → NamesFiles (Session file)
session_is_named file none = cc

-- words with such a source name files
pub some_named : (given : List (List ℕ)) (by : Words) (source : Source) → IsBy given by source → NamesFiles source
    → NameNoFile given → ⊥
some_named given by source is names none = names (ap files_named (sym is.source_is) ∙ none by is.words_are)

-- and these are told
told : (given : List (List ℕ)) (by : Words) (source : Source) (files : FilesSeen) (stored : StoredFiles)
    → IsBy given by source → NamesFiles source → AreFiles given files stored → files.stored ≡ Some stored
told given by source files stored is names (inl at) = at
told given by source files stored is names (inr none) = absurd (some_named given by source is names none)

-- words that are taken come to what their source comes to
comes : (given : List (List ℕ)) (by : Words) (source : Source) (files : FilesSeen) (input : Judged Input)
    → IsBy given by source → ((stored : StoredFiles) → AreFiles given files stored → input_of stored source ≡ input)
    → ComesTo given files (verdict_on by input)
comes given by source files input is has = λ stored at.
    ap (λ (o : Option Words). verdict_if o stored) is.words_are
    ∙ ap (λ (s : Source). verdict_on by (input_of stored s)) is.source_is ∙ ap (verdict_on by) (has stored at)

-- ---- a source whose files are read

module _ {X : Type 0} (wrap : X → Input) (wanted : StoredFiles → Judged X) (source : Source) (names : NamesFiles source)
    (input_is : (stored : StoredFiles) → input_of stored source ≡ (wanted stored >>= (λ (x : X). Ok (wrap x)))) where
  -- what was read is what the words come to
  comes_read : (given : List (List ℕ)) (by : Words) (files : FilesSeen) (read : Judged X) → IsBy given by source
      → WhereTold files.stored (λ stored. wanted stored ≡ read)
      → ComesTo given files (verdict_on by (read >>= (λ (x : X). Ok (wrap x))))
  comes_read given by files read is gives =
      comes given by source files (read >>= (λ (x : X). Ok (wrap x))) is (λ stored at.
      input_is stored
      ∙ ap (λ (r : Judged X). r >>= (λ (x : X). Ok (wrap x)))
      (gives stored (told given by source files stored is names at)))

  -- a read that gives nothing
  stops_read : (given : List (List ℕ)) (by : Words) (files : FilesSeen) (Reached : List ℕ → Type 0) (none : NoPlan)
      → IsBy given by source → ((file : List ℕ) → Reached file → ReachesFile files.stored source file)
      → GivesStored {X = X} (λ x. x) files.stored files.failures_before files.failures_now Reached wanted (Err none)
      → ComesToNoPlan given files none
  stops_read given by files Reached Usage is reaches gives = absurd gives
  stops_read given by files Reached (Line text) is reaches gives = record {
    by = by;
    words_are = is.words_are;
    comes = comes_read given by files (Err text.items) is gives;
  }
  stops_read given by files Reached (Unread text) is reaches gives = record {
    by = by;
    words_are = is.words_are;
    unread =
        subst
        (λ (s : Source). IsUnread (ReachesFile files.stored s) files.failures_before files.failures_now text.items)
        (sym is.source_is)
        (record {
          file = gives.file;
          reached = reaches gives.file gives.reached;
          rose = gives.rose;
          says = gives.says;
        });
  }
  stops_read given by files Reached NoMemory is reaches gives = tt

pub files_come : (given : List (List ℕ)) (by : Words) (files : FilesSeen) (named : Named) (input : PlanInput)
    → IsBy given by (Files named) → WhereTold files.stored (λ stored. input_of_files stored named ≡ Ok input)
    → ComesTo given files (carry input.plan (asked_of by input))
files_come given by files named input is gives =
    comes_read of_plan (λ stored. input_of_files stored named) (Files named) (files_are_named named) (λ stored. refl)
    given by files (Ok input) is gives

pub files_stop : (given : List (List ℕ)) (by : Words) (files : FilesSeen) (named : Named) (none : NoPlan)
    → IsBy given by (Files named)
    → GivesStored {X = PlanInput} (λ input. input) files.stored files.failures_before files.failures_now
    (ReachesFile files.stored (Files named)) (λ stored. input_of_files stored named) (Err none)
    → ComesToNoPlan given files none
files_stop given by files named none is gives =
    stops_read of_plan (λ stored. input_of_files stored named) (Files named) (files_are_named named) (λ stored. refl)
    given by files (ReachesFile files.stored (Files named)) none is (λ file at. at) gives

pub session_comes : (given : List (List ℕ)) (by : Words) (files : FilesSeen) (file name : List ℕ) (conf : SessionConf)
    → IsBy given by (Session file) → name ≡ file
    → WhereTold files.stored (λ stored. stored_session stored name ≡ Ok conf)
    → ComesTo given files (session conf (session_asked_of by))
session_comes given by files file name conf is same gives =
    comes_read of_session (λ stored. stored_session stored file) (Session file) (session_is_named file) (λ stored. refl)
    given by files (Ok conf) is (λ stored at. ap (stored_session stored) (sym same) ∙ gives stored at)

pub session_stops : (given : List (List ℕ)) (by : Words) (files : FilesSeen) (file name : List ℕ) (none : NoPlan)
    → IsBy given by (Session file) → name ≡ file
    → GivesStored {X = SessionConf} (λ conf. conf) files.stored files.failures_before files.failures_now
    (λ reached. reached ≡ name) (λ stored. stored_session stored name) (Err none)
    → ComesToNoPlan given files none
session_stops given by files file name none is same gives =
    stops_read of_session (λ stored. stored_session stored file) (Session file) (session_is_named file) (λ stored. refl)
    given by files (λ reached. reached ≡ file) none is (λ reached at. at)
    (subst (λ (f : List ℕ).
    GivesStored {X = SessionConf} (λ conf. conf) files.stored files.failures_before files.failures_now
    (λ reached. reached ≡ f) (λ stored. stored_session stored f) (Err none))
    same gives)

-- ---- what is due

asked_by : (by : Words) (input : PlanInput) → IsInputBy by.source input → IsAskedBy by input.plan (asked_of by input)
asked_by by input given = record {
  commands = refl;
  requests = given.requests;
  trace = refl;
  dump = refl;
  packets = given.packets;
}

pub plan_is_due : (given : List (List ℕ)) (by : Words) (source : Source) (files : FilesSeen)
    (input : PlanInput) (due : DuePlan)
    → IsBy given by source → due.threads ≡ by.threads → due.plan ≡ input.plan → due.asked ≡ asked_of by input
    → IsInputBy source input → IsWellFormed input.plan → 1 ≤ by.threads
    → ComesTo given files (carry input.plan (asked_of by input)) → IsDueOf given files due
plan_is_due given by source files input due is threads same asks given_by formed some on =
    let asked = asked_by by input (subst (λ (s : Source). IsInputBy s input) (sym is.source_is) given_by) in
    record {
      by = by;
      words_are = is.words_are;
      threads_are = threads;
      comes =
          subst (λ (p : Plan). ComesTo given files (carry p due.asked)) (sym same)
          (subst (λ (a : Asked). ComesTo given files (carry input.plan a)) (sym asks) on);
      asked_is =
          subst (λ (p : Plan). IsAskedBy by p due.asked) (sym same) (subst (IsAskedBy by input.plan) (sym asks) asked);
      well_formed = subst IsWellFormed (sym same) formed;
      some_threads = subst (λ (n : ℕ). 1 ≤ n) (sym threads) some;
    }

pub session_is_due : (given : List (List ℕ)) (by : Words) (source : Source) (files : FilesSeen) (conf : SessionConf)
    (due : DueSession)
    → IsBy given by source → due.conf ≡ conf → due.asked ≡ session_asked_of by → IsSessionConf conf
    → ComesTo given files (session conf (session_asked_of by)) → IsSessionDueOf given files due
session_is_due given by source files conf due is same asks formed on = record {
  by = by;
  words_are = is.words_are;
  comes =
      subst (λ (c : SessionConf). ComesTo given files (session c due.asked)) (sym same)
      (subst (λ (a : SessionAsked). ComesTo given files (session conf a)) (sym asks) on);
  asked_is = asks;
  well_formed = subst IsSessionConf (sym same) formed;
}
