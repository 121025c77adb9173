-- What a session keeps, from before its first task and over each.
use Rattle.plugin_session.proofs.Names.{◌≡◌, ◌<◌, ℕ, ◌+◌, List, [], ◌∷◌, ◌++◌, length, map, get_or, Option, Some, None}
use Rattle.plugin_session.proofs.Names.{refl, sym, ap, subst, ◌∙◌, slice_get, IfSome, option_map, unwrap_or, Addr}
use Rattle.plugin_session.proofs.Names.{leases_in, Made, host_from, replies, Task}
use Rattle.std.proofs.lemmas.{List.length-set, Option.{slice_get-map, slice_get_read}}
use Rattle.std.specs.Option.{option_and_then, option_map_or}
use Rattle.session_laws.specs.{Holds.{Grows, Suite, TaskHolds}, Kept.{AreNumbered, AreLastRows, IsLastRow, pools_of}}
use Rattle.session_laws.specs.{Pools.IsReady, Ran.{Handed, Ran}, Steps.{Step, handed, if_any, places_after}}
use Rattle.session_laws.specs.Views.{entry_of, SessionView, att_by, begun, finish, leased_by, leased_to, number, row_of}
use Rattle.session_laws.specs.declared.row.Row.{Row}
use Rattle.session_verbs.specs.{Journal.JournalView, declared.begun.Begun.Begun}
use Rattle.plugin_session.specs.{Kept.{IsKept, TheViewIsKept}, Runs.RanTask, declared.run.TaskRun.TaskRun}
use Rattle.session_file.specs.{WellFormed.IsSessionConf, declared.session.SessionConf.SessionConf}
use Rattle.session_laws.proofs.Steps.{LastRows.{last_row-read, steps-places}, StepViews.{finish-after, steps-grow}}
use Rattle.session_laws.proofs.Steps.{StepsHold.steps-hold_of_the_last, StepsKeep.{first-kept, steps-keep}}
use Rattle.session_laws.proofs.Steps.StepsKeep.{steps-leases}

-- ---- what the view tells

pub view-kept : TheViewIsKept
view-kept j given numbers places s kept = record {
  conf = kept.conf;
  count = kept.count;
  ready = subst (IsReady (pools_of s.conf)) kept.host kept.ready;
  entries = kept.entries;
  rows = kept.rows;
  few = kept.few;
  objects = kept.objects;
  unleased = kept.unleased;
}

-- ---- before the first task

kept-begun : (j : JournalView) (given : List (List Addr)) (numbers : List ℕ) (places : List (Option ℕ))
    (conf : SessionConf) → IsSessionConf conf
    → j.host ≡ conf.opening → j.history ≡ [] → given ≡ []
    → AreNumbered conf.network conf.tasks numbers (length places)
    → ((k : ℕ) (place : Option ℕ) → slice_get places k ≡ Some place → place ≡ None)
    → IsKept j given numbers places (begun conf)
kept-begun j given numbers places conf is opening history none numbered empty =
    let first = first-kept conf is in
    record {
      conf = first.conf;
      count = first.count;
      history = history;
      host = opening;
      ready = subst (IsReady (pools_of conf)) (sym opening) first.ready;
      entries = first.entries;
      rows = first.rows;
      few = first.few;
      leased = none;
      numbered = numbered;
      last_rows = λ n t k place there at here.
          subst (IsLastRow [] (att_by (begun conf) t)) (sym (empty k place here)) refl;
      objects = first.objects;
      unleased = first.unleased;
    }

pub begun-is : (conf : SessionConf) (s : SessionView) → s.conf ≡ conf → s.history ≡ [] → s.rows ≡ [] → s.answers ≡ []
    → s ≡ begun conf
begun-is conf s same history rows answers = λ i.
    record { conf = same i; history = history i; rows = rows i; answers = answers i }

pub begun-kept : (j : JournalView) (given : List (List Addr)) (numbers : List ℕ) (places : List (Option ℕ))
    (conf : SessionConf) (s : SessionView)
    → IsSessionConf conf → j.host ≡ conf.opening → j.history ≡ [] → given ≡ []
    → AreNumbered conf.network conf.tasks numbers (length places)
    → ((k : ℕ) (place : Option ℕ) → slice_get places k ≡ Some place → place ≡ None)
    → s ≡ begun conf → IsKept j given numbers places s
begun-kept j given numbers places conf s is opening history none numbered empty same =
    subst (IsKept j given numbers places) (sym same)
    (kept-begun j given numbers places conf is opening history none numbered empty)

-- ---- what a task is handed

-- what was read at an index stands there
pub read-at : {X : Type 0} (xs : List X) (n m : ℕ) (x : X) → n ≡ m → m < length xs → x ≡ get_or xs n x
    → slice_get xs m ≡ Some x
read-at xs n m x same within is = slice_get_read xs (length xs) m x refl within (is ∙ ap (λ k. get_or xs k x) same)

unwrap-map : {X Y : Type 0} (f : X → List Y) (o : Option X) → unwrap_or (option_map f o) [] ≡ option_map_or f o []
unwrap-map f None = refl
unwrap-map f (Some x) = refl

leased-read : (s : SessionView) (place : Option ℕ)
    → unwrap_or (option_and_then (slice_get (map (leased_to s) s.rows)) place) []
    ≡ leased_by s (option_and_then (slice_get s.rows) place)
leased-read s None = refl
leased-read s (Some k) =
    ap (λ o. unwrap_or o []) (slice_get-map (leased_to s) s.rows k) ∙ unwrap-map (leased_to s) (slice_get s.rows k)

-- what stands at the place of its attachment's last row
pub handed-read : (j : JournalView) (given : List (List Addr)) (numbers : List ℕ) (places : List (Option ℕ))
    (s : SessionView) (t : Task) (k : ℕ) (place : Option ℕ) (h : Handed)
    → IsKept j given numbers places s → slice_get s.conf.tasks (number s) ≡ Some t
    → slice_get numbers (number s) ≡ Some k
    → slice_get places k ≡ Some place → h.conf ≡ s.conf → h.number ≡ number s + 1 → h.task ≡ t
    → h.row ≡ option_and_then (slice_get s.rows) place
    → h.leased ≡ unwrap_or (option_and_then (slice_get given) place) []
    → h ≡ handed s t
handed-read j given numbers places s t k place h kept there at here conf numbered task row leased =
    let is : option_and_then (slice_get s.rows) place ≡ row_of s (att_by s t) =
    last_row-read s.rows (att_by s t) place (kept.last_rows (number s) t k place there at here) in
    let its : unwrap_or (option_and_then (slice_get given) place) [] ≡ leased_by s (row_of s (att_by s t)) =
    ap (λ g. unwrap_or (option_and_then (slice_get g) place) []) kept.leased
    ∙ leased-read s place
    ∙ ap (leased_by s) is in
    λ i. record { conf = conf i; number = numbered i; task = task i; row = (row ∙ is) i; leased = (leased ∙ its) i }

-- ---- over a task

abbrev pub row_by : TaskRun → Option Row
row_by run = option_map (λ (b : Begun). b.row) run.begun

-- a task was handed what the session has for it, and what it came to is kept
pub record IsAfter (suite : Suite) (j new : JournalView) (given after : List (List Addr)) (numbers : List ℕ)
    (places later : List (Option ℕ))
    (s s2 : SessionView) : Type 0 where
  pub kept : IsKept j given numbers places s
  pub task : Task
  pub there : slice_get s.conf.tasks (number s) ≡ Some task
  pub hand : Handed
  pub is_handed : hand ≡ handed s task
  pub run : TaskRun
  pub ran : RanTask suite hand j new run
  pub attachment : ℕ
  pub at : slice_get numbers (number s) ≡ Some attachment
  pub is : s2
      ≡ record {
        conf = s.conf;
        history = new.history;
        rows = s.rows ++ if_any (row_by run);
        answers = s.answers ++ run.answer ∷ [];
      }
  pub leased : after ≡ given ++ if_any (option_map (λ (b : Begun). b.given.items) run.begun)
  pub last_rows : later ≡ places_after s.rows attachment (row_by run) places

given-any : (begun : Option Begun) (es : List Made) → IfSome begun (λ b. b.given.items ≡ leases_in (replies es))
    → if_any (option_map (λ (b : Begun). b.given.items) begun)
    ≡ map (λ row. leases_in (replies es)) (if_any (option_map (λ (b : Begun). b.row) begun))
given-any None es is = refl
given-any (Some b) es is = ap (λ l. l ∷ []) is

length-places_after : (rows : List Row) (attachment : ℕ) (more : Option Row) (places : List (Option ℕ))
    → length (places_after rows attachment more places) ≡ length places
length-places_after rows attachment None places = refl
length-places_after rows attachment (Some row) places = length-set places attachment (Some (length rows))

module _ (suite : Suite) (j new : JournalView) (given after : List (List Addr)) (numbers : List ℕ)
    (places later : List (Option ℕ))
    (s s2 : SessionView) (e : IsAfter suite j new given after numbers places later s s2) where
  step : Step suite s s2 e.task e.ran.entries (row_by e.run) e.run.answer
  step = record {
    there = e.there;
    is =
        e.is
        ∙ ap (λ h.
        record {
          conf = s.conf;
          history = h;
          rows = s.rows ++ if_any (row_by e.run);
          answers = s.answers ++ e.run.answer ∷ [];
        })
        (e.ran.history ∙ ap (λ h. h ++ map (entry_of e.hand.number) e.ran.entries) e.kept.history
        ∙ ap (λ (h : Handed). s.history ++ map (entry_of h.number) e.ran.entries) e.is_handed);
    ran = subst (λ h. Ran suite h (finish s) e.ran.entries (row_by e.run) e.run.answer) e.is_handed
        (subst (λ host. Ran suite e.hand host e.ran.entries (row_by e.run) e.run.answer) e.kept.host e.ran.ran);
  }

  pub after-grows : Grows s s2
  after-grows = steps-grow suite s s2 e.task e.ran.entries (row_by e.run) e.run.answer step

  pub after-holds : TaskHolds suite s2
  after-holds =
      steps-hold_of_the_last suite s s2 e.task e.ran.entries (row_by e.run) e.run.answer
      (view-kept j given numbers places s e.kept) step

  leased-after : after ≡ map (leased_to s2) s2.rows
  leased-after =
      e.leased
      ∙ ap (λ g. g ++ if_any (option_map (λ (b : Begun). b.given.items) e.run.begun)) e.kept.leased
      ∙ ap (λ l. map (leased_to s) s.rows ++ l) (given-any e.run.begun e.ran.entries e.ran.given)
      ∙ sym (steps-leases suite s s2 e.task e.ran.entries (row_by e.run) e.run.answer
      (view-kept j given numbers places s e.kept) step)

  host-after : new.host ≡ finish s2
  host-after =
      e.ran.host
      ∙ ap (λ host. host_from host e.ran.entries) e.kept.host
      ∙ sym (finish-after s e.ran.entries (row_by e.run) e.run.answer)
      ∙ sym (ap finish step.is)

  numbered-after : AreNumbered s2.conf.network s2.conf.tasks numbers (length later)
  numbered-after =
      subst (λ (v : SessionView). AreNumbered v.conf.network v.conf.tasks numbers (length later)) (sym e.is)
      (subst (AreNumbered s.conf.network s.conf.tasks numbers)
      (sym (ap length e.last_rows ∙ length-places_after s.rows e.attachment (row_by e.run) places)) e.kept.numbered)

  pub after-kept : IsKept new after numbers later s2
  after-kept =
      let view =
      steps-keep suite s s2 e.task e.ran.entries (row_by e.run) e.run.answer
      (view-kept j given numbers places s e.kept) step in
      record {
        conf = view.conf;
        count = view.count;
        history = sym (ap (λ v. v.history) e.is);
        host = host-after;
        ready = subst (IsReady (pools_of s2.conf)) (sym host-after) view.ready;
        entries = view.entries;
        rows = view.rows;
        few = view.few;
        leased = leased-after;
        numbered = numbered-after;
        last_rows = subst (AreLastRows s2 numbers) (sym e.last_rows)
            (steps-places suite s s2 e.task e.ran.entries (row_by e.run) e.run.answer numbers places
            e.attachment step e.kept.numbered e.kept.last_rows e.at);
        objects = view.objects;
        unleased = view.unleased;
      }
