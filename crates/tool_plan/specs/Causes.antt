-- What a step of reading gives, and why it gives nothing.
use Rattle.std.specs.Prelude.{◌≡◌, ◌⊎◌, ℕ, List, [], ◌∷◌, ◌++◌, Option, Some, option_to_list, Result, Ok, Err, IsOk, ⊤}
use Rattle.cni_io.specs.{Failures.Rose, Files.StoredFiles}
use Rattle.pod_file.specs.{PodFile.pods_of, declared.pods.Pods.Pods}
use Rattle.tool_words.specs.declared.source.{Named.Named, Source.{Source, TheVariants.{Files, Generated, Session}}}
use Rattle.tool_plan.specs.{Lines.unread_line, Verdict.{Judged, stored_lists, stored_pods}, declared.plan.NoPlan.NoPlan}
use Rattle.tool_plan.specs.declared.plan.NoPlan.TheVariants.{Usage, Line, Unread, NoMemory}

-- this holds of the files, where they are told
abbrev pub WhereTold : Option StoredFiles → (StoredFiles → Type 0) → Type 0
WhereTold files P = (stored : StoredFiles) → files ≡ Some stored → P stored

-- the pod file is taken, where the files are told
abbrev pub AreTakenPods : Option StoredFiles → Named → Type 0
AreTakenPods files named = WhereTold files (λ stored. IsOk (stored_pods stored named.pods))

-- reading gets to this one of the lists: each before it is taken, where the files are told
pub record ReachesList (files : Option StoredFiles) (names : List (List ℕ)) (file : List ℕ) : Type 0 where
  pub before : List (List ℕ)
  pub after : List (List ℕ)
  pub names_are : names ≡ before ++ file ∷ after
  pub taken : WhereTold files (λ stored. IsOk (stored_lists stored before))

-- reading gets to the packet file, which is this one: all lists are taken, where the files are told
abbrev pub ReachesPackets : Option StoredFiles → Named → List ℕ → Type 0
ReachesPackets files named file =
    (named.packets ≡ Some file) × WhereTold files (λ stored. IsOk (stored_lists stored named.lists))

-- reading gets to this file: the pod file; or, behind it, one of the lists, or the packet file; or the session file
abbrev pub ReachesFile : Option StoredFiles → Source → List ℕ → Type 0
ReachesFile files (Files named) file = (file ≡ named.pods)
    ⊎ (AreTakenPods files named × (ReachesList files named.lists file ⊎ ReachesPackets files named file))
ReachesFile files (Generated count stop_at) file = ⊥
ReachesFile files (Session named) file = file ≡ named

-- a read failed, and the line names a file that reading gets to
pub record IsUnread (Reached : List ℕ → Type 0) (before now : ℕ) (line : List ℕ) : Type 0 where
  pub file : List ℕ
  pub reached : Reached file
  pub rose : Rose before now
  pub says : line ≡ unread_line file

-- A step that reads files gives what is defined of the files, where they are told; or the line that is defined of them;
-- or a read failed, of a file that it gets to; or memory ran out.
abbrev pub GivesStored : {X Y : Type 0} → (X → Y) → Option StoredFiles → ℕ → ℕ → (List ℕ → Type 0)
    → (StoredFiles → Judged Y) → Result X NoPlan → Type 0
GivesStored view files before now Reached wanted (Ok x) = WhereTold files (λ stored. wanted stored ≡ Ok (view x))
GivesStored view files before now Reached wanted (Err Usage) = ⊥
GivesStored view files before now Reached wanted (Err (Line line)) =
    WhereTold files (λ stored. wanted stored ≡ Err line.items)
GivesStored view files before now Reached wanted (Err (Unread line)) = IsUnread Reached before now line.items
GivesStored view files before now Reached wanted (Err NoMemory) = ⊤

-- the same of a step that reads no file
abbrev pub GivesJudged : {X : Type 0} → Result X NoPlan → Judged X → Type 0
GivesJudged (Ok x) wanted = wanted ≡ Ok x
GivesJudged (Err Usage) wanted = ⊥
GivesJudged (Err (Line line)) wanted = wanted ≡ Err line.items
GivesJudged (Err (Unread line)) wanted = ⊥
GivesJudged (Err NoMemory) wanted = ⊤

-- the files that are named: the pod file, the lists and the packet file; or the session file; where pods are
-- generated, none
abbrev pub files_named : Source → List (List ℕ)
files_named (Files named) = named.pods ∷ named.lists ++ option_to_list named.packets
files_named (Generated count stop_at) = []
files_named (Session file) = file ∷ []

-- the pods were read from some bytes
abbrev pub IsReadPods : Pods → Type 0
IsReadPods pods = (bytes : List ℕ) × (pods_of bytes ≡ Ok pods)
