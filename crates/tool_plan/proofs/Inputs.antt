-- What pod file, lists and packet file come to, one after another.
use Rattle.std.proofs.Common.{◌≡◌, ◌∙◌, ◌+◌, ◌<◌, ◌≤◌, ℕ, Bool, true, false, List, [], ◌∷◌, ◌++◌, length, take, inl}
use Rattle.std.proofs.Common.{inr, refl, sym, ap, subst, arith, Ok, Err, IsOk, Option, Some, option_map}
use Rattle.std.proofs.lemmas.List.{map-append, take_more}
use Rattle.std.specs.{Bool.then_some, List.slice_index_or}
use Rattle.cni_io.specs.Files.{StoredFiles}
use Rattle.cni_json.specs.Outcome.{◌>>=◌}
use Rattle.plugin_requests.specs.Raw.{RawView}
use Rattle.packet_probe.specs.declared.packet.Packet.{Packet}
use Rattle.pod_file.specs.declared.pods.Pods.{Pods}
use Rattle.pod_workers.specs.declared.plan.Plan.{Plan}
use Rattle.tool_words.specs.declared.source.{Named.Named, Source.TheVariants.Files}
use Rattle.tool_plan.specs.Causes.{GivesJudged, GivesStored, ReachesFile, ReachesList, WhereTold}
use Rattle.tool_plan.specs.Verdict.{AreRequestsOf, Judged, input_of_files, judged_plan, lists_of, stored_lists}
use Rattle.tool_plan.specs.{Verdict.{stored_packets, stored_pods}, declared.plan.NoPlan.{NoPlan, TheVariants.Usage}}
use Rattle.tool_plan.specs.declared.plan.{NoPlan.TheVariants.{Line, Unread, NoMemory}, PlanInput.PlanInput}
use Rattle.tool_plan.proofs.Steps.{stops}

-- ---- the steps, each with those behind it

abbrev input_from : Named → List RawView → List Packet → Plan → PlanInput
input_from named raws packets plan = record { plan = plan; requests = then_some named.requests raws; packets = packets }

abbrev behind_packets : Named → Pods → List RawView → List Packet → Judged PlanInput
behind_packets named pods raws packets =
    judged_plan named pods (lists_of raws) >>= (λ (plan : Plan). Ok (input_from named raws packets plan))

abbrev behind_lists : StoredFiles → Named → Pods → List RawView → Judged PlanInput
behind_lists files named pods raws = stored_packets files named.packets >>= behind_packets named pods raws

abbrev behind_pods : StoredFiles → Named → Pods → Judged PlanInput
behind_pods files named pods = stored_lists files named.lists >>= behind_lists files named pods

-- what the files come to, where the pod file is taken
by_pods : (files : StoredFiles) (named : Named) (pods : Judged Pods) → stored_pods files named.pods ≡ pods
    → input_of_files files named ≡ pods >>= behind_pods files named
unfolding input_of_files
by_pods files named pods is = ap (λ (t : Judged Pods). t >>= behind_pods files named) is

-- where the lists are taken too
by_lists : (files : StoredFiles) (named : Named) (pods : Pods) (raws : Judged (List RawView))
    → stored_pods files named.pods ≡ Ok pods → stored_lists files named.lists ≡ raws
    → input_of_files files named ≡ raws >>= behind_lists files named pods
by_lists files named pods raws is lists =
    by_pods files named (Ok pods) is ∙ ap (λ (t : Judged (List RawView)). t >>= behind_lists files named pods) lists

-- and the packet file
by_packets : (files : StoredFiles) (named : Named) (pods : Pods) (raws : List RawView) (packets : Judged (List Packet))
    → stored_pods files named.pods ≡ Ok pods → stored_lists files named.lists ≡ Ok raws
    → stored_packets files named.packets ≡ packets
    → input_of_files files named ≡ packets >>= behind_packets named pods raws
by_packets files named pods raws packets is lists probe =
    by_lists files named pods (Ok raws) is lists
    ∙ ap (λ (t : Judged (List Packet)). t >>= behind_packets named pods raws) probe

by_plan : (files : StoredFiles) (named : Named) (pods : Pods) (raws : List RawView) (packets : List Packet)
    (plan : Judged Plan)
    → stored_pods files named.pods ≡ Ok pods → stored_lists files named.lists ≡ Ok raws
    → stored_packets files named.packets ≡ Ok packets → judged_plan named pods (lists_of raws) ≡ plan
    → input_of_files files named ≡ plan >>= (λ (p : Plan). Ok (input_from named raws packets p))
by_plan files named pods raws packets plan is lists probe joins =
    by_packets files named pods raws (Ok packets) is lists probe
    ∙ ap (λ (t : Judged Plan). t >>= (λ (p : Plan). Ok (input_from named raws packets p))) joins

is_ok : {A : Type 0} (r : Judged A) (x : A) → r ≡ Ok x → IsOk r
is_ok r x is = subst (λ s. IsOk s) (sym is) refl

-- ---- what was taken, by the names of the files

pub taken_pods : (files : Option StoredFiles) (named : Named) (file : List ℕ) (pods : Pods) → file ≡ named.pods
    → WhereTold files (λ stored. stored_pods stored file ≡ Ok pods)
    → WhereTold files (λ stored. stored_pods stored named.pods ≡ Ok pods)
taken_pods files named file pods is read = λ stored told. ap (stored_pods stored) (sym is) ∙ read stored told

pub taken_lists : (files later : Option StoredFiles) (named : Named) (names : List (List ℕ)) (raws : List RawView)
    → names ≡ named.lists → later ≡ files
    → WhereTold later (λ stored. stored_lists stored names ≡ Ok raws)
    → WhereTold files (λ stored. stored_lists stored named.lists ≡ Ok raws)
taken_lists files later named names raws is same read = λ stored told.
    ap (stored_lists stored) (sym is) ∙ read stored (same ∙ told)

pub taken_packets : (files later : Option StoredFiles) (named : Named) (packets : List Packet) → later ≡ files
    → WhereTold later (λ stored. stored_packets stored named.packets ≡ Ok packets)
    → WhereTold files (λ stored. stored_packets stored named.packets ≡ Ok packets)
taken_packets files later named packets same read = λ stored told. read stored (same ∙ told)

-- ---- what a step gives that stops the input

abbrev GivesInputOf : Option StoredFiles → ℕ → ℕ → Named → NoPlan → Type 0
GivesInputOf files start now named none =
    GivesStored {X = PlanInput} (λ input. input) files start now (ReachesFile files (Files named))
    (λ stored. input_of_files stored named) (Err none)

pub pods-stop : (files : Option StoredFiles) (start now : ℕ) (named : Named) (file : List ℕ) (none : NoPlan)
    → file ≡ named.pods
    → GivesStored {X = Pods} (λ pods. pods) files start now (λ name. name ≡ file)
    (λ stored. stored_pods stored file) (Err none)
    → GivesInputOf files start now named none
pods-stop files start now named file none is gives =
    stops {X = Pods} {Y = PlanInput} (λ pods. pods) (λ input. input) files files start start now (λ name. name ≡ file)
    (ReachesFile files (Files named)) (λ stored. stored_pods stored file)
    (λ stored. input_of_files stored named) none refl (omega arith) (λ name at. inl (at ∙ is))
    (λ stored told line e. by_pods stored named (Err line) (ap (stored_pods stored) (sym is) ∙ e)) gives

pub lists-stop : (files later : Option StoredFiles) (start before now : ℕ) (named : Named) (names : List (List ℕ))
    (pods : Pods) (none : NoPlan)
    → names ≡ named.lists → later ≡ files → start ≤ before
    → WhereTold files (λ stored. stored_pods stored named.pods ≡ Ok pods)
    → GivesStored {X = List RawView} (λ raws. raws) later before now (ReachesList later names)
    (λ stored. stored_lists stored names) (Err none)
    → GivesInputOf files start now named none
lists-stop files later start before now named names pods none is same up taken gives =
    stops {X = List RawView} {Y = PlanInput} (λ raws. raws) (λ input. input) files later start before now
    (ReachesList later names) (ReachesFile files (Files named)) (λ stored. stored_lists stored names)
    (λ stored. input_of_files stored named) none same up
    (λ name at. inr (
      λ stored told. is_ok (stored_pods stored named.pods) pods (taken stored told),
      inl (subst (λ (fs : Option StoredFiles). ReachesList fs named.lists name) same
          (subst (λ (ns : List (List ℕ)). ReachesList later ns name) is at)),
    ))
    (λ stored told line e.
    by_lists stored named pods (Err line) (taken stored told) (ap (stored_lists stored) (sym is) ∙ e))
    gives

pub packets-stop : (files later : Option StoredFiles) (start before now : ℕ) (named : Named) (pods : Pods)
    (raws : List RawView) (none : NoPlan)
    → later ≡ files → start ≤ before
    → WhereTold files (λ stored. stored_pods stored named.pods ≡ Ok pods)
    → WhereTold files (λ stored. stored_lists stored named.lists ≡ Ok raws)
    → GivesStored {X = List Packet} (λ packets. packets) later before now (λ name. named.packets ≡ Some name)
    (λ stored. stored_packets stored named.packets) (Err none)
    → GivesInputOf files start now named none
packets-stop files later start before now named pods raws none same up taken lists gives =
    stops {X = List Packet} {Y = PlanInput} (λ packets. packets) (λ input. input) files later start before now
    (λ name. named.packets ≡ Some name) (ReachesFile files (Files named))
    (λ stored. stored_packets stored named.packets) (λ stored. input_of_files stored named) none same up
    (λ name at. inr (
      λ stored told. is_ok (stored_pods stored named.pods) pods (taken stored told),
      inr (at, λ stored told. is_ok (stored_lists stored named.lists) raws (lists stored told)),
    ))
    (λ stored told line e. by_packets stored named pods raws (Err line) (taken stored told) (lists stored told) e)
    gives

-- lists and pods that make no plan
pub plan-stops : (files : Option StoredFiles) (start now : ℕ) (named : Named) (pods : Pods) (raws : List RawView)
    (packets : List Packet) (none : NoPlan)
    → WhereTold files (λ stored. stored_pods stored named.pods ≡ Ok pods)
    → WhereTold files (λ stored. stored_lists stored named.lists ≡ Ok raws)
    → WhereTold files (λ stored. stored_packets stored named.packets ≡ Ok packets)
    → GivesJudged {X = Plan} (Err none) (judged_plan named pods (lists_of raws))
    → GivesInputOf files start now named none
plan-stops files start now named pods raws packets Usage taken lists probe gives = gives
plan-stops files start now named pods raws packets (Line line) taken lists probe gives = λ stored told.
    by_plan stored named pods raws packets (Err line.items) (taken stored told) (lists stored told)
    (probe stored told) gives
plan-stops files start now named pods raws packets (Unread line) taken lists probe gives = absurd gives
plan-stops files start now named pods raws packets NoMemory taken lists probe gives = tt

-- ---- the input

pub input-made : (files : Option StoredFiles) (named : Named) (pods : Pods) (raws : List RawView)
    (packets : List Packet) (plan : Plan) (requests : Option (List RawView))
    → requests ≡ then_some named.requests raws → WhereTold files (λ stored. stored_pods stored named.pods ≡ Ok pods)
    → WhereTold files (λ stored. stored_lists stored named.lists ≡ Ok raws)
    → WhereTold files (λ stored. stored_packets stored named.packets ≡ Ok packets)
    → judged_plan named pods (lists_of raws) ≡ Ok plan
    → WhereTold files
    (λ stored. input_of_files stored named ≡ Ok (record { plan = plan; requests = requests; packets = packets }))
input-made files named pods raws packets plan requests is taken lists probe joins = λ stored told.
    by_plan stored named pods raws packets (Ok plan) (taken stored told) (lists stored told) (probe stored told) joins
    ∙ ap (λ (o : Option (List RawView)). Ok (record { plan = plan; requests = o; packets = packets })) (sym is)

mapped : (asked : Bool) (raws : List RawView)
    → option_map lists_of (then_some asked raws) ≡ then_some asked (lists_of raws)
mapped true raws = refl
mapped false raws = refl

-- the lists with their plugins' objects that are kept are the plan's
pub requests-are : (named : Named) (raws : List RawView) (plan : Plan) (requests : Option (List RawView))
    → requests ≡ then_some named.requests raws → plan.lists ≡ lists_of raws
    → AreRequestsOf (Files named) plan requests
requests-are named raws plan requests is lists =
    ap (option_map lists_of) is ∙ mapped named.requests raws ∙ ap (then_some named.requests) (sym lists)

-- one list more
pub lists-one_more : (raws : List RawView) (i : ℕ) (raw : RawView) → i < length raws → raw ≡ slice_index_or raws i raw
    → lists_of (take (i + 1) raws) ≡ lists_of (take i raws) ++ raw.list ∷ []
lists-one_more raws i raw lt at =
    ap lists_of (take_more raws i raw lt ∙ ap (λ (r : RawView). take i raws ++ r ∷ []) (sym at))
    ∙ map-append (λ (r : RawView). r.list) (take i raws) (raw ∷ [])
