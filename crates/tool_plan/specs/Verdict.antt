-- What words and files come to, before anything runs.
use Rattle.std.specs.{Bool.then_some, Prelude.{◌≡◌, ℕ, Bool, false, List, [], ◌∷◌, codes, map, Option, Some, None}}
use Rattle.std.specs.Prelude.{option_map, Result, Ok, Err}
use Rattle.cni_io.specs.{Files.{StoredFiles, file_of}, declared.files.FileFault.FileFault}
use Rattle.cni_io.specs.declared.files.FileFault.TheVariants as fault
use Rattle.cni_json.specs.Outcome.{◌>>=◌}
use Rattle.cni_result.specs.declared.error.CniError.{CniError}
use Rattle.plugin_requests.specs.Raw.{RawView, raw_of}
use Rattle.net_conf.specs.declared.list.NetList.{NetList}
use Rattle.packet_probe.specs.{PacketFile.packets_of, declared.packet.Packet.Packet}
use Rattle.pod_file.specs.{Generator.generated, PodFile.pods_of, declared.pods.Pods.Pods}
use Rattle.pod_text.specs.declared.asked.{Asked.Asked, CommandPart.{CommandPart, TheVariants.{Lines, Summary}}}
use Rattle.pod_text.specs.declared.asked.SessionAsked.{SessionAsked}
use Rattle.pod_workers.specs.{Join.joined, declared.plan.Plan.Plan}
use Rattle.tool_words.specs.{Words.words_given, declared.source.{Named.Named, Source.{Source, TheVariants.Files}}}
use Rattle.tool_words.specs.declared.{source.Source.TheVariants.{Generated, Session}, words.Words.Words}
use Rattle.session_file.specs.{SessionFile.session_of, declared.session.SessionConf.SessionConf}
use Rattle.tool_plan.specs.{Lines.{reason_line, unread_line, error_line}, Refusals.{list_error, packets_error}}
use Rattle.tool_plan.specs.{Refusals.{pods_error, plan_error, blamed_file}, declared.plan.PlanInput.PlanInput}

-- a value, or the line that tells why there is none
abbrev pub Judged : Type 0 → Type 0
Judged A = Result A (List ℕ)

-- the most bytes that a file may have
abbrev pub most_bytes : ℕ
most_bytes = 16777216

-- What is printed of a file that can't be read. (`file_of` never gives `NoMemory`, so no file has that line.)
abbrev pub fault_line : FileFault → List ℕ → List ℕ
fault_line fault.Missing file = reason_line (codes "missing") file
fault_line (fault.TooLarge most) file = reason_line (codes "too large") file
fault_line fault.Failed file = unread_line file
fault_line fault.NoMemory file = reason_line (codes "out of memory") file

-- a value, or what is printed of the error
abbrev pub judged : {A E : Type 0} → (E → List ℕ) → Result A E → Judged A
judged line (Ok x) = Ok x
judged line (Err e) = Err (line e)

abbrev pub stored_bytes : StoredFiles → List ℕ → Judged (List ℕ)
stored_bytes files file = judged (λ e. fault_line e file) (file_of files most_bytes file)

-- what the bytes of a file are read as, or the line of the error
abbrev pub judged_by : {A E : Type 0} → (List ℕ → Result A E) → (E → CniError) → List ℕ → List ℕ → Judged A
judged_by of_bytes error_of file bytes = judged (λ e. error_line (error_of e) file) (of_bytes bytes)

abbrev pub judged_pods : List ℕ → List ℕ → Judged Pods
judged_pods file bytes = judged_by pods_of pods_error file bytes

-- a list with its plugins' objects
abbrev pub judged_list : List ℕ → List ℕ → Judged RawView
judged_list file bytes = judged_by raw_of list_error file bytes

abbrev pub judged_session : List ℕ → List ℕ → Judged SessionConf
judged_session file bytes = judged_by session_of pods_error file bytes

abbrev pub judged_packets : List ℕ → List ℕ → Judged (List Packet)
judged_packets file bytes = judged_by packets_of packets_error file bytes

unfoldable pub stored_pods : StoredFiles → List ℕ → Judged Pods
stored_pods files file = stored_bytes files file >>= judged_pods file

unfoldable pub stored_list : StoredFiles → List ℕ → Judged RawView
stored_list files file = stored_bytes files file >>= judged_list file

unfoldable pub stored_session : StoredFiles → List ℕ → Judged SessionConf
stored_session files file = stored_bytes files file >>= judged_session file

-- each list in order, up to the first that is refused
abbrev pub stored_lists : StoredFiles → List (List ℕ) → Judged (List RawView)
stored_lists files [] = Ok []
stored_lists files (name ∷ names) = do
  raw ← stored_list files name
  raws ← stored_lists files names
  Ok (raw ∷ raws)

-- the packets of the file that is named; none where none is
unfoldable pub stored_packets : StoredFiles → Option (List ℕ) → Judged (List Packet)
stored_packets files None = Ok []
stored_packets files (Some file) = stored_bytes files file >>= judged_packets file

abbrev pub lists_of : List RawView → List NetList
lists_of raws = map (λ raw. raw.list) raws

abbrev pub plan_from : Named → Pods → List NetList → Plan
plan_from named pods lists = record { lists = lists; pods = pods; stop_at = named.stop_at }

-- the plan of pods and lists that were read from these files
unfoldable pub judged_plan : Named → Pods → List NetList → Judged Plan
judged_plan named pods lists = judged (λ e. error_line (plan_error e) (blamed_file named.pods named.lists e))
    (joined (plan_from named pods lists))

-- the pod file, then each list, then the packet file, then the plan; the lists' objects are kept where requests are
-- asked for
unfoldable pub input_of_files : StoredFiles → Named → Judged PlanInput
input_of_files files named = do
  pods ← stored_pods files named.pods
  raws ← stored_lists files named.lists
  packets ← stored_packets files named.packets
  plan ← judged_plan named pods (lists_of raws)
  Ok (record { plan = plan; requests = then_some named.requests raws; packets = packets })

-- the plan of so many generated pods
unfoldable pub generated_plan : Option ℕ → ℕ → Plan
generated_plan stop_at count = let made = generated count in record {
  lists = made.list ∷ [];
  pods = made.pods;
  stop_at = stop_at;
}

-- generated pods have no requests and no packets
abbrev pub generated_input : Option ℕ → ℕ → PlanInput
generated_input stop_at count = record { plan = generated_plan stop_at count; requests = None; packets = [] }

-- what a source comes to: a plan with what is printed of it, or a session
pub data Input : Type 0 where
  of_plan : PlanInput → Input
  of_session : SessionConf → Input

-- the input of files, of generated pods, on which no file has a say, or of a session file
abbrev pub input_of : StoredFiles → Source → Judged Input
input_of files (Files named) = do
  input ← input_of_files files named
  Ok (of_plan input)
input_of files (Generated count stop_at) = Ok (of_plan (generated_input stop_at count))
input_of files (Session file) = do
  conf ← stored_session files file
  Ok (of_session conf)

-- what is printed of the commands: generated ones are many, and have one line of numbers
abbrev pub command_part_of : Source → CommandPart
command_part_of (Generated count stop_at) = Summary
command_part_of source = Lines

-- what is to be printed of this input
abbrev pub asked_of : Words → PlanInput → Asked
asked_of words input = record {
  commands = command_part_of words.source;
  requests = input.requests;
  trace = words.trace;
  dump = words.dump;
  packets = input.packets;
}

-- what is to be printed of a session
abbrev pub session_asked_of : Words → SessionAsked
session_asked_of words = record { trace = words.trace; dump = words.dump }

-- ---- what the words say of this, whatever the files

-- requests are asked for
abbrev pub asks_for_requests : Source → Bool
asks_for_requests (Files named) = named.requests
asks_for_requests source = false

-- the packet file that is named
abbrev pub packets_named : Source → Option (List ℕ)
packets_named (Files named) = named.packets
packets_named source = None

-- where requests are asked for, these are the plan's lists with their plugins' objects, and else none
abbrev pub AreRequestsOf : Source → Plan → Option (List RawView) → Type 0
AreRequestsOf source plan raws = option_map lists_of raws ≡ then_some (asks_for_requests source) plan.lists

-- without a packet file there are no packets
abbrev pub ArePacketsOf : Source → List Packet → Type 0
ArePacketsOf source packets = packets_named source ≡ None → packets ≡ []

pub record IsInputBy (source : Source) (input : PlanInput) : Type 0 where
  pub requests : AreRequestsOf source input.plan input.requests
  pub packets : ArePacketsOf source input.packets

-- this is to be printed of the plan, as the words say, whatever the files
pub record IsAskedBy (words : Words) (plan : Plan) (asked : Asked) : Type 0 where
  pub commands : asked.commands ≡ command_part_of words.source
  pub requests : AreRequestsOf words.source plan asked.requests
  pub trace : asked.trace ≡ words.trace
  pub dump : asked.dump ≡ words.dump
  pub packets : ArePacketsOf words.source asked.packets

-- ---- what words and files come to

-- the words aren't taken; or a line tells what is refused; or a plan is carried out, or a session run, and this is
-- printed of it
pub data Verdict : Type 0 where
  usage : Verdict
  line : List ℕ → Verdict
  carry : Plan → Asked → Verdict
  session : SessionConf → SessionAsked → Verdict

abbrev pub verdict_on : Words → Judged Input → Verdict
verdict_on words (Ok (of_plan input)) = carry input.plan (asked_of words input)
verdict_on words (Ok (of_session conf)) = session conf (session_asked_of words)
verdict_on words (Err text) = line text

abbrev pub verdict_if : Option Words → StoredFiles → Verdict
verdict_if None files = usage
verdict_if (Some words) files = verdict_on words (input_of files words.source)

abbrev pub verdict_of : List (List ℕ) → StoredFiles → Verdict
verdict_of words files = verdict_if (words_given words) files
