-- What is printed of a world: one JSON object a line, for the commands in file order or for their numbers, for the
-- requests to plugins, for the history, for the host, and for packets.
use Rattle.std.specs.{List.flat_map, Prelude.{ℕ, ◌+◌, ◌==◌, Bool, true, false, not, ◌||◌, List, [], ◌∷◌, ◌++◌, length}}
use Rattle.std.specs.Prelude.{codes, Option, Some, None, if◌then◌else◌}
use Rattle.serde_json.specs.Data.{Data, boolean, object, Members, no_members, put}
use Rattle.cni_json.specs.{Json.line_of, Members.{text_data, number_data, list_data, ◌▷◌}}
use Rattle.cni_result.specs.{Results.{version_data, result_data, error_data}, Versions.known_versions}
use Rattle.cni_result.specs.declared.version.Version.{Version}
use Rattle.cni_errors.specs.{ErrorKinds.memory_error, declared.answer.Answer.{Answer, TheVariants.{Added, Yes}}}
use Rattle.cni_errors.specs.declared.answer.Answer.TheVariants.{Skipped, Versions, Refused, OutOfMemory, Stopped}
use Rattle.cni_errors.specs.declared.answer.Skip.{Skip}
use Rattle.cni_errors.specs.declared.answer.Skip.TheVariants as skips
use Rattle.plugin_requests.specs.Raw.{RawView}
use Rattle.kernel_text.specs.{Dump.dump_of, Replies.trace_data}
use Rattle.net_conf.specs.List.{disable_check_key, disable_gc_key}
use Rattle.pod_file.specs.{Commands.verb_text, declared.command.{Command.Command, Verb.Verb}}
use Rattle.pod_text.specs.{Fates.fates_from, Requests.all_requests, Summary.summary_line, declared.asked.Asked.Asked}
use Rattle.pod_text.specs.declared.asked.CommandPart.{CommandPart, TheVariants.{Lines, Summary}}
use Rattle.pod_workers.specs.{Plans.commands_of, World.{World, answer_for, host_of}, declared.plan.Entry.Entry}

-- ---- one answer

-- the key of the network list that disables a verb
abbrev pub skip_text : Skip → List ℕ
skip_text skips.Check = disable_check_key
skip_text skips.Gc = disable_gc_key

-- the answer to VERSION (CNI specification, section 5, "Result Types")
unfoldable pub versions_data : Version → Data
versions_data version = object (no_members
    ▷ put (codes "cniVersion") (version_data version)
    ▷ put (codes "supportedVersions") (list_data version_data known_versions))

-- what the command was answered
abbrev pub put_answer : Answer → Members → Members
put_answer (Added added) ms = put (codes "result") (result_data added) ms
put_answer Yes ms = put (codes "ok") (boolean true) ms
put_answer (Skipped skip) ms = put (codes "skipped") (text_data (skip_text skip)) ms
put_answer (Versions version) ms = put (codes "versions") (versions_data version) ms
put_answer (Refused error) ms = put (codes "error") (error_data error) ms
put_answer OutOfMemory ms = put (codes "error") (error_data memory_error) ms
put_answer (Stopped calls) ms = put (codes "stopped") (number_data calls) ms

-- the command of this number and verb with its answer
unfoldable pub answer_data : ℕ → Verb → Answer → Data
answer_data number verb answer = object (no_members
    ▷ put_answer answer
    ▷ put (codes "n") (number_data number)
    ▷ put (codes "verb") (text_data (verb_text verb)))

-- ---- the parts of the text

-- a command without an answer has no line
abbrev pub answer_line : ℕ → Verb → Option Answer → List ℕ
answer_line number verb None = []
answer_line number verb (Some answer) = line_of (answer_data number verb answer)

-- the line of a command by the answer that it has in the world
abbrev pub command_line : World → Command → List ℕ
command_line w command = answer_line command.number command.verb (answer_for w command.number)

-- the lines of all commands, in file order
abbrev pub command_lines : World → List ℕ
command_lines w = flat_map (λ placed. command_line w placed.command) (commands_of w.plan)

-- the line of the entry of this number
abbrev pub entry_line : ℕ → Entry → List ℕ
entry_line number e = line_of (trace_data number e.command e.call e.reply)

-- the lines of these entries, the first of which has this number
abbrev pub trace_from : ℕ → List Entry → List ℕ
trace_from number [] = []
trace_from number (e ∷ es) = entry_line number e ++ trace_from (number + 1) es

-- the lines of the history, numbered from 1
abbrev pub trace_lines : World → List ℕ
trace_lines w = trace_from 1 w.history

-- what is printed only where it was asked for
abbrev pub where_asked : Bool → List ℕ → List ℕ
where_asked asked lines = if asked then lines else []

-- the lines of the requests, by the lists that were handed over where these lines were asked for
abbrev pub requests_asked : Option (List RawView) → World → List ℕ
requests_asked None w = []
requests_asked (Some raws) w = all_requests raws w

-- ---- the text

-- what is printed of the commands
abbrev pub command_part : CommandPart → World → List ℕ
command_part Lines w = command_lines w
command_part Summary w = summary_line w

abbrev pub is_summary : CommandPart → Bool
is_summary Lines = false
is_summary Summary = true

-- some part tells of the host: its lines, the number of its leases, or what becomes of packets
abbrev pub shows_host : Asked → Bool
shows_host asked = asked.dump || is_summary asked.commands || not (length asked.packets == 0)

-- the part on the commands, then the lines of the requests, of the history and of the host where they are asked for,
-- then those of the packets
unfoldable pub text_of : World → Asked → List ℕ
text_of w asked =
    command_part asked.commands w
    ++ requests_asked asked.requests w
    ++ where_asked asked.trace (trace_lines w)
    ++ where_asked asked.dump (dump_of (host_of w))
    ++ fates_from 0 (host_of w).rules asked.packets
