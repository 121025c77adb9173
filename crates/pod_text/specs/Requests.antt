-- The requests that commands made of their plugins, one JSON object a line (CNI specification, section 2, "Execution
-- Protocol"): those of commands that were done, in file order, after the answers.
use Rattle.std.specs.{BTreeMap.{BTreeMap, get}, List.flat_map, Option.option_or, Ordering.nat_cmp, Prelude.{◌≡◌, ℕ}}
use Rattle.std.specs.Prelude.{◌+◌, ◌==◌, List, [], ◌∷◌, codes, map, reverse, find, Option, Some, None, if◌then◌else◌}
use Rattle.std.specs.Str.{bytes_eq}
use Rattle.serde_json.specs.Data.{Data, object, no_members, put}
use Rattle.cni_errors.specs.declared.answer.Answer.{Answer, TheVariants.{Added, Yes}}
use Rattle.cni_json.specs.{Json.line_of, Members.{text_data, number_data, ◌▷◌}}
use Rattle.cni_result.specs.declared.{cached.{Cached.Cached, PortMapping.PortMapping}, result.AddResult.AddResult}
use Rattle.verb_questions.specs.Questions.{addresses_of_result}
use Rattle.plugin_requests.specs.{Adding.add_requests, Raw.RawView, Request.request_data}
use Rattle.kernel_types.specs.declared.call.Reply.{Reply}
use Rattle.kernel_types.specs.declared.call.Reply.TheVariants as replies
use Rattle.pod_file.specs.{Commands.verb_text, declared.command.{Command.Command, ValidAtt.ValidAtt, Verb.Verb}}
use Rattle.pod_file.specs.declared.command.Verb.TheVariants as verbs
use Rattle.pod_workers.specs.{Plans.commands_of, World.{World, answer_for}, declared.plan.Entry.Entry}

-- ---- what a command was told

abbrev pub cached_told : Reply → Option Cached
cached_told (replies.Entry found) = found
cached_told reply = None

-- what the entry tells the command of this number
abbrev pub told_by : ℕ → Entry → Option Cached
told_by number e = if e.command == number then cached_told e.reply else None

-- the cached result that the history tells the command of this number; a DEL and a CHECK ask for it once
abbrev pub told_in : ℕ → List Entry → Option Cached
told_in number [] = None
told_in number (e ∷ es) = option_or (told_in number es) (told_by number e)

-- the map has under each number what the history tells that command
abbrev pub IsToldIn : List Entry → BTreeMap ℕ Cached → Type 0
IsToldIn h told = (number : ℕ) → get nat_cmp told number ≡ told_in number h

-- ---- the environment of a plugin (CNI specification, section 2, "Parameters")

-- the command's own words, in this namespace
unfoldable pub env_data : List ℕ → Command → Data
env_data netns c = object (no_members
    ▷ put (codes "CNI_ARGS") (text_data c.args)
    ▷ put (codes "CNI_COMMAND") (text_data (verb_text c.verb))
    ▷ put (codes "CNI_CONTAINERID") (text_data c.container)
    ▷ put (codes "CNI_IFNAME") (text_data c.ifname)
    ▷ put (codes "CNI_NETNS") (text_data netns))

-- the word of a command that is about a network and no container
unfoldable pub network_env_data : Command → Data
network_env_data c = object (no_members ▷ put (codes "CNI_COMMAND") (text_data (verb_text c.verb)))

-- ---- the lines of one command

-- of the request to the plugin at this place of the list, from 0
unfoldable pub request_line : Data → Command → ℕ → Data → Data
request_line env c place request = object (no_members
    ▷ put (codes "env") env
    ▷ put (codes "n") (number_data c.number)
    ▷ put (codes "plugin") (number_data place)
    ▷ put (codes "request") request)

-- of these requests, the first of which is to the plugin at this place
abbrev pub lines_from : Data → Command → ℕ → List Data → List Data
lines_from env c place [] = []
lines_from env c place (r ∷ rs) = request_line env c place r ∷ lines_from env c (place + 1) rs

-- of a request to each plugin, in the order of the list
abbrev pub request_lines : Data → Command → List Data → List Data
request_lines env c requests = lines_from env c 0 requests

-- a request to each plugin, all with this result before it, these mappings and these valid attachments
abbrev pub to_each : RawView → Option AddResult → List PortMapping → Option (List ValidAtt) → List Data
to_each raw prev mappings valid = map (λ d. request_data raw.list d prev mappings valid) raw.objects

-- with what the cached result says, where there is one
abbrev pub to_each_cached : RawView → Option Cached → List Data
to_each_cached raw None = to_each raw None [] None
to_each_cached raw (Some cached) = to_each raw (Some cached.result) cached.mappings None

-- the namespace of the cached result, where there is one
abbrev pub checked_ns : Command → Option Cached → List ℕ
checked_ns c None = c.netns
checked_ns c (Some cached) = cached.netns

abbrev pub check_lines : RawView → Command → Option Cached → List Data
check_lines raw c told = request_lines (env_data (checked_ns c told) c) c (to_each_cached raw told)

-- the last plugin is the first to be asked (CNI specification, section 3, "Deleting an attachment")
abbrev pub del_lines : RawView → Command → Option Cached → List Data
del_lines raw c told = reverse (request_lines (env_data c.netns c) c (to_each_cached raw told))

-- of a GC or a STATUS
abbrev pub network_lines : RawView → Command → Option (List ValidAtt) → List Data
network_lines raw c valid = request_lines (network_env_data c) c (to_each raw None [] valid)

-- an ADD with this result made the requests of an ADD that is leased its addresses
abbrev pub add_lines : RawView → Command → AddResult → List Data
add_lines raw c r = request_lines (env_data c.netns c) c (add_requests raw c (addresses_of_result r))

-- a command that did what it was asked, and made no result
abbrev pub lines_of_yes : Verb → RawView → Command → Option Cached → List Data
lines_of_yes verbs.Check raw c told = check_lines raw c told
lines_of_yes verbs.Del raw c told = del_lines raw c told
lines_of_yes verbs.Gc raw c told = network_lines raw c (Some c.valid)
lines_of_yes verbs.Status raw c told = network_lines raw c None
lines_of_yes verb raw c told = []

-- a command that has this answer
abbrev pub lines_of_answer : Answer → RawView → Command → Option Cached → List Data
lines_of_answer (Added r) raw c told = add_lines raw c r
lines_of_answer Yes raw c told = lines_of_yes c.verb raw c told
lines_of_answer answer raw c told = []

-- ---- the lines of all commands

-- the list of this name
abbrev pub raw_named : List RawView → List ℕ → Option RawView
raw_named raws name = find (λ r. bytes_eq r.list.name name) raws

-- a command without an answer, or without a list, has none
abbrev pub lines_by : Option Answer → Option RawView → Command → Option Cached → List Data
lines_by (Some answer) (Some raw) c told = lines_of_answer answer raw c told
lines_by answer raw c told = []

-- the lines of a command, by the plan's lists as they were read
abbrev pub requests_of : List RawView → World → Command → List ℕ
requests_of raws w c =
    flat_map line_of (lines_by (answer_for w c.number) (raw_named raws c.network) c (told_in c.number w.history))

-- the lines of all commands, in file order
abbrev pub all_requests : List RawView → World → List ℕ
all_requests raws w = flat_map (λ placed. requests_of raws w placed.command) (commands_of w.plan)
