-- Each line that is printed but those of the history and the host has no number outside u64 and i64. Those of a request
-- have none where the request has none.
use Rattle.std.proofs.Common.{◌≡◌, ℕ, List, false, refl}
use Rattle.serde_json.specs.{Data.{Data, Members}, Written.{has_float, members_have_float}}
use Rattle.cni_json.proofs.Building.{members_have_float-put}
use Rattle.cni_result.proofs.{ResultLemmas.{result_is_whole, error_is_whole}, WholeNumbers.puts_are_whole}
use Rattle.cni_result.specs.declared.version.Version.{Version}
use Rattle.cni_errors.specs.{ErrorKinds.memory_error, declared.answer.Answer.{Answer, TheVariants.{Added, Yes}}}
use Rattle.cni_errors.specs.declared.answer.Answer.TheVariants.{Skipped, Versions, Refused, OutOfMemory, Stopped}
use Rattle.pod_file.specs.declared.command.{Command.Command, Verb.Verb}
use Rattle.packet_probe.specs.declared.packet.Fate.{Fate}
use Rattle.pod_text.specs.{Fates.fate_data, Lines.{versions_data, put_answer, answer_data}, Requests.env_data}
use Rattle.pod_text.specs.{Requests.{network_env_data, request_line}, Summary.summary_data}
use Rattle.pod_workers.specs.World.{World}

versions_are_whole : (version : Version) → has_float (versions_data version) ≡ false
unfolding versions_data
versions_are_whole version = refl

pub put_answer_is_whole : (answer : Answer) (ms : Members) → members_have_float ms ≡ false
    → members_have_float (put_answer answer ms) ≡ false
put_answer_is_whole (Added added) ms rest = members_have_float-put _ _ ms (result_is_whole added) rest
put_answer_is_whole Yes ms rest = members_have_float-put _ _ ms refl rest
put_answer_is_whole (Skipped skip) ms rest = members_have_float-put _ _ ms refl rest
put_answer_is_whole (Versions version) ms rest = members_have_float-put _ _ ms (versions_are_whole version) rest
put_answer_is_whole (Refused error) ms rest = members_have_float-put _ _ ms (error_is_whole error) rest
put_answer_is_whole OutOfMemory ms rest = members_have_float-put _ _ ms (error_is_whole memory_error) rest
put_answer_is_whole (Stopped calls) ms rest = members_have_float-put _ _ ms refl rest

pub answer_is_whole : (number : ℕ) (verb : Verb) (answer : Answer) → has_float (answer_data number verb answer) ≡ false
unfolding answer_data
answer_is_whole number verb answer = search (puts_are_whole, put_answer_is_whole) depth 6

pub summary_is_whole : (w : World) → has_float (summary_data w) ≡ false
unfolding summary_data
summary_is_whole w = search (puts_are_whole) depth 6

pub env_is_whole : (netns : List ℕ) (command : Command) → has_float (env_data netns command) ≡ false
unfolding env_data
env_is_whole netns command = refl

pub network_env_is_whole : (command : Command) → has_float (network_env_data command) ≡ false
unfolding network_env_data
network_env_is_whole command = refl

pub request_line_is_whole : (env : Data) (command : Command) (place : ℕ) (request : Data) → has_float env ≡ false
    → has_float request ≡ false → has_float (request_line env command place request) ≡ false
unfolding request_line
request_line_is_whole env command place request env_whole request_whole =
    search (members_have_float-put, env_whole, request_whole) depth 8

pub fate_is_whole : (place : ℕ) (fate : Fate) → has_float (fate_data place fate) ≡ false
unfolding fate_data
fate_is_whole place fate = refl
