-- Which words a plugin refuses to be called with (CNI specification 1.1.0, section 2, "Parameters").
use Rattle.std.specs.Prelude.{codes, Bool, true, false, not, if◌then◌else◌, Option, Some, None, Result, Ok, Err}
use Rattle.cni_errors.specs.{Answers.{variables_of, joined_by_comma}, CommandFields.{any_wrong, none_wrong}}
use Rattle.cni_errors.specs.{CommandFields.are_arguments, declared.answer.WrongFields.WrongFields}
use Rattle.kernel_types.specs.Terms.{is_host_ns}
use Rattle.net_conf.specs.Names.{is_container_id, is_interface_name}
use Rattle.pod_file.specs.{Commands.verb_named, declared.command.Verb.Verb}
use Rattle.pod_file.specs.declared.command.Verb.TheVariants as verbs
use Rattle.exec_protocol.specs.declared.{env.Env.Env, error.RequestError.RequestError}
use Rattle.exec_protocol.specs.declared.error.RequestError.TheVariants as refusal

-- the verbs that a plugin is asked
abbrev pub is_asked : Verb → Bool
is_asked verbs.Add = true
is_asked verbs.Check = true
is_asked verbs.Del = true
is_asked verbs.Gc = true
is_asked verbs.Status = true
is_asked verb = false

-- which words are outside their grammar
abbrev pub wrong_words : Env → WrongFields
wrong_words env = record {
  container = not (is_container_id env.container);
  netns = is_host_ns env.netns;
  ifname = not (is_interface_name env.ifname);
  args = not (are_arguments env.args);
}

-- of these, those that the verb asks for
abbrev pub wrong_for : Verb → Env → WrongFields
wrong_for verbs.Add env = wrong_words env
wrong_for verbs.Check env = record (wrong_words env) { args = false }
wrong_for verbs.Del env = record (wrong_words env) { netns = false; args = false }
wrong_for verb env = none_wrong

-- the refusal of a command, for which no other word is tested
abbrev pub wrong_command : Result Verb RequestError
wrong_command = Err (refusal.Env (codes "CNI_COMMAND"))

abbrev pub verb_if : Verb → WrongFields → Result Verb RequestError
verb_if verb wrong = if any_wrong wrong then Err (refusal.Env (joined_by_comma (variables_of wrong))) else Ok verb

abbrev pub verb_by : Option Verb → Env → Result Verb RequestError
verb_by None env = wrong_command
verb_by (Some verb) env = if is_asked verb then verb_if verb (wrong_for verb env) else wrong_command

-- the verb that the words ask for, or all of them that are wrong
unfoldable pub verb_at : Env → Result Verb RequestError
verb_at env = verb_by (verb_named env.command) env
