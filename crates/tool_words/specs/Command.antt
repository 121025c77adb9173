-- The command line as clap takes it: options, flags, PODS and LISTs.
use Rattle.std.specs.Prelude.{◌≡◌, Bool, List, [], ◌∷◌, ℕ, codes, pos, true, false, Some}
use Rattle.clap.specs.{Faults.fault_of, Lexer.usize_max, Simple.{App, new_app, new_rule, on_top, matches_of}, Walk.Rule}
use Rattle.clap.specs.{Walk.{Row, Text, rule_of, is_empty}, declared.builder.action.ArgAction.TheVariants.SetTrue}
use Rattle.clap.specs.declared.builder.{arg.Arg.Arg, value_parser.ValueParser.ValueParser}
use Rattle.clap.specs.declared.builder.value_parser.ValueParser.TheVariants as parser

-- ---- what the command line calls its options, flags and words

abbrev pub threads_option : Text
threads_option = codes "threads"

abbrev pub stop_at_option : Text
stop_at_option = codes "stop-at"

abbrev pub trace_flag : Text
trace_flag = codes "trace"

abbrev pub dump_flag : Text
dump_flag = codes "dump"

abbrev pub requests_flag : Text
requests_flag = codes "requests"

abbrev pub probe_option : Text
probe_option = codes "probe"

abbrev pub pods_word : Text
pods_word = codes "PODS"

abbrev pub lists_word : Text
lists_word = codes "LIST"

-- ---- limits

-- how many threads may be asked for
abbrev pub most_threads : ℕ
most_threads = 16

-- the greatest number that an entry of the history may be named by
abbrev pub greatest_entry : ℕ
greatest_entry = 4294967295

-- how many lists may be named
abbrev pub most_lists : ℕ
most_lists = 64

-- how many pods may be generated
abbrev pub most_pods : ℕ
most_pods = 10000

-- ---- the command

-- whole numbers from 1 to the most
abbrev pub counts_to : ℕ → ValueParser
counts_to most = parser.Signed (pos 1) (pos most)

abbrev pub number_rule : Text → ℕ → Rule
number_rule name most = record (new_rule name) { long = Some name; parser = Some (counts_to most) }

abbrev pub threads_rule : Rule
threads_rule = number_rule threads_option most_threads

abbrev pub stop_rule : Rule
stop_rule = number_rule stop_at_option greatest_entry

abbrev pub flag_rule : Text → Rule
flag_rule name = record (new_rule name) { long = Some name; action = Some SetTrue; parser = Some parser.Bool }

-- any text
abbrev pub probe_rule : Rule
probe_rule = record (new_rule probe_option) { long = Some probe_option }

abbrev pub pods_rule : Rule
pods_rule = record (new_rule pods_word) { required = true }

abbrev pub list_rule : Rule
list_rule = record (new_rule lists_word) { range = Some (record { start_inclusive = 0; end_inclusive = usize_max }) }

abbrev pub bare_app : App
bare_app = on_top (λ s. record s { no_binary_name = true; disable_help_flag = true; disable_version_flag = true })
    (new_app (codes "cnitool"))

-- the arguments, in the order in which the command has them
abbrev pub the_rules : List Rule
the_rules = threads_rule ∷ stop_rule ∷ flag_rule trace_flag ∷ flag_rule dump_flag ∷ flag_rule requests_flag ∷ probe_rule
    ∷ pods_rule ∷ list_rule ∷ []

abbrev pub the_app : App
the_app = on_top (λ s. record s { rules = the_rules }) bare_app

-- the argument has these rules, and is its command's own
abbrev pub IsArg : Arg → Rule → Type 0
IsArg a rule = (rule_of a ≡ rule) × (a.global ≡ false)

-- the command takes the words: clap refuses none of them
unfoldable pub clap_takes : List Text → Bool
clap_takes words = is_empty (fault_of the_app words)

-- what the command makes of words that it takes
unfoldable pub rows : List Text → List Row
rows words = matches_of the_app words
