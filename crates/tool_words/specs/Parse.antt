-- What is known of a parse that succeeds.
use Rattle.std.specs.Prelude.{◌≡◌, true, List, Some, Result, Ok, Err, false, ⊤}
use Rattle.clap.specs.{Matches.{found_of, one_text}, Values.{Accepts, read_as, reading_of}, Walk.{Text, rows_of}}
use Rattle.clap.specs.declared.{builder.value_parser.ValueParser.ValueParser, parser.matches.ArgMatches.ArgMatches}
use Rattle.clap.specs.declared.builder.value_parser.ValueParser.TheVariants as parser
use Rattle.tool_words.specs.Command.{clap_takes, rows, counts_to, most_threads, greatest_entry, threads_option}
use Rattle.tool_words.specs.Command.{stop_at_option, trace_flag, dump_flag, requests_flag}
use Rattle.tool_words.specs.declared.words.WordsEnd.{WordsEnd, TheVariants.{Usage, NoMemory}}

-- a value that the argument has passed its parser, and is read as the parser says
abbrev pub Passes : ArgMatches → Text → ValueParser → Type 0
Passes m name q = (text : Text) → one_text (found_of m) name ≡ Some text
    → (given : Text) × (text ≡ read_as (reading_of q) given) × Accepts false q given

pub record IsParseOf (words : List Text) (m : ArgMatches) : Type 0 where
  pub taken : clap_takes words ≡ true
  pub rows_are : rows_of (found_of m) ≡ rows words
  pub threads : Passes m threads_option (counts_to most_threads)
  pub stop_at : Passes m stop_at_option (counts_to greatest_entry)
  pub trace : Passes m trace_flag parser.Bool
  pub dump : Passes m dump_flag parser.Bool
  pub requests : Passes m requests_flag parser.Bool

-- a parse of the words; or the command does not take them; or memory ran out
abbrev pub Parses : List Text → Result ArgMatches WordsEnd → Type 0
Parses words (Ok m) = IsParseOf words m
Parses words (Err Usage) = clap_takes words ≡ false
Parses words (Err NoMemory) = ⊤
