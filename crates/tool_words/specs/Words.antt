-- What the words say.
use Rattle.std.specs.{Option.option_map_or, Prelude.{◌≡◌, ℕ, ◌≤◌, Bool, false, List, [], unwrap_or, option_map}}
use Rattle.std.specs.{Prelude.{if◌then◌else◌, codes, Option, Some, None, Result, Ok, Err, ⊤}, Str.bytes_eq}
use Rattle.std.specs.Str.Parse.{digits_value, without_leading_plus}
use Rattle.clap.specs.Walk.{Row, Text, first_of, one_of, all_of}
use Rattle.tool_words.specs.Command.{clap_takes, rows, most_threads, threads_option, stop_at_option, trace_flag}
use Rattle.tool_words.specs.Command.{dump_flag, requests_flag, probe_option, pods_word, lists_word}
use Rattle.tool_words.specs.{Source.{IsSourceWithin, source_of}, declared.source.{Named.Named, Source.Source}}
use Rattle.tool_words.specs.declared.words.{Words.Words, WordsEnd.{WordsEnd, TheVariants.{Usage, NoMemory}}}

-- the number that decimal digits spell, perhaps behind a `+`
abbrev pub number_of : Text → ℕ
number_of text = digits_value 10 (without_leading_plus text)

abbrev pub number_at : Text → List Row → Option ℕ
number_at name found = option_map number_of (one_of name found)

-- the flag is given
abbrev pub has_flag : Text → List Row → Bool
has_flag name found = option_map_or (λ text. bytes_eq text (codes "true")) (one_of name found) false

abbrev pub lists_at : List Row → List Text
lists_at found = unwrap_or (all_of lists_word found) []

-- what the rows say, with this source
abbrev pub words_in : List Row → Source → Words
words_in found source = record {
  threads = unwrap_or (number_at threads_option found) 1;
  trace = has_flag trace_flag found;
  dump = has_flag dump_flag found;
  source = source;
}

-- what the rows name beside this PODS
abbrev pub named_in : List Row → Text → Named
named_in found pods = record {
  pods = pods;
  lists = lists_at found;
  stop_at = number_at stop_at_option found;
  requests = has_flag requests_flag found;
  packets = first_of probe_option found;
}

-- what the rows say, with this PODS
abbrev pub words_if : List Row → Option Text → Option Words
words_if found None = None
words_if found (Some pods) = option_map (words_in found) (source_of (named_in found pods))

-- what the words say; none where the command doesn't take them, or they are not within the limits
unfoldable pub words_given : List Text → Option Words
words_given words = if clap_takes words then words_if (rows words) (first_of pods_word (rows words)) else None

-- what is defined is given; or nothing is defined, and the words are refused; or memory ran out
abbrev pub Reads : {X : Type 0} → Option X → Result X WordsEnd → Type 0
Reads wanted (Ok x) = wanted ≡ Some x
Reads wanted (Err Usage) = wanted ≡ None
Reads wanted (Err NoMemory) = ⊤

pub record IsWithinLimits (w : Words) : Type 0 where
  pub threads_least : 1 ≤ w.threads
  pub threads_most : w.threads ≤ most_threads
  pub source : IsSourceWithin w.source
