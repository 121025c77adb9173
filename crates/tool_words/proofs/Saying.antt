-- What the words say, by a parse of them.
use Rattle.std.proofs.Common.{◌≡◌, ◌∙◌, ap, refl, sym, ℕ, List, Option, Some, option_map, Err}
use Rattle.clap.specs.{Matches.found_of, Walk.{Text, first_of, rows_of}, declared.parser.matches.ArgMatches.ArgMatches}
use Rattle.tool_words.specs.{Command.pods_word, Parse.{IsParseOf, Parses}, Source.source_of, Words.{Reads, named_in}}
use Rattle.tool_words.specs.{Words.{words_given, words_if, words_in}, declared.source.{Named.Named, Source.Source}}
use Rattle.tool_words.specs.declared.words.WordsEnd.{WordsEnd, TheVariants.{Usage, NoMemory}}

pub refused : (words : List (List ℕ)) (end : WordsEnd) → Parses words (Err end) → Reads (words_given words) (Err end)
unfolding words_given
refused words Usage refusal = rw refusal refl
refused words NoMemory refusal = tt

pub says : (words : List (List ℕ)) (m : ArgMatches) (pods : Option Text) → IsParseOf words m
    → pods ≡ first_of pods_word (rows_of (found_of m))
    → words_given words ≡ words_if (rows_of (found_of m)) pods
unfolding words_given
says words m pods p is = rw (p.taken, ← p.rows_are, is) refl

-- the words say what the source says of what they name
pub by_source : (words : List (List ℕ)) (m : ArgMatches) (pods : Text) (named : Named) (source : Option Source)
    → IsParseOf words m → Some pods ≡ first_of pods_word (rows_of (found_of m))
    → named ≡ named_in (rows_of (found_of m)) pods → source ≡ source_of named
    → words_given words ≡ option_map (words_in (rows_of (found_of m))) source
by_source words m pods named source p is names gives =
    says words m (Some pods) p is
    ∙ ap (λ (n : Named). option_map (words_in (rows_of (found_of m))) (source_of n)) (sym names)
    ∙ ap (option_map (words_in (rows_of (found_of m)))) (sym gives)
