-- Where the pods come from, or the tasks.
use Rattle.std.specs.{List.starts_with, Prelude.{ℕ, ◌≤◌, ◌&&◌, Bool, nat_eq, nat_le, not, codes, decimal, drop, length}}
use Rattle.std.specs.Prelude.{option_map, is_none, slice_index, if◌then◌else◌, Option, Some, None, IfSome, ⊤}
use Rattle.std.specs.Str.{byte, bytes_eq, Parse.digits_value}
use Rattle.clap.specs.Walk.{Text, is_empty}
use Rattle.tool_words.specs.{Command.{greatest_entry, most_lists, most_pods}, declared.source.Named.Named}
use Rattle.tool_words.specs.declared.source.Source.{Source, TheVariants.{Files, Generated, Session}}

-- PODS asks for generated pods
abbrev pub asks_generator : Text → Bool
asks_generator pods = starts_with nat_eq pods (codes "gen:")

-- PODS names a session file
abbrev pub asks_session : Text → Bool
asks_session pods = starts_with nat_eq pods (codes "reg:")

-- so many pods may be generated
abbrev pub is_count : ℕ → Bool
is_count n = nat_le 1 n && nat_le n most_pods

-- the number of pods that the text is the decimal numeral of, without a sign or a leading zero
unfoldable pub count_of : Text → Option ℕ
count_of text = let n = digits_value 10 text in if is_count n && bytes_eq text (decimal n) then Some n else None

-- a digit stands first, and it isn't 0
abbrev pub begins_plainly : Text → Bool
begins_plainly text = nat_le (byte "1") (slice_index text 0) && nat_le (slice_index text 0) (byte "9")

-- nothing stands beside PODS that files alone take: no list, no packet file, and no asking for requests
abbrev pub is_alone : Named → Bool
is_alone named = is_empty named.lists && (not named.requests && is_none named.packets)

-- generated pods, beside which nothing stands that they don't take
abbrev pub generated_of : Text → Named → Option Source
generated_of number named =
    if is_alone named then option_map (λ count. Generated count named.stop_at) (count_of number) else None

-- the session file of this name, beside which nothing stands that it doesn't take, a stop neither
abbrev pub session_of : Text → Named → Option Source
session_of file named = if is_alone named && is_none named.stop_at then Some (Session file) else None

-- files, with so many lists at most
abbrev pub files_of : Named → Option Source
files_of named = if nat_le (length named.lists) most_lists then Some (Files named) else None

-- what the words name: so many generated pods, a session file, or a pod file with its lists
abbrev pub source_of : Named → Option Source
source_of named =
    if asks_generator named.pods then generated_of (drop (length (codes "gen:")) named.pods) named
    else if asks_session named.pods then session_of (drop (length (codes "reg:")) named.pods) named
    else files_of named

-- the number of an entry that may be stopped after
abbrev pub IsStopWithin : Option ℕ → Type 0
IsStopWithin stop_at = IfSome stop_at (λ n. (1 ≤ n) × (n ≤ greatest_entry))

-- not more lists than may be named; of generated pods, there is one, and not more than may be
abbrev pub IsSourceWithin : Source → Type 0
IsSourceWithin (Files named) = (length named.lists ≤ most_lists) × IsStopWithin named.stop_at
IsSourceWithin (Generated count stop_at) = (1 ≤ count) × (count ≤ most_pods) × IsStopWithin stop_at
IsSourceWithin (Session file) = ⊤
