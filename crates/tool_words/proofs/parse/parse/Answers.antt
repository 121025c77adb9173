use Rattle.std.proofs.Common.{◌∙◌, map-id, refl}
use Rattle.tool_words.proofs.{App.{taken, rows-are, not_taken}, Given.passes_parser}
use Rattle.clap.specs.declared.builder.value_parser.ValueParser.TheVariants as parser
use Rattle.tool_words.specs.Command.{counts_to, dump_flag, flag_rule, greatest_entry, most_threads, requests_flag}
use Rattle.tool_words.specs.Command.{stop_rule, threads_rule, trace_flag}
use Rattle.tool_words.proofs.parse.parse.Goals as goal

pub returns-in-Ok-try_get_matches_from : goal.returns-in-Ok-try_get_matches_from
returns-in-Ok-try_get_matches_from c =
    let ensured = c.in-Ok-try_get_matches_from.ensures in
    let is = c.in-Ok.ensures in
    let passes = passes_parser _ _ ensured.parsed is in
    record {
      taken = taken _ _ c.args.words.now is (map-id _) ensured.kinds;
      rows_are = rows-are _ _ c.args.words.now _ is (map-id _) ensured.matches;
      threads = passes 0 threads_rule (counts_to most_threads) refl refl;
      stop_at = passes 1 stop_rule (counts_to greatest_entry) refl refl;
      trace = passes 2 (flag_rule trace_flag) parser.Bool refl refl;
      dump = passes 3 (flag_rule dump_flag) parser.Bool refl refl;
      requests = passes 4 (flag_rule requests_flag) parser.Bool refl refl;
    }

pub returns : goal.returns
returns c =
    not_taken _ _ c.args.words.now c.in-Err.error c.in-Ok.ensures (map-id _) c.in-Err.ensures.kinds
    (λ memory. c.in_default-kind.not-OutOfMemory (c.kind.ensures ∙ memory))
