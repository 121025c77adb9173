use Rattle.std.proofs.Common.{◌∙◌, ap, codes, false}
use Rattle.std.specs.{Option.option_map_or, Str.bytes_eq}
use Rattle.clap.specs.Matches.{found_of, one_text}
use Rattle.clap.proofs.WalkLemmas.{one_text-rows}
use Rattle.tool_words.proofs.Numbers.{flag_read}
use Rattle.tool_words.proofs.parse.flag.Goals as goal

pub returns : goal.returns
returns c =
    let found = found_of c.args.matches.now in
    let name = c.args.name.now in
    flag_read (one_text found name) c.get_flag.result c.get_flag.ensures.none c.get_flag.ensures.value
    c.get_flag.ensures.other c.requires
    ∙ ap (λ o. option_map_or (λ text. bytes_eq text (codes "true")) o false) (one_text-rows found name)
