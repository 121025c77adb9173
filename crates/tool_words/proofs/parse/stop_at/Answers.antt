use Rattle.std.proofs.Common.{arith}
use Rattle.std.specs.Str.Parse.{ExplainsUnsignedError}
use Rattle.tool_words.specs.Command.{greatest_entry, stop_at_option}
use Rattle.tool_words.proofs.Numbers.{number_read}
use Rattle.tool_words.proofs.parse.stop_at.Goals as goal

pub returns : goal.returns
returns c =
    let read =
    number_read 32 greatest_entry (ExplainsUnsignedError 10) (omega arith) c.args.matches.now stop_at_option
    c.get_one.result c.get_one.ensures.none c.get_one.ensures.value c.requires in
    record { value = read.0; range = read.1 }
