-- The refusals of a read.
use Rattle.std.specs.Prelude.{Bool, true, false}
use Rattle.cni_json.specs.declared.reading.ReadEnd.{ReadEnd, TheVariants.{Decode, Number, NoMemory}}

-- the refusal says that memory ran out
abbrev pub is_out_of_memory : ReadEnd → Bool
is_out_of_memory Decode = false
is_out_of_memory Number = false
is_out_of_memory NoMemory = true
