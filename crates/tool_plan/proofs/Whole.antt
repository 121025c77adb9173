-- A line on a file has no number but those of its error.
use Rattle.std.proofs.Common.{◌≡◌, ℕ, List, false}
use Rattle.serde_json.specs.{Data.Data, Written.has_float}
use Rattle.cni_result.proofs.WholeNumbers.{puts_are_whole}
use Rattle.tool_plan.specs.Lines.{file_data}

pub file_is_whole : (error : Data) (file : List ℕ) → has_float error ≡ false → has_float (file_data error file) ≡ false
unfolding file_data
file_is_whole error file whole = search puts_are_whole depth 6
