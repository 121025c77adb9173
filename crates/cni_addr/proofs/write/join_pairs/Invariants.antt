use Rattle.std.proofs.Common.{◌≡◌, take, map}
use Rattle.std.specs.{List.join_with_byte, String.string_bytes}
use Rattle.cni_addr.specs.MacText.{colon, byte_text}
use Rattle.cni_addr.proofs.write.join_pairs.Given as goal

-- the bytes so far are written
abbrev pub invariant-loop-place : goal.invariant-loop-place
invariant-loop-place l = string_bytes l.text ≡ join_with_byte colon (map byte_text (take l.place l.bytes))
