-- Why a packet file is refused.
use Rattle.std.specs.Prelude.{ℕ, Bool, true, false, Result, Err}
use Rattle.packet_probe.specs.declared.error.PacketsError.{PacketsError}
use Rattle.packet_probe.specs.declared.error.PacketsError.TheVariants as refusal

-- the refusal says that memory ran out
abbrev pub is_out_of_memory : PacketsError → Bool
is_out_of_memory refusal.NoMemory = true
is_out_of_memory refused = false

-- the packet at this place is wrong
abbrev pub wrong : {A : Type 0} → ℕ → Result A PacketsError
wrong at = Err (refusal.Packet at)
