-- A world that no round begins in. It serves proofs of private functions.
use Rattle.std.specs.Prelude.{[], None}
use Rattle.kernel_types.specs.Opening.{opening_with}
use Rattle.pod_workers.specs.World.{World, begun}

abbrev pub nowhere : World
nowhere = begun (record { lists = []; pods = record { opening = opening_with [] []; rounds = [] }; stop_at = None })
