use Rattle.std.proofs.Common.{◌-◌, ◌<◌, arith}
use Rattle.std.specs.Vec.{vec_capacity}
use Rattle.ip_pool.proofs.RunPlaces.{length-le-size, each-is_run}
use Rattle.ip_pool.proofs.addr_runs.AddrRuns.reserve_one.Goals as goal

pub overflow_sub-wanted : goal.overflow_sub-wanted
overflow_sub-wanted c =
    let places = length-le-size c.self.inside.runs.items (each-is_run c.self.inside.runs.items c.self.invariant.runs) in
    omega (arith, c.self.invariant.counted)

pub returns-in_err-reserve-clause-had_room : goal.returns-in_err-reserve-clause-had_room
returns-in_err-reserve-clause-had_room c = λ had.
    let room : 0 < vec_capacity c.self.inside.runs - c.self.inside.count = rw (← c.self.view_is) at had in
    let places = length-le-size c.self.inside.runs.items (each-is_run c.self.inside.runs.items c.self.invariant.runs) in
    let full = c.in_err-reserve.ensures.full in
    absurd (omega (arith, c.self.invariant.counted, full, c.len.ensures))
