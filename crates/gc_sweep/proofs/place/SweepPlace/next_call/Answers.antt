use Rattle.gc_sweep.proofs.Names.{arith, ◌∙◌, sym, ap, refl, Some, ◌<◌, length, nat_tests}
use Rattle.std.proofs.lemmas.Option.{slice_get_read}
use Rattle.gc_sweep.specs.View.{sweep_of, sweeps_after, step_of}
use Rattle.gc_sweep.proofs.Places.{next_here}
use Rattle.gc_sweep.proofs.place.SweepPlace.next_call.Goals as goal

pub returns-in_ok-of : goal.returns-in_ok-of
returns-in_ok-of c =
    let p = c.args.self.now in
    let ks = c.args.kinds.now in
    let sweep = sweep_of ks p.stage in
    let here : p.at < length p.owners.items = grind (arith, nat_tests, c.has_owner.ensures, c.if-has_owner.true) in
    ap Some (c.in_ok-of.ensures ∙ c.in_ok-call.ensures)
    ∙ sym (next_here c.args.network.now sweep p.step p.at p.owners.items (sweeps_after ks p.stage) c.index.result.now
    (step_of c.owner_step_at-step.result)
    (slice_get_read p.owners.items (length p.owners.items) p.at c.index.result.now refl here c.index.ensures)
    c.owner_step_at-step.ensures here c.requires)
