use Rattle.gc_sweep.proofs.Names.{◌∙◌}
use Rattle.gc_sweep.specs.View.{sweep_of, sweeps_after, jobs_left}
use Rattle.gc_sweep.proofs.Places.{no_jobs, skipped}
use Rattle.gc_sweep.proofs.place.take_owners.Goals as goal

pub returns-in-Fault-clause-work : goal.returns-in-Fault-clause-work
returns-in-Fault-clause-work c = λ list index network.
    let ks = c.args.kinds.now in
    let p = c.args.place.now in
    c.next_sweep-in-Fault.ensures.work list index network
    ∙ skipped (record { network = network; valid = list; kinds = ks }) (jobs_left ks p) (sweeps_after ks p.stage)
    c.new.result c.args.reply.now (no_jobs (sweep_of ks p.stage) p.step p.at p.owners.items c.requires.past)
    c.new.ensures c.in-Fault.is
