use Rattle.gc_sweep.proofs.Names.{◌≡◌, ◌∙◌, true, length, arith, rules, nat_tests, nat_lt}
use Rattle.gc_sweep.specs.View.{sweep_of, sweeps_after, jobs_left}
use Rattle.gc_sweep.proofs.Places.{ends_step, has_job_left, leaves_owner, owner_stays, step_ends}
use Rattle.gc_sweep.proofs.place.take_step.Goals as goal

pub returns : goal.returns
returns c =
    let ks = c.args.kinds.now in
    let p = c.args.place.now in
    let here : nat_lt p.at (length p.owners.items) ≡ true = grind (arith, nat_tests, c.requires.here) in
    let leaves : leaves_owner c.args.reply.now ≡ true = search rules in
    record {
      work = λ list network.
          owner_stays (record { network = network; valid = list; kinds = ks }) (jobs_left ks p)
          (sweeps_after ks p.stage) c.args.reply.now
          (has_job_left (sweep_of ks p.stage) p.step p.at p.owners.items c.requires.range ∙ here) leaves;
      range = c.requires.range;
    }

pub returns-in-Gone-false-clause-work : goal.returns-in-Gone-false-clause-work
returns-in-Gone-false-clause-work c = λ list network.
    let ks = c.args.kinds.now in
    let p = c.args.place.now in
    let ends : ends_step c.args.reply.now ≡ true = search rules in
    c.step_done.ensures.work list network
    ∙ step_ends (record { network = network; valid = list; kinds = ks }) (jobs_left ks p) (sweeps_after ks p.stage)
    c.args.reply.now ends
