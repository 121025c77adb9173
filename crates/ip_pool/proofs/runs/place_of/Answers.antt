use Rattle.std.proofs.{Common.{rules, arith}, lemmas.List.Sorted.IsPartitionPoint-from_clause}
use Rattle.ip_pool.specs.Runs.{ends_before}
use Rattle.ip_pool.proofs.RunPlaces.{runs-partitioned, all_within-take}
use Rattle.ip_pool.proofs.runs.place_of.Goals as goal

pub returns : goal.returns
returns c =
    let ended = ends_before c.args.gap c.args.addr.now in
    let parted = runs-partitioned c.args.gap c.args.addr.now c.args.runs.now c.requires in
    let point =
    IsPartitionPoint-from_clause ended c.args.runs.now c.partition_point.result c.partition_point.ensures.partitioned
    parted (λ a r f called. search rules) in
    record {
      within = c.partition_point.ensures.bound;
      before = all_within-take ended c.args.runs.now c.partition_point.result c.partition_point.ensures.bound point.0;
      at = λ below d. point.1 c.partition_point.result d (omega arith) below;
    }
