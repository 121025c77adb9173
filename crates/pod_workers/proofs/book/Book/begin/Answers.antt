use Rattle.pod_workers.proofs.Names.{◌≡◌, length, arith}
use Rattle.pod_workers.specs.Plans.{commands_of}
use Rattle.pod_workers.proofs.{Books.KeptAtBegin.{begun-here, begun-is}, InOrder.FileOrder.file_order_begun}
use Rattle.pod_workers.proofs.Plans.WellFormedPlans.{few_commands}
use Rattle.pod_workers.proofs.book.Book.begin.Goals as goal

pub index_of-requires : goal.index_of-requires
unfolding commands_of
index_of-requires g c = record {
  few_rounds = rw c.as_slice.ensures c.requires.well_formed.pods.rounds.few_rounds;
  few_commands = rw c.as_slice.ensures (few_commands c.args.plan c.requires.well_formed.pods);
}

pub invariant_of-result : goal.invariant_of-result
invariant_of-result g c =
    let count : c.len.result ≡ length c.in_ok-places.places.items =
    omega (arith, c.len.ensures, c.in_ok-places.places.ok.0) in
    let more : c.len-2.result ≡ length c.in_ok-places.places.items =
    omega (arith, c.len-2.ensures, c.in_ok-places.places.ok.0) in
    begun-here c.args.plan _ c.len.result c.len-2.result c.in_ok-places.places.items _ _ _ c.requires.well_formed
    c.requires.opening (rw c.as_slice.ensures at c.in_ok-places.ensures) count more c.new.ensures.items
    c.in_ok-answers.ensures c.in_ok-slots.ensures

pub returns-clause-begun : goal.returns-clause-begun
returns-clause-begun g c =
    let count : c.len.result ≡ length c.in_ok-places.places.items =
    omega (arith, c.len.ensures, c.in_ok-places.places.ok.0) in
    begun-is c.args.plan c.len.result c.in_ok-places.places.items _ _ (rw c.as_slice.ensures at c.in_ok-places.ensures)
    count c.new.ensures.items c.in_ok-answers.ensures

pub returns-clause-order : goal.returns-clause-order
returns-clause-order g c = file_order_begun _ c.new.ensures.items
