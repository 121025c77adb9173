use Rattle.pod_workers.proofs.Names.{◌∙◌, file_limit}
use Rattle.pod_workers.proofs.Books.Indexed.{index-fits, index-is-whole, index-nothing, index-round-more}
use Rattle.pod_workers.proofs.index.index_of.Goals as goal

pub loop-round-init : goal.loop-round-init
loop-round-init c = rw c.new-places.ensures.items (index-nothing c.args.rounds.now)

pub index_round-requires : goal.index_round-requires
index_round-requires c =
    index-fits c.args.rounds.now c.loop-round.round c.as_slice.result.now c.index-rounds-round.result
    c.loop-round.places.items file_limit c.loop-round.invariant c.loop-round-test.true
    (c.as_slice.ensures ∙ c.index-rounds-round.is) c.requires.few_commands

pub loop-round-preserved : goal.loop-round-preserved
loop-round-preserved c =
    index-round-more c.args.rounds.now c.loop-round.round c.as_slice.result.now c.index-rounds-round.result
    c.loop-round.places.items _ c.loop-round.invariant c.loop-round-test.true
    (c.as_slice.ensures ∙ c.index-rounds-round.is) c.in_ok-index_round.ensures

pub returns : goal.returns
returns c =
    index-is-whole c.args.rounds.now c.loop-round.round c.loop-round.places.items c.loop-round-test.false
    c.loop-round.invariant
