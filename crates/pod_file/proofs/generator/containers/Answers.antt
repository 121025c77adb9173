use Rattle.std.proofs.Common.{◌≡◌, ap, map, ◌∙◌, arith}
use Rattle.std.specs.List.{range_with_len}
use Rattle.pod_file.proofs.GeneratorFacts.{containers-more}
use Rattle.pod_file.specs.Generator.{container_of, containers}
use Rattle.pod_file.proofs.generator.containers.Goals as goal

pub loop-before-preserved : goal.loop-before-preserved
loop-before-preserved c =
    let more = containers-more c.loop-before.before in
    cc (c.in_ok-push.ensures.items, c.loop-before.invariant, c.in_ok-container_of.ensures)

pub returns : goal.returns
unfolding containers
returns c =
    let all : c.loop-before.before ≡ c.args.count = omega arith in
    c.of_vec.ensures ∙ c.loop-before.invariant ∙ ap (λ n. map container_of (range_with_len 1 n)) all
