use Rattle.std.proofs.Common.{◌≡◌, [], drop}
use Rattle.serde_json.specs.View.{items_view}
use Rattle.cni_json.specs.Each.{each_after}
use Rattle.pod_file.specs.Opening.{next_namespace}
use Rattle.pod_file.proofs.opening.all_namespaces.Given as goal

-- those that were found, and all after them
abbrev pub invariant-loop-member : goal.invariant-loop-member
invariant-loop-member l =
    each_after next_namespace l.names (items_view (drop l.member-index l.list))
    ≡ each_after next_namespace [] (items_view l.list)
