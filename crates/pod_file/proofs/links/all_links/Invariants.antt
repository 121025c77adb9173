use Rattle.std.proofs.Common.{◌≡◌, [], drop}
use Rattle.serde_json.specs.View.{items_view}
use Rattle.cni_json.specs.Each.{each_after}
use Rattle.pod_file.specs.Links.{next_link}
use Rattle.pod_file.proofs.links.all_links.Given as goal

-- those that were found, and all after them
abbrev pub invariant-loop-member : goal.invariant-loop-member
invariant-loop-member l =
    each_after (next_link l.names) l.links (items_view (drop l.member-index l.list))
    ≡ each_after (next_link l.names) [] (items_view l.list)
