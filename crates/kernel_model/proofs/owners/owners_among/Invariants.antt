use Rattle.std.proofs.Common.{◌≡◌, map, take}
use Rattle.std.specs.List.{filter_map}
use Rattle.kernel_types.specs.{Apply.Calls.owner_in, Equal.att_eq}
use Rattle.cni_addr.specs.Lists.{each_key_once}
use Rattle.kernel_model.proofs.owners.owners_among.Given as goal

-- the owners of the objects so far
abbrev pub invariant-loop-object : goal.invariant-loop-object
invariant-loop-object g l =
    l.owners.items ≡ each_key_once att_eq
    (filter_map (owner_in l.network) (map (λ x. g.T.Tagged.tag_of x) (take l.object-index l.objects)))
