use Rattle.std.proofs.Common.{◌≡◌, take, not}
use Rattle.std.specs.{List.list_any, Prelude.{filter, ◌&&◌}}
use Rattle.kernel_model.proofs.list_kernel.leaving.drop_objects_on_leaving.Given as goal

-- what lies on the leaving links so far is dropped
abbrev pub invariant-loop-link : goal.invariant-loop-link
invariant-loop-link g l =
    l.objects.items
    ≡ filter
    (λ x. not (list_any (λ m. g.L.Leaving.leaving l.leaving m && g.T.OnLink.on_link x m) (take l.link-index l.links)))
    l.initial.objects.items
