use Rattle.std.proofs.Common.{◌≡◌, take}
use Rattle.cni_addr.specs.Lists.{each_key_once}
use Rattle.plugin_base.specs.EachKey.{AreKeysOf}
use Rattle.plugin_base.proofs.each_key_once.has_each_key_once.Given as goal

-- the keys are those of the objects so far, each of which has one of its own
abbrev pub invariant-loop-object : goal.invariant-loop-object
invariant-loop-object g l =
    AreKeysOf g.T.Key.Ord.cmp (λ x. (g.T.Asked.mark_of x, g.T.Asked.key_of x)) g.T.Asked.same_key l.keys
    (take l.object-index l.objects)
    × (each_key_once g.T.Asked.same_key (take l.object-index l.objects) ≡ take l.object-index l.objects)
