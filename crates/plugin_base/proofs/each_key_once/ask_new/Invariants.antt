use Rattle.std.proofs.Common.{◌≡◌, ◌++◌, map, take}
use Rattle.cni_addr.specs.Lists.{each_key_once}
use Rattle.plugin_base.specs.EachKey.{AreKeysOf, Begins}
use Rattle.plugin_base.proofs.each_key_once.ask_new.Given as goal

-- the keys are those of the objects so far, and these are asked for, each key once
abbrev pub invariant-loop-object : goal.invariant-loop-object
invariant-loop-object g l =
    AreKeysOf g.T.Key.Ord.cmp (λ x. (g.T.Asked.mark_of x, g.T.Asked.key_of x)) g.T.Asked.same_key l.keys
    (take l.object-index l.objects)
    × (l.calls.items
    ≡ l.fn.calls.items
    ++ map g.T.Asked.call_for (each_key_once g.T.Asked.same_key (take l.object-index l.objects)))
    × Begins l.fn.calls.items l.calls.items
