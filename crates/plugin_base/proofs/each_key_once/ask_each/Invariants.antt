use Rattle.std.proofs.Common.{◌≡◌, ◌++◌, map}
use Rattle.std.specs.Vec.Iter.{into_iter_items}
use Rattle.plugin_base.specs.EachKey.{Begins}
use Rattle.plugin_base.proofs.each_key_once.ask_each.Given as goal

-- what was asked and what is left are the whole, and what was there before comes first
abbrev pub invariant-loop-object : goal.invariant-loop-object
invariant-loop-object g l =
    (l.calls.items ++ map g.T.Asked.call_for (into_iter_items l.object-iterator)
    ≡ l.fn.calls.items ++ map g.T.Asked.call_for l.fn.objects.items)
    × Begins l.fn.calls.items l.calls.items
