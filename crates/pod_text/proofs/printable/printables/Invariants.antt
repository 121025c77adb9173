use Rattle.std.proofs.Common.{◌≡◌, ◌++◌, false, map}
use Rattle.std.specs.{Prelude.All, Vec.Iter.into_iter_items}
use Rattle.serde_json.specs.{View.view, Written.has_float}
use Rattle.pod_text.proofs.printable.printables.Given as goal

-- what is made so far, with what is left, is all
abbrev pub invariant-loop-value : goal.invariant-loop-value
invariant-loop-value l = record {
  all : l.made.items ++ map view (into_iter_items l.value-iterator) ≡ map view l.fn.values.items;
  whole : All (λ v. has_float (view v) ≡ false) (into_iter_items l.value-iterator);
}
