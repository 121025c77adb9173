use Rattle.std.proofs.Common.{◌≡◌, ◌∙◌, ◌++◌, ◌∷◌, [], List, ap, sym, map, append_assoc, rules, false}
use Rattle.std.proofs.lemmas.List.Elements.{All-rest}
use Rattle.std.specs.Vec.Iter.{into_iter_items}
use Rattle.serde_json.specs.{Data.Data, View.view, Written.has_float}
use Rattle.pod_text.proofs.printable.printables.Goals as goal

pub loop-value-preserved : goal.loop-value-preserved
loop-value-preserved c =
    let next : into_iter_items c.loop-value.value-iterator ≡ c.in-Some.value ∷ into_iter_items c.next.new.self =
    c.in-Some.ensures.steps.0 in
    let pushed : c.push.new.self.items ≡ c.loop-value.made.items ++ view c.in-Some.value ∷ [] = search rules in
    record {
      all =
          ap (λ (l : List Data). l ++ map view (into_iter_items c.next.new.self)) pushed
          ∙ append_assoc c.loop-value.made.items (view c.in-Some.value ∷ [])
          (map view (into_iter_items c.next.new.self))
          ∙ ap (λ l. c.loop-value.made.items ++ map view l) (sym next)
          ∙ c.loop-value.invariant.all;
      whole =
          All-rest (λ v. has_float (view v) ≡ false) c.in-Some.value (into_iter_items c.next.new.self)
          (into_iter_items c.loop-value.value-iterator) next c.loop-value.invariant.whole;
    }
