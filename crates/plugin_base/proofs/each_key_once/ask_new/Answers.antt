use Rattle.std.proofs.Common.{rules, ◌≡◌, ◌++◌, ◌∷◌, [], ap, map, subst, sym, take, ◌∙◌, append_assoc}
use Rattle.std.proofs.lemmas.List.{map-append}
use Rattle.std.specs.Prelude.{if◌then◌else◌}
use Rattle.cni_addr.specs.Lists.{each_key_once}
use Rattle.plugin_base.specs.EachKey.{AreKeysOf, Begins}
use Rattle.plugin_base.proofs.{Beginnings.begins_push, KeysOnce.next-is}
use Rattle.plugin_base.proofs.each_key_once.ask_new.Goals.{then-branch+in_ok-copy+in_ok-ask+in_ok-push, else-branch}
use Rattle.plugin_base.proofs.each_key_once.ask_new.Goals as goal

pub loop-object-preserved : goal.loop-object-preserved
loop-object-preserved g c =
    let x = c.object-item.result in
    let before = take c.loop-object.object-index c.args.objects.now in
    let more = next-is c.args.objects.now c.loop-object.object-index x c.loop-object-test.true c.object-item.is in
    let once = each_key_once g.T.Asked.same_key in
    let call = g.T.Asked.call_for in
    let old = c.args.calls.now.items in
    let keys =
    subst
    (AreKeysOf g.T.Key.Ord.cmp (λ y. (g.T.Asked.mark_of y, g.T.Asked.key_of y)) g.T.Asked.same_key
    c.note_key.new.keys)
    (sym more) (c.in_ok-note_key.ensures.keys before c.loop-object.invariant.0) in
    let next = ap once more ∙ c.in_ok-note_key.ensures.new before c.loop-object.invariant.0 in
    elim c.if-branch.branch [
      | then-branch+in_ok-copy+in_ok-ask+in_ok-push w ↦
          let asked : c.if-branch.calls.items ≡ c.loop-object.calls.items ++ call x ∷ [] = search rules in (
            keys,
            asked ∙ ap (λ l. l ++ call x ∷ []) c.loop-object.invariant.1
                ∙ append_assoc old (map call (once before)) (call x ∷ [])
                ∙ ap (λ l. old ++ l) (sym (map-append call (once before) (x ∷ [])))
                ∙ ap (λ l. old ++ map call l)
                (sym (next ∙ ap (λ b. if b then once before ++ x ∷ [] else once before) w.if-branch.true)),
            subst (Begins old) (sym asked)
                (begins_push old c.loop-object.calls.items (call x) c.loop-object.invariant.2),
          )
      | else-branch w ↦
          let same : c.if-branch.calls.items ≡ c.loop-object.calls.items = search rules in (
            keys,
            same ∙ c.loop-object.invariant.1
                ∙ ap (λ l. old ++ map call l)
                (sym (next ∙ ap (λ b. if b then once before ++ x ∷ [] else once before) w.if-branch.false)),
            subst (Begins old) (sym same) c.loop-object.invariant.2,
          )
    ]
