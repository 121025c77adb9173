use Rattle.std.proofs.Common.{◌++◌, ◌∷◌, [], ap, subst, sym, take, ◌∙◌}
use Rattle.std.specs.Prelude.{if◌then◌else◌}
use Rattle.cni_addr.specs.Lists.{each_key_once}
use Rattle.plugin_base.specs.EachKey.{AreKeysOf}
use Rattle.plugin_base.proofs.KeysOnce.{next-is}
use Rattle.plugin_base.proofs.each_key_once.has_each_key_once.Goals as goal

pub loop-object-preserved : goal.loop-object-preserved
loop-object-preserved g c =
    let x = c.object-item.result in
    let before = take c.loop-object.object-index c.args.objects.now in
    let more = next-is c.args.objects.now c.loop-object.object-index x c.loop-object-test.true c.object-item.is in
    let same = g.T.Asked.same_key in
    let is_new = c.if-not-branch.false in (
      subst
          (AreKeysOf g.T.Key.Ord.cmp (λ y. (g.T.Asked.mark_of y, g.T.Asked.key_of y)) same c.note_key.new.keys)
          (sym more) (c.in_ok-note_key.ensures.keys before c.loop-object.invariant.0),
      ap (each_key_once same) more
          ∙ c.in_ok-note_key.ensures.new before c.loop-object.invariant.0
          ∙ ap (λ b. if b then each_key_once same before ++ x ∷ [] else each_key_once same before) is_new
          ∙ ap (λ l. l ++ x ∷ []) c.loop-object.invariant.1 ∙ sym more,
    )
