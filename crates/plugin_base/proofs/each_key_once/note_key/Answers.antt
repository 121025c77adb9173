use Rattle.std.proofs.Common.{true, cond, ap, ◌∙◌}
use Rattle.std.specs.{BTreeSet.contains, Ordering.is_eq, Prelude.not}
use Rattle.plugin_base.specs.EachKey.{marked_cmp}
use Rattle.plugin_base.proofs.KeysOnce.{keys_next, once_next}
use Rattle.plugin_base.proofs.each_key_once.note_key.Goals as goal

pub returns-clause-keys : goal.returns-clause-keys
returns-clause-keys g c xs are =
    let cmp = marked_cmp g.T.Key.Ord.cmp in
    let key = g.T.Asked.key_of c.args.object.now in
    keys_next g.T.Key.Ord.cmp g.met.T.Key.Ord.total g.T.Asked.key_of g.T.Asked.mark_of g.T.Asked.same_key
    g.met.T.Asked.same_by_key g.met.T.Asked.same_mark c.args.keys.now c.insert.new.self c.args.object.now
    (λ q. c.in_ok-insert.ensures.updates.0 q
    ∙ ap (λ mark. cond (is_eq (cmp (mark, key) q)) true (contains cmp c.args.keys.now q)) c.mark.ensures)
    xs are

pub returns-clause-new : goal.returns-clause-new
returns-clause-new g c xs are =
    let cmp = marked_cmp g.T.Key.Ord.cmp in
    let key = g.T.Asked.key_of c.args.object.now in
    once_next g.T.Key.Ord.cmp g.met.T.Key.Ord.total g.T.Asked.key_of g.T.Asked.mark_of g.T.Asked.same_key
    g.met.T.Asked.same_by_key g.met.T.Asked.same_mark c.args.keys.now c.args.object.now c.in_ok-insert.field-0
    (c.in_ok-insert.ensures.added ∙ ap (λ mark. not (contains cmp c.args.keys.now (mark, key))) c.mark.ensures)
    xs are
