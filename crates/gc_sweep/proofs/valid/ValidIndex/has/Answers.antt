use Rattle.gc_sweep.proofs.Names.{rules, ap, subst, sym, ◌∙◌, is_valid}
use Rattle.std.proofs.lemmas.Fn.{always_returns_same}
use Rattle.gc_sweep.specs.Valid.{AreInOrder, names_cmp, names_of}
use Rattle.gc_sweep.proofs.Indexed.{found-valid}
use Rattle.gc_sweep.proofs.valid.ValidIndex.has.Goals as goal

pub returns : goal.returns
returns c =
    let att = c.args.att.now in
    let order = subst AreInOrder (sym c.deref.ensures.value) c.self.invariant in
    let found =
    c.binary_search_by.ensures.position (λ v. names_cmp (names_of v) (att.container, att.ifname))
    (always_returns_same _ _ _ (λ a r f h. search rules)) in
    c.is_ok.ensures.value
    ∙ found-valid att c.deref.result.now c.binary_search_by.result order c.binary_search_by.ensures.bound found
    ∙ ap (λ valid. is_valid valid att) (c.deref.ensures.value ∙ c.self.view_is)
