use Rattle.std.proofs.Common.{◌≡◌, ◌∙◌, ◌<◌, Some, None, ap, sym, subst, length, rules}
use Rattle.std.specs.Prelude.{filter, find, not}
use Rattle.object_tables.specs.Table.{has_key}
use Rattle.object_tables.proofs.Lists.{one-fewer, one-gone, none-gone}
use Rattle.object_tables.proofs.table.Table.remove_at.Goals as goal

pub loop-row-preserved : goal.loop-row-preserved
loop-row-preserved g c =
    let test = has_key g.P.PartialEq.eq g.T.Row.site_of c.args.site.now in
    ap (filter (λ row. not (test row))) c.take_first_at.ensures.rest
    ∙ one-gone test c.loop-row.self
    ∙ c.loop-row.invariant

pub loop-row-smaller : goal.loop-row-smaller
loop-row-smaller g c =
    let test = has_key g.P.PartialEq.eq g.T.Row.site_of c.args.site.now in
    let found : find test c.loop-row.self ≡ Some c.in-Some.row = search rules in
    subst (λ l. length l < length c.loop-row.self) (sym c.take_first_at.ensures.rest)
    (one-fewer test c.loop-row.self c.in-Some.row found)

pub returns : goal.returns
returns g c =
    let test = has_key g.P.PartialEq.eq g.T.Row.site_of c.args.site.now in
    let none : find test c.loop-row.self ≡ None = search rules in
    c.take_first_at.ensures.rest ∙ none-gone test c.loop-row.self none ∙ c.loop-row.invariant
