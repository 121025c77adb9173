use Rattle.std.proofs.Common.{◌≡◌, ◌∙◌, ◌++◌, ◌∷◌, [], ap, sym, length, append_assoc, append-nil, arith, rules}
use Rattle.std.proofs.lemmas.List.{nil_from_length}
use Rattle.std.specs.Vec.Iter.{into_iter_items}
use Rattle.object_tables.proofs.KeysOnce.{key-free}
use Rattle.object_tables.proofs.table.Table.of_rows.Goals as goal

pub push-requires-clause-key : goal.push-requires-clause-key
push-requires-clause-key g c =
    let next : into_iter_items c.loop-row.row-iterator ≡ c.in-Some.row ∷ into_iter_items c.next.new.self =
    c.in-Some.ensures.steps.0 in
    key-free g.K.PartialEq.eq g.T.Row.key_of c.args.rows c.loop-row.table c.in-Some.row
    (into_iter_items c.next.new.self)
    (ap (λ l. c.loop-row.table ++ l) (sym next) ∙ c.loop-row.invariant.0) c.requires.keys

pub push-requires-clause-alias : goal.push-requires-clause-alias
push-requires-clause-alias g c =
    let next : into_iter_items c.loop-row.row-iterator ≡ c.in-Some.row ∷ into_iter_items c.next.new.self =
    c.in-Some.ensures.steps.0 in
    key-free g.L.PartialEq.eq g.T.Row.alias_of c.args.rows c.loop-row.table c.in-Some.row
    (into_iter_items c.next.new.self)
    (ap (λ l. c.loop-row.table ++ l) (sym next) ∙ c.loop-row.invariant.0) c.requires.aliases

pub loop-row-preserved : goal.loop-row-preserved
loop-row-preserved g c =
    let next : into_iter_items c.loop-row.row-iterator ≡ c.in-Some.row ∷ into_iter_items c.next.new.self =
    c.in-Some.ensures.steps.0 in
    let pushed : c.push.new.self ≡ c.loop-row.table ++ c.in-Some.row ∷ [] = search rules in (
      ap (λ l. l ++ into_iter_items c.next.new.self) pushed
          ∙ append_assoc c.loop-row.table (c.in-Some.row ∷ []) (into_iter_items c.next.new.self)
          ∙ ap (λ l. c.loop-row.table ++ l) (sym next) ∙ c.loop-row.invariant.0,
      let was = c.loop-row.invariant.1 in
          let gone = c.in-Some.ensures.steps.1 in
          let short = ap length next in
          omega arith,
    )

pub returns : goal.returns
returns g c =
    let none = c.in-None.ensures.steps in
    let empty : into_iter_items c.loop-row.row-iterator ≡ [] =
    nil_from_length _ (sym c.loop-row.invariant.1 ∙ none.0) in
    sym (append-nil c.loop-row.table) ∙ ap (λ l. c.loop-row.table ++ l) (sym empty) ∙ c.loop-row.invariant.0
