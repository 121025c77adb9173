use Rattle.std.specs.Str.{bytes_eq}
use Rattle.object_tables.proofs.Noted.{index-empty, trails-empty}
use Rattle.object_tables.proofs.table.Table.new.Goals as goal

pub invariant_of-result : goal.invariant_of-result
invariant_of-result g c =
    rw c.new.ensures.items (
      index-empty g.K.PartialEq.eq g.T.Row.key_of c.with_hasher.result c.with_hasher.ensures.empty,
      index-empty g.L.PartialEq.eq g.T.Row.alias_of c.with_hasher-2.result c.with_hasher-2.ensures.empty,
      trails-empty g.O.PartialEq.eq g.T.Row.owner_of c.with_hasher-3.result c.with_hasher-3.ensures.empty,
      trails-empty bytes_eq g.T.Row.network_of c.with_hasher-4.result c.with_hasher-4.ensures.empty,
      trails-empty g.P.PartialEq.eq g.T.Row.site_of c.with_hasher-5.result c.with_hasher-5.ensures.empty,
    )
