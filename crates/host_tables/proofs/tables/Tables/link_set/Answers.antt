use Rattle.std.proofs.Common.{◌≡◌, true, rules}
use Rattle.std.specs.List.{list_any}
use Rattle.kernel_types.specs.Apply.Calls.{is_own_at}
use Rattle.host_tables.proofs.Free.{values-set}
use Rattle.host_tables.proofs.tables.Tables.link_set.Goals as goal

pub returns : goal.returns
returns c =
    let own : list_any (is_own_at c.args.att.now c.args.key.now) c.args.self.now.links ≡ true = search rules in
    values-set c.args.att.now c.args.key.now c.args.mac c.args.mtu c.args.tx_qlen c.args.promisc c.args.allmulti _
    c.args.self.now c.update.new.self c.self.view_is c.requires.links.keys own c.update.ensures
