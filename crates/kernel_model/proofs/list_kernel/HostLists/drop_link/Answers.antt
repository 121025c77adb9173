use Rattle.std.proofs.Common.{◌≡◌, Some, true, rules}
use Rattle.kernel_types.specs.Terms.{has_named_ns, link_at}
use Rattle.kernel_model.proofs.LeavingLinks.{drop_link-found}
use Rattle.kernel_model.proofs.list_kernel.HostLists.drop_link.Goals as goal

pub returns-in-Some : goal.returns-in-Some
returns-in-Some c =
    let named : has_named_ns c.args.self.now c.args.key.now.ns ≡ true = search rules in
    let found : link_at c.args.self.now c.args.key.now.ns c.args.key.now.name ≡ Some c.in-Some.field-0.now =
    search rules in
    rw c.drop_leaving.ensures (drop_link-found c.args.self.now c.args.key.now c.in-Some.field-0.now named found)
