use Rattle.std.proofs.Common.{◌≡◌, ◌∙◌, ap, false, rules}
use Rattle.std.specs.List.{list_any}
use Rattle.kernel_types.specs.Keys.{is_same_setting}
use Rattle.host_tables.proofs.Free.{setting-alias_free}
use Rattle.host_tables.proofs.tables.Tables.forward_ensure.Goals as goal

pub push-requires-clause-alias : goal.push-requires-clause-alias
push-requires-clause-alias c =
    let free : list_any (is_same_setting c.in_ok-forward.forward) c.args.self.now.settings ≡ false = search rules in
    λ alias is. setting-alias_free c.self.inside.settings c.in_ok-forward.forward alias
    (ap (λ host. list_any (is_same_setting c.in_ok-forward.forward) host.settings) c.self.view_is ∙ free) is
