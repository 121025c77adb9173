use Rattle.std.proofs.Common.{rules, ◌≡◌, sym, subst}
use Rattle.net_conf.specs.PluginTypes.{HaveTypesOnce}
use Rattle.pod_file.proofs.GeneratedListFacts.{later_plugins-once}
use Rattle.pod_file.specs.Generator.{later_plugins}
use Rattle.pod_file.proofs.generated_list.later_plugins.Goals as goal

pub of_items-requires : goal.of_items-requires
of_items-requires c =
    let all : c.push-2.new.self ≡ later_plugins = search rules in
    subst HaveTypesOnce (sym all) later_plugins-once
