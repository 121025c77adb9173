use Rattle.std.proofs.Common.{◌∙◌, ap}
use Rattle.std.specs.{List.list_any, Prelude.{is_some, ◌&&◌}, Str.bytes_eq}
use Rattle.cni_addr.proofs.{Lists.is_some-find, Options.is_some-option_copied}
use Rattle.kernel_types.specs.{Keys.is_same_setting, declared.keys.SettingKey.SettingKey}
use Rattle.host_tables.proofs.Free.{any-setting}
use Rattle.host_tables.proofs.tables.Tables.has_same_setting.Goals as goal

pub returns : goal.returns
returns c =
    c.is_some.ensures
    ∙ is_some-option_copied c.find.result
    ∙ ap is_some c.find.ensures
    ∙ is_some-find _ c.self.inside.settings
    ∙ any-setting c.in_ok-key.key c.self.inside.settings
    ∙ ap (λ (key : SettingKey). list_any (λ s. bytes_eq s.ns key.ns && bytes_eq s.key key.key) c.self.inside.settings)
    c.in_ok-key.ensures
    ∙ ap (λ host. list_any (is_same_setting c.args.obj.now) host.settings) c.self.view_is
