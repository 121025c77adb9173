use Rattle.std.proofs.Common.{◌≡◌, ◌∙◌, Some, None, ap, sym, refl, true, false}
use Rattle.std.specs.Prelude.{find}
use Rattle.kernel_types.specs.{Keys.is_same_setting, Terms.has_named_ns}
use Rattle.kernel_types.specs.contracts.keys.SettingKeyPartialEq.TheImpl.{eq-value}
use Rattle.kernel_types.specs.contracts.object.SettingPartialEq.TheImpl.{eq-value as same-value}
use Rattle.kernel_types.proofs.ListLemmas.{list_any-find_none}
use Rattle.host_tables.proofs.Added.{setting_key, setting-keyed, free-key, free-alias}
use Rattle.host_tables.proofs.tables.Tables.setting_set.Goals as goal

pub push-requires-clause-key : goal.push-requires-clause-key
push-requires-clause-key c =
    let same : setting_key c.in_ok-copy-2.field-0 ≡ c.in_ok-of.field-0 =
    ap setting_key c.in_ok-copy-2.ensures ∙ sym c.in_ok-of.ensures in
    free-key eq-value.it (λ a. Some (setting_key a)) c.self.inside.settings c.in_ok-of.field-0
    (setting_key c.in_ok-copy-2.field-0)
    (list_any-find_none _ c.self.inside.settings (sym c.in_default.ensures)) same

pub push-requires-clause-alias : goal.push-requires-clause-alias
push-requires-clause-alias c =
    let same : setting_key c.in_ok-copy-2.field-0 ≡ c.in_ok-of.field-0 =
    ap setting_key c.in_ok-copy-2.ensures ∙ sym c.in_ok-of.ensures in
    free-alias eq-value.it same-value.it setting_key setting-keyed c.self.inside.settings c.in_ok-of.field-0
    c.in_ok-copy-2.field-0 (list_any-find_none _ c.self.inside.settings (sym c.in_default.ensures)) same

pub returns-then-not-has_named_ns-clause-ok : goal.returns-then-not-has_named_ns-clause-ok
returns-then-not-has_named_ns-clause-ok c =
    let named : has_named_ns c.args.self.now c.args.setting.now.ns ≡ false = sym c.if-not-has_named_ns.ensures in
    rw named refl

pub returns-in-Some-clause-ok : goal.returns-in-Some-clause-ok
returns-in-Some-clause-ok c =
    let named : has_named_ns c.args.self.now c.args.setting.now.ns ≡ true = sym c.if-not-has_named_ns.ensures in
    let found : find (is_same_setting c.args.setting.now) c.args.self.now.settings ≡ Some c.in-Some.other.now =
    rw (← c.self.view_is) (rw c.in_ok-of.ensures at (sym c.in-Some.ensures)) in
    rw (named, found, c.in_ok-copy.ensures) refl

pub returns-clause-ok : goal.returns-clause-ok
returns-clause-ok c =
    let named : has_named_ns c.args.self.now c.args.setting.now.ns ≡ true = sym c.if-not-has_named_ns.ensures in
    let none : find (is_same_setting c.args.setting.now) c.args.self.now.settings ≡ None =
    rw (← c.self.view_is) (rw c.in_ok-of.ensures at (sym c.in_default.ensures)) in
    rw (named, none, ← c.self.view_is) (rw (c.in_ok-push.ensures.ok, c.in_ok-copy-2.ensures) refl)
