use Rattle.std.proofs.Common.{◌≡◌, ◌∙◌, ap, sym, rules}
use Rattle.std.specs.{List.list_any, Prelude.is_some}
use Rattle.cni_addr.proofs.{Lists.is_some-find, Options.is_some-option_copied}
use Rattle.kernel_types.specs.{Apply.Calls.has_object, Equal.{addr_obj_eq, lease_eq, route_eq, rule_eq, setting_eq}}
use Rattle.kernel_types.specs.declared.call.Object.TheVariants.{Address, Route, Rule, Setting, Lease}
use Rattle.kernel_types.specs.declared.call.Probe.TheVariants.{Whole}
use Rattle.host_tables.proofs.{Added.rule-same, Questions.{address-same, lease-same, route-same, setting-same}}
use Rattle.host_tables.proofs.tables.Tables.has_equal.Goals as goal

pub returns-in-Address : goal.returns-in-Address
returns-in-Address c =
    let of : c.args.object.now ≡ Address c.in-Address.address = search rules in
    let is : c.args.object.now ≡ Address c.get-in-Address.result.now = of ∙ ap Address (sym c.get-in-Address.ensures) in
    let found : c.is_some.result ≡ list_any (λ x. addr_obj_eq x c.get-in-Address.result.now) c.self.inside.addresses =
    c.is_some.ensures
    ∙ is_some-option_copied c.find_alias.result
    ∙ ap is_some c.find_alias.ensures
    ∙ is_some-find _ c.self.inside.addresses
    ∙ (λ i. list_any (λ x. address-same x c.get-in-Address.result.now i) c.self.inside.addresses) in
    found
    ∙ ap (λ h. list_any (λ x. addr_obj_eq x c.get-in-Address.result.now) h.addresses) c.self.view_is
    ∙ ap (λ o. has_object c.args.self.now (Whole o)) (sym is)

pub returns-in-Route : goal.returns-in-Route
returns-in-Route c =
    let of : c.args.object.now ≡ Route c.in-Route.route = search rules in
    let is : c.args.object.now ≡ Route c.get-in-Route.result.now = of ∙ ap Route (sym c.get-in-Route.ensures) in
    let found : c.is_some-in-Route.result ≡ list_any (λ x. route_eq x c.get-in-Route.result.now) c.self.inside.routes =
    c.is_some-in-Route.ensures
    ∙ is_some-option_copied c.find_alias-in-Route.result
    ∙ ap is_some c.find_alias-in-Route.ensures
    ∙ is_some-find _ c.self.inside.routes
    ∙ (λ i. list_any (λ x. route-same x c.get-in-Route.result.now i) c.self.inside.routes) in
    found
    ∙ ap (λ h. list_any (λ x. route_eq x c.get-in-Route.result.now) h.routes) c.self.view_is
    ∙ ap (λ o. has_object c.args.self.now (Whole o)) (sym is)

pub returns-in-Rule : goal.returns-in-Rule
returns-in-Rule c =
    let is : c.args.object.now ≡ Rule c.in-Rule.rule = search rules in
    let found : c.is_some-in-Rule.result ≡ list_any (λ x. rule_eq x c.in-Rule.rule) c.self.inside.rules =
    c.is_some-in-Rule.ensures
    ∙ is_some-option_copied c.find.result
    ∙ ap is_some c.find.ensures
    ∙ is_some-find _ c.self.inside.rules
    ∙ (λ i. list_any (λ x. rule-same x c.in-Rule.rule i) c.self.inside.rules) in
    found
    ∙ ap (λ h. list_any (λ x. rule_eq x c.in-Rule.rule) h.rules) c.self.view_is
    ∙ ap (λ o. has_object c.args.self.now (Whole o)) (sym is)

pub returns-in-Setting : goal.returns-in-Setting
returns-in-Setting c =
    let of : c.args.object.now ≡ Setting c.in-Setting.setting = search rules in
    let is : c.args.object.now ≡ Setting c.get-in-Setting.result.now = of ∙ ap Setting (sym c.get-in-Setting.ensures) in
    let found : c.is_some-in-Setting.result
    ≡ list_any (λ x. setting_eq x c.get-in-Setting.result.now) c.self.inside.settings =
    c.is_some-in-Setting.ensures
    ∙ is_some-option_copied c.find_alias-in-Setting.result
    ∙ ap is_some c.find_alias-in-Setting.ensures
    ∙ is_some-find _ c.self.inside.settings
    ∙ (λ i. list_any (λ x. setting-same x c.get-in-Setting.result.now i) c.self.inside.settings) in
    found
    ∙ ap (λ h. list_any (λ x. setting_eq x c.get-in-Setting.result.now) h.settings) c.self.view_is
    ∙ ap (λ o. has_object c.args.self.now (Whole o)) (sym is)

pub returns-in-Lease : goal.returns-in-Lease
returns-in-Lease c =
    let of : c.args.object.now ≡ Lease c.in-Lease.lease = search rules in
    let is : c.args.object.now ≡ Lease c.get-in-Lease.result.now = of ∙ ap Lease (sym c.get-in-Lease.ensures) in
    let found : c.is_some-in-Lease.result ≡ list_any (λ x. lease_eq x c.get-in-Lease.result.now) c.self.inside.leases =
    c.is_some-in-Lease.ensures
    ∙ is_some-option_copied c.find-in-Lease.result
    ∙ ap is_some c.find-in-Lease.ensures
    ∙ is_some-find _ c.self.inside.leases
    ∙ (λ i. list_any (λ x. lease-same x c.get-in-Lease.result.now i) c.self.inside.leases) in
    found
    ∙ ap (λ h. list_any (λ x. lease_eq x c.get-in-Lease.result.now) h.leases) c.self.view_is
    ∙ ap (λ o. has_object c.args.self.now (Whole o)) (sym is)
