-- The `dummy` and the `vlan` plugin: one link of the container, and the given addresses on it (CNI plugins
-- documentation, `plugins/main/dummy` and `plugins/main/vlan`).
use Rattle.std.specs.{Option.option_map_or, Prelude.{◌≡◌, ℕ, ◌^◌, ◌-◌, true, false, List, [], ◌∷◌, map, codes, Option}}
use Rattle.std.specs.{Prelude.{None, IfSome}, Str.Parse.digits_value}
use Rattle.cni_result.specs.{Dns.no_dns, declared.result.{AddResult.AddResult, Interface.Interface}}
use Rattle.cni_result.specs.declared.version.Version.TheVariants.{V1_1}
use Rattle.kernel_types.specs.{Names.inner_mac_of, Terms.new_link, declared.call.Call.{Call, TheVariants.MacvlanAdd}}
use Rattle.kernel_types.specs.declared.{call.Call.TheVariants.AddrAdd, object.{Link.Link, LinkKind.LinkKind}}
use Rattle.kernel_types.specs.declared.object.{LinkKind.TheVariants.{Dummy, Vlan}, Tag.TheVariants.Own}
use Rattle.plugin_base.specs.{Results.{inner_interface, completed}, Shapes.{addresses_on, inner_key}}
use Rattle.host_local.specs.Results.{ipam_result_of}
use Rattle.plugin_registry.specs.{Needs.{is_number, value_of}, declared.ask.{Ask.Ask, Form.TheVariants.IfName}}
use Rattle.plugin_registry.specs.declared.ask.{Form.TheVariants.Number, Need.Need, Opt.Opt}

-- ---- what they are called and need

abbrev pub dummy_name : List ℕ
dummy_name = codes "dummy"

abbrev pub vlan_name : List ℕ
vlan_name = codes "vlan"

-- the MTU of the link, in bytes: 68, which RFC 791 asks of every link, or more
abbrev pub mtu_need : Need
mtu_need = record { key = codes "mtu"; form = Number 68 65535; must = false }

abbrev pub dummy_needs_of : List Need
dummy_needs_of = mtu_need ∷ []

-- the link of the host that the VLAN link stands on
abbrev pub master_need : Need
master_need = record { key = codes "master"; form = IfName; must = true }

-- the number of the VLAN (IEEE 802.1Q, which keeps 0 and 4095 for other uses)
abbrev pub vlan_id_need : Need
vlan_id_need = record { key = codes "vlanId"; form = Number 1 4094; must = true }

abbrev pub vlan_needs_of : List Need
vlan_needs_of = master_need ∷ vlan_id_need ∷ mtu_need ∷ []

-- ---- what the options say

-- where the option is there, it is the numeral of a number of 32 bits
abbrev pub IsNumberOrAbsent : List ℕ → List Opt → Type 0
IsNumberOrAbsent key options = IfSome (value_of key options) (λ text. is_number 0 (2 ^ 32 - 1) text ≡ true)

-- the number under the key, or this one where the option isn't there
abbrev pub number_or : ℕ → List ℕ → List Opt → ℕ
number_or absent key options = option_map_or (digits_value 10) (value_of key options) absent

-- Ethernet's MTU where there is none
abbrev pub mtu_of : List Opt → ℕ
mtu_of options = number_or 1500 (codes "mtu") options

-- 0, which is no VLAN's number, where there is none
abbrev pub vlan_id_of : List Opt → ℕ
vlan_id_of options = number_or 0 (codes "vlanId") options

-- ---- links

-- the attachment's link in the container
abbrev pub inner_link : Ask → LinkKind → Option (List ℕ) → Link
inner_link ask kind master = record
    (new_link (inner_key ask.att ask.netns) kind (inner_mac_of ask.att) (mtu_of ask.options) (Own ask.att))
    { master = master }

abbrev pub dummy_link_of : Ask → Link
dummy_link_of ask = inner_link ask Dummy None

abbrev pub vlan_link_of : Ask → Link
vlan_link_of ask = inner_link ask (Vlan (vlan_id_of ask.options)) (value_of (codes "master") ask.options)

-- ---- calls

-- the link, and on it each given address once
abbrev pub calls_with : Ask → Link → List Call
calls_with ask link = MacvlanAdd link ∷ map AddrAdd (addresses_on ask.att ask.netns ask.given)

abbrev pub dummy_calls_of : Ask → List Call
dummy_calls_of ask = calls_with ask (dummy_link_of ask)

abbrev pub vlan_calls_of : Ask → List Call
vlan_calls_of ask = calls_with ask (vlan_link_of ask)

-- ---- results

-- the link alone
abbrev pub inner_interfaces : Ask → List Interface
inner_interfaces ask = inner_interface ask.att ask.netns (mtu_of ask.options) V1_1 ∷ []

-- the given addresses with their gateways on the link, and no routes
abbrev pub inner_result : Ask → AddResult
inner_result ask = completed (ipam_result_of None ask.given V1_1) (inner_interfaces ask) 0 [] no_dns

abbrev pub dummy_result_of : Ask → AddResult
dummy_result_of ask = inner_result ask

abbrev pub vlan_result_of : Ask → AddResult
vlan_result_of ask = inner_result ask
