-- No reader of a plugin looks at a key that a runtime replaces.
use Rattle.std.proofs.Common.{◌≡◌, ℕ, Bool, true, false, List, [], ◌∷◌, codes, Result, Ok, Err, refl, sym, ap, ◌∙◌}
use Rattle.std.specs.{List.AllByRecursion, Prelude.{⊤, if◌then◌else◌}}
use Rattle.serde_json.specs.Data.{Data, null, boolean, number, string, array, object}
use Rattle.cni_json.specs.{Fields.object_or, Outcome.◌>>=◌}
use Rattle.cni_result.specs.Dns.{dns_of_object}
use Rattle.net_conf.specs.{Accepted.{Row, supported, all_supported}, Bridge.{bridge_rows, bridge_name_at}}
use Rattle.net_conf.specs.{Bridge.{gateway_role_at, promisc_at, bridge_mode_at, bridge_at}, Firewall.firewall_rows}
use Rattle.net_conf.specs.{Firewall.firewall_at, Ipam.{ipam_at, addressing_at}, Macvlan.{macvlan_rows, master_at}}
use Rattle.net_conf.specs.{Macvlan.{mode_at, macvlan_at}, Members.{flag_at, given_mtu_at, mtu_at}, Plugin.plugin_at}
use Rattle.net_conf.specs.{Plugin.plugin_by_type_at, PluginTypes.makes_interface, Plugins.{type_at, first_of, first_at}}
use Rattle.net_conf.specs.{Plugins.{later_of, chained_at, wrong_plugins}, Portmap.{portmap_rows, takes_mappings_at}}
use Rattle.net_conf.specs.{Portmap.portmap_at, Ptp.ptp_at, RuntimeKeys.{is_runtime_key, HaveSameKeys}, Sets.is_object}
use Rattle.net_conf.specs.Tuning.{sysctl_at, new_mac_at, queue_length_at, tuning_at}
use Rattle.net_conf.specs.declared.{error.ConfError.ConfError, plugins.PluginType.PluginType}
use Rattle.net_conf.specs.declared.error.ConfError.TheVariants as refusal
use Rattle.net_conf.specs.declared.plugins.PluginType.TheVariants as plugin

-- ---- members that several plugins have

object_or-is : {E : Type 0} (wrong : Result ⊤ E) (d : Data) → object_or wrong d ≡ (if is_object d then Ok tt else wrong)
object_or-is wrong null = refl
object_or-is wrong (boolean b) = refl
object_or-is wrong (number n) = refl
object_or-is wrong (string s) = refl
object_or-is wrong (array ds) = refl
object_or-is wrong (object ms) = refl

object_or-same : {E : Type 0} (wrong : Result ⊤ E) (d e : Data) → HaveSameKeys d e
    → object_or wrong d ≡ object_or wrong e
object_or-same wrong d e same =
    object_or-is wrong d ∙ ap (λ (b : Bool). if b then Ok tt else wrong) same.object ∙ sym (object_or-is wrong e)

-- none of the rows has a key that a runtime replaces
abbrev ArePluginKeys : List Row → Type 0
ArePluginKeys rows = AllByRecursion (λ row. is_runtime_key row.0 ≡ false) rows

all_supported-same : (rows : List Row) (d e : Data) → HaveSameKeys d e → ArePluginKeys rows
    → all_supported rows d ≡ all_supported rows e
unfolding supported
all_supported-same [] d e same own = refl
all_supported-same (row ∷ rows) d e same own =
    rw (same.members row.0 own.0, all_supported-same rows d e same own.1) refl

flag_at-same : (key : List ℕ) (default : Bool) (d e : Data) → HaveSameKeys d e → is_runtime_key key ≡ false
    → flag_at key default d ≡ flag_at key default e
unfolding flag_at
flag_at-same key default d e same own = rw (same.members key own) refl

given_mtu_at-same : (d e : Data) → HaveSameKeys d e → given_mtu_at d ≡ given_mtu_at e
unfolding given_mtu_at
given_mtu_at-same d e same = rw (same.members (codes "mtu") refl) refl

mtu_at-same : (d e : Data) → HaveSameKeys d e → mtu_at d ≡ mtu_at e
unfolding mtu_at
mtu_at-same d e same = rw (given_mtu_at-same d e same) refl

dns_of_object-same : (d e : Data) → HaveSameKeys d e
    → dns_of_object (refusal.Invalid (codes "dns")) d ≡ dns_of_object (refusal.Invalid (codes "dns")) e
unfolding dns_of_object
dns_of_object-same d e same = rw (same.members (codes "dns") refl) refl

ipam_at-same : (d e : Data) → HaveSameKeys d e → ipam_at d ≡ ipam_at e
unfolding ipam_at
ipam_at-same d e same = rw (same.members (codes "ipam") refl) refl

addressing_at-same : (d e : Data) → HaveSameKeys d e → addressing_at d ≡ addressing_at e
unfolding addressing_at
addressing_at-same d e same = rw (dns_of_object-same d e same, ipam_at-same d e same) refl

-- ---- the first plugin

bridge_name_at-same : (d e : Data) → HaveSameKeys d e → bridge_name_at d ≡ bridge_name_at e
unfolding bridge_name_at
bridge_name_at-same d e same = rw (same.members (codes "bridge") refl) refl

gateway_role_at-same : (d e : Data) → HaveSameKeys d e → gateway_role_at d ≡ gateway_role_at e
unfolding gateway_role_at
gateway_role_at-same d e same =
    rw
    (flag_at-same (codes "isGateway") false d e same refl, flag_at-same (codes "isDefaultGateway") false d e same refl)
    refl

bridge_mode_at-same : (d e : Data) → HaveSameKeys d e → bridge_mode_at d ≡ bridge_mode_at e
unfolding bridge_mode_at promisc_at
bridge_mode_at-same d e same =
    rw (flag_at-same (codes "hairpinMode") false d e same refl, flag_at-same (codes "promiscMode") false d e same refl)
    refl

bridge_at-same : (d e : Data) → HaveSameKeys d e → bridge_at d ≡ bridge_at e
unfolding bridge_at
bridge_at-same d e same =
    rw (
      all_supported-same bridge_rows d e same (refl, (refl, (refl, (refl, (refl, (refl, (refl, (refl, tt)))))))),
      bridge_name_at-same d e same,
      gateway_role_at-same d e same,
      flag_at-same (codes "ipMasq") false d e same refl,
      mtu_at-same d e same,
      bridge_mode_at-same d e same,
      addressing_at-same d e same,
    ) refl

ptp_at-same : (d e : Data) → HaveSameKeys d e → ptp_at d ≡ ptp_at e
unfolding ptp_at
ptp_at-same d e same =
    rw (flag_at-same (codes "ipMasq") false d e same refl, mtu_at-same d e same, addressing_at-same d e same) refl

master_at-same : (d e : Data) → HaveSameKeys d e → master_at d ≡ master_at e
unfolding master_at
master_at-same d e same = rw (same.members (codes "master") refl) refl

mode_at-same : (d e : Data) → HaveSameKeys d e → mode_at d ≡ mode_at e
unfolding mode_at
mode_at-same d e same = rw (same.members (codes "mode") refl) refl

macvlan_at-same : (d e : Data) → HaveSameKeys d e → macvlan_at d ≡ macvlan_at e
unfolding macvlan_at
macvlan_at-same d e same =
    rw (
      all_supported-same macvlan_rows d e same (refl, tt),
      master_at-same d e same,
      mode_at-same d e same,
      mtu_at-same d e same,
      addressing_at-same d e same,
    )
    refl

-- ---- later plugins

takes_mappings_at-same : (d e : Data) → HaveSameKeys d e → takes_mappings_at d ≡ takes_mappings_at e
unfolding takes_mappings_at
takes_mappings_at-same d e same = rw (same.members (codes "capabilities") refl) refl

portmap_at-same : (d e : Data) → HaveSameKeys d e → portmap_at d ≡ portmap_at e
unfolding portmap_at
portmap_at-same d e same =
    rw (
      all_supported-same portmap_rows d e same (refl, (refl, (refl, (refl, (refl, tt))))),
      takes_mappings_at-same d e same,
      flag_at-same (codes "snat") true d e same refl,
    ) refl

firewall_at-same : (d e : Data) → HaveSameKeys d e → firewall_at d ≡ firewall_at e
unfolding firewall_at
firewall_at-same d e same = rw (all_supported-same firewall_rows d e same (refl, (refl, (refl, tt)))) refl

sysctl_at-same : (d e : Data) → HaveSameKeys d e → sysctl_at d ≡ sysctl_at e
unfolding sysctl_at
sysctl_at-same d e same = rw (same.members (codes "sysctl") refl) refl

new_mac_at-same : (d e : Data) → HaveSameKeys d e → new_mac_at d ≡ new_mac_at e
unfolding new_mac_at
new_mac_at-same d e same = rw (same.members (codes "mac") refl) refl

queue_length_at-same : (d e : Data) → HaveSameKeys d e → queue_length_at d ≡ queue_length_at e
unfolding queue_length_at
queue_length_at-same d e same = rw (same.members (codes "txQLen") refl) refl

tuning_at-same : (d e : Data) → HaveSameKeys d e → tuning_at d ≡ tuning_at e
unfolding tuning_at
tuning_at-same d e same =
    rw (
      sysctl_at-same d e same,
      new_mac_at-same d e same,
      given_mtu_at-same d e same,
      flag_at-same (codes "promisc") false d e same refl,
      flag_at-same (codes "allmulti") false d e same refl,
      queue_length_at-same d e same,
    ) refl

-- ---- a plugin

type_at-same : (d e : Data) → HaveSameKeys d e → type_at d ≡ type_at e
unfolding type_at
type_at-same d e same = rw (same.members (codes "type") refl) refl

first_of-same : (type : PluginType) (d e : Data) → HaveSameKeys d e → first_of type d ≡ first_of type e
first_of-same plugin.Bridge d e same = rw (bridge_at-same d e same) refl
first_of-same plugin.Ptp d e same = rw (ptp_at-same d e same) refl
first_of-same plugin.Macvlan d e same = rw (macvlan_at-same d e same) refl
first_of-same plugin.Portmap d e same = refl
first_of-same plugin.Firewall d e same = refl
first_of-same plugin.Tuning d e same = refl

later_of-same : (type : PluginType) (d e : Data) → HaveSameKeys d e → later_of type d ≡ later_of type e
later_of-same plugin.Bridge d e same = refl
later_of-same plugin.Ptp d e same = refl
later_of-same plugin.Macvlan d e same = refl
later_of-same plugin.Portmap d e same = rw (portmap_at-same d e same) refl
later_of-same plugin.Firewall d e same = rw (firewall_at-same d e same) refl
later_of-same plugin.Tuning d e same = rw (tuning_at-same d e same) refl

-- a type, and what goes on from it
by_type-same : {A : Type 0} (read : PluginType → Data → Result A ConfError) (d e : Data)
    → ((type : PluginType) → read type d ≡ read type e) → HaveSameKeys d e
    → (type_at d >>= λ type. read type d) ≡ (type_at e >>= λ type. read type e)
by_type-same read d e each same = rw (type_at-same d e same) (after (type_at e))
  where
    after : (r : Result PluginType ConfError) → (r >>= λ type. read type d) ≡ (r >>= λ type. read type e)
    after (Ok type) = each type
    after (Err refused) = refl

first_at-same : (d e : Data) → HaveSameKeys d e → first_at d ≡ first_at e
unfolding first_at
first_at-same d e same =
    rw (object_or-same wrong_plugins d e same, by_type-same first_of d e (λ type. first_of-same type d e same) same)
    refl

chained_at-same : (d e : Data) → HaveSameKeys d e → chained_at d ≡ chained_at e
unfolding chained_at
chained_at-same d e same =
    rw (object_or-same wrong_plugins d e same, by_type-same later_of d e (λ type. later_of-same type d e same) same)
    refl

pub plugin_at-same : (first : Bool) (d e : Data) → HaveSameKeys d e → plugin_at first d ≡ plugin_at first e
plugin_at-same true d e same = rw (first_at-same d e same) refl
plugin_at-same false d e same = rw (chained_at-same d e same) refl

pub plugin_by_type_at-same : (d e : Data) → HaveSameKeys d e → plugin_by_type_at d ≡ plugin_by_type_at e
unfolding plugin_by_type_at
plugin_by_type_at-same d e same =
    by_type-same (λ type d. plugin_at (makes_interface type) d) d e
    (λ type. plugin_at-same (makes_interface type) d e same) same
