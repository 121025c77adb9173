-- The configuration of the `bridge` plugin, key by key in the order of its refusals.
use Rattle.std.specs.Prelude.{ℕ, List, [], ◌∷◌, codes, Bool, true, false, Result, Ok}
use Rattle.serde_json.specs.Data.{Data}
use Rattle.cni_json.specs.{Fields.{text_field, tested}, Outcome.◌>>=◌, declared.fields.Field.Field}
use Rattle.net_conf.specs.{Accepted.{Row, all_supported}, Ipam.addressing_at, Members.{with_default, flag_at, mtu_at}}
use Rattle.net_conf.specs.{Names.is_interface_name, Refusals.invalid, declared.accepted.Accepted.TheVariants.Zero}
use Rattle.net_conf.specs.declared.accepted.Accepted.TheVariants.{EmptyList, IsFlag, Backend}
use Rattle.net_conf.specs.declared.bridge_modes.{BridgeMode.BridgeMode, GatewayRole.GatewayRole}
use Rattle.net_conf.specs.declared.{error.ConfError.ConfError, first.BridgeConf.BridgeConf}
use Rattle.net_conf.specs.declared.bridge_modes.BridgeMode.TheVariants as modes
use Rattle.net_conf.specs.declared.bridge_modes.GatewayRole.TheVariants as roles

-- keys that are not acted on
abbrev pub bridge_rows : List Row
bridge_rows =
    (codes "vlan", Zero) ∷ (codes "vlanTrunk", EmptyList) ∷ (codes "preserveDefaultVlan", IsFlag true)
    ∷ (codes "macspoofchk", IsFlag false) ∷ (codes "forceAddress", IsFlag false)
    ∷ (codes "disableContainerInterface", IsFlag false) ∷ (codes "portIsolation", IsFlag false)
    ∷ (codes "ipMasqBackend", Backend) ∷ []

abbrev pub bridge_name_of : Field (List ℕ) → Result (List ℕ) ConfError
bridge_name_of f = with_default (codes "bridge") (codes "cni0") (tested (invalid (codes "bridge")) is_interface_name) f

-- the bridge's name
unfoldable pub bridge_name_at : Data → Result (List ℕ) ConfError
bridge_name_at d = bridge_name_of (text_field (codes "bridge") d)

-- a default gateway is a gateway, whatever the first flag says
abbrev pub role_of : Bool → Bool → GatewayRole
role_of is_gateway true = roles.DefaultGateway
role_of true false = roles.Gateway
role_of false false = roles.None

-- what the bridge is to its containers
unfoldable pub gateway_role_at : Data → Result GatewayRole ConfError
gateway_role_at d = do
  is_gateway ← flag_at (codes "isGateway") false d
  is_default ← flag_at (codes "isDefaultGateway") false d
  Ok (role_of is_gateway is_default)

-- whether the bridge takes every frame
unfoldable pub promisc_at : Data → Result Bool ConfError
promisc_at d = flag_at (codes "promiscMode") false d

-- a bridge in promiscuous mode needs no hairpin
abbrev pub mode_of : Bool → Bool → Result BridgeMode ConfError
mode_of false false = Ok modes.Plain
mode_of true false = Ok modes.Hairpin
mode_of false true = Ok modes.Promisc
mode_of true true = invalid (codes "hairpinMode")

-- the mode of the bridge and of its ports
unfoldable pub bridge_mode_at : Data → Result BridgeMode ConfError
bridge_mode_at d = do
  hairpin ← flag_at (codes "hairpinMode") false d
  promisc ← promisc_at d
  mode_of hairpin promisc

-- the configuration that a `bridge` plugin's object gives
unfoldable pub bridge_at : Data → Result BridgeConf ConfError
bridge_at d = do
  _ ← all_supported bridge_rows d
  bridge ← bridge_name_at d
  gateway ← gateway_role_at d
  masq ← flag_at (codes "ipMasq") false d
  mtu ← mtu_at d
  mode ← bridge_mode_at d
  addressing ← addressing_at d
  Ok (record {
    bridge = bridge;
    gateway = gateway;
    ip_masq = masq;
    mtu = mtu;
    mode = mode;
    ipam = addressing.ipam;
    dns = addressing.dns;
  })
