-- The gateways on a bridge, as objects that a call asks for.
use Rattle.std.specs.Prelude.{ℕ, Bool, List, map}
use Rattle.cni_addr.specs.{Equal.addr_eq, Lists.each_key_once}
use Rattle.kernel_types.specs.declared.call.{Call.{Call, TheVariants.GatewayEnsure}, Given.Given}
use Rattle.bridge_ptp.specs.declared.bridge.Gateway.{Gateway}

-- with its subnet's prefix
abbrev pub gateway_of : List ℕ → Given → Gateway
gateway_of bridge g = record { bridge = bridge; cidr = record { addr = g.gateway; prefix = g.subnet.prefix } }

-- told apart by the address alone
abbrev pub is_same_gateway : Gateway → Gateway → Bool
is_same_gateway x y = addr_eq x.cidr.addr y.cidr.addr

abbrev pub gateway_call : Gateway → Call
gateway_call x = GatewayEnsure x.bridge x.cidr

-- each once
abbrev pub gateways_on : List ℕ → List Given → List Gateway
gateways_on bridge given = each_key_once is_same_gateway (map (gateway_of bridge) given)
