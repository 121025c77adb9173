-- What the roles and the modes of a bridge ask for (the keys `isGateway`, `isDefaultGateway`, `hairpinMode` and
-- `promiscMode` of the reference plugin `bridge`).
use Rattle.std.specs.Prelude.{Bool, true, false}
use Rattle.net_conf.specs.declared.bridge_modes.{BridgeMode.BridgeMode, GatewayRole.GatewayRole}
use Rattle.net_conf.specs.declared.bridge_modes.BridgeMode.TheVariants as modes
use Rattle.net_conf.specs.declared.bridge_modes.GatewayRole.TheVariants as roles

-- the bridge has the gateways' addresses, which a default gateway asks for too
abbrev pub is_gateway : GatewayRole → Bool
is_gateway roles.None = false
is_gateway roles.Gateway = true
is_gateway roles.DefaultGateway = true

-- the containers' default routes go by the gateways
abbrev pub is_default : GatewayRole → Bool
is_default roles.None = false
is_default roles.Gateway = false
is_default roles.DefaultGateway = true

-- the container's port sends frames back where they came from
abbrev pub hairpin : BridgeMode → Bool
hairpin modes.Plain = false
hairpin modes.Hairpin = true
hairpin modes.Promisc = false

-- the bridge takes every frame
abbrev pub promisc : BridgeMode → Bool
promisc modes.Plain = false
promisc modes.Hairpin = false
promisc modes.Promisc = true
