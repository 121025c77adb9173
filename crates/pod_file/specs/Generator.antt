-- A plan that a number alone gives: a network, and containers that are added, checked, half of them deleted,
-- collected and checked again. It is this project's own.
use Rattle.std.specs.{List.range_with_len, Prelude.{ℕ, ◌+◌, ◌%◌, ◌==◌, ◌++◌, List, [], ◌∷◌, map, filter, codes}}
use Rattle.std.specs.Prelude.{decimal, true, false, Some, None}
use Rattle.cni_addr.specs.declared.{address.{Addr.Addr, Cidr.Cidr, Family.TheVariants.V4}, range.Range.Range}
use Rattle.cni_result.specs.{Dns.no_dns, declared.version.Version.TheVariants.V1_1}
use Rattle.kernel_types.specs.{Opening.opening_with, declared.object.Host.Host}
use Rattle.net_conf.specs.{Members.default_mtu, declared.bridge_modes.BridgeMode.TheVariants.Plain}
use Rattle.net_conf.specs.declared.{bridge_modes.GatewayRole.TheVariants.Gateway, chained.Chained.Chained}
use Rattle.net_conf.specs.declared.{chained.Chained.TheVariants.{Portmap, Firewall}, first.BridgeConf.BridgeConf}
use Rattle.net_conf.specs.declared.{first.{First.TheVariants.Bridge, HostLocalConf.HostLocalConf}, list.NetList.NetList}
use Rattle.pod_file.specs.{Rounds.all_numbered, declared.command.{Command.Command, RawMapping.RawMapping}}
use Rattle.pod_file.specs.declared.command.{ValidAtt.ValidAtt, Verb.{Verb, TheVariants.{Add, Check, Del, Gc}}}
use Rattle.pod_file.specs.declared.generator.{Container.Container, Generated.Generated, SharedTexts.SharedTexts}
use Rattle.pod_file.specs.declared.pods.Pods.{Pods}

-- ---- the network

abbrev pub ipv4 : ℕ → Addr
ipv4 bits = record { family = V4; bits = bits }

-- 10.0.0.0/8
abbrev pub tens : Cidr
tens = record { addr = ipv4 0x0a00_0000; prefix = 8 }

-- what a range is by default: from the subnet's second address, which is the gateway's, to its last but one
abbrev pub range_of_tens : Range
range_of_tens = record {
  subnet = tens;
  start = ipv4 0x0a00_0001;
  end = ipv4 0x0aff_fffe;
  gateway = ipv4 0x0a00_0001;
}

abbrev pub addresses_of_tens : HostLocalConf
addresses_of_tens = record { sets = record { ranges = range_of_tens ∷ [] } ∷ []; routes = [] }

-- the first plugin: a bridge that is a gateway and masquerades, and has the defaults else
abbrev pub gateway_bridge : BridgeConf
gateway_bridge = record {
  bridge = codes "cni0";
  gateway = Gateway;
  ip_masq = true;
  mtu = default_mtu;
  mode = Plain;
  ipam = Some addresses_of_tens;
  dns = no_dns;
}

abbrev pub later_plugins : List Chained
later_plugins = Portmap (record { mappings = true; snat = true }) ∷ Firewall (record {}) ∷ []

abbrev pub network_name : List ℕ
network_name = codes "gen"

-- the network list: after the bridge a `portmap` that gets the port mappings, and a `firewall`
abbrev pub generated_list : NetList
generated_list = record {
  version = V1_1;
  name = network_name;
  disable_check = false;
  disable_gc = false;
  first = Bridge gateway_bridge;
  chained = later_plugins;
}

-- ---- containers

-- the container of this number
abbrev pub container_of : ℕ → Container
container_of number = record {
  number = number;
  name = codes "p" ++ decimal number;
  netns = codes "/ns/p" ++ decimal number;
}

-- the most containers
abbrev pub most_containers : ℕ
most_containers = 10000

-- the containers of the numbers from 1 to n
unfoldable pub containers : ℕ → List Container
containers n = map container_of (range_with_len 1 n)

abbrev pub namespaces_of : List Container → List (List ℕ)
namespaces_of cs = map (λ c. c.netns) cs

-- ---- commands, which have no numbers yet

-- the interface of each container
abbrev pub interface : List ℕ
interface = codes "eth0"

abbrev pub shared_texts : SharedTexts
shared_texts = record { network = network_name; interface = interface; protocol = codes "tcp"; empty = [] }

-- the host's port of a container leads to its port 80
abbrev pub mapping_of : Container → RawMapping
mapping_of c = record { host_port = 1024 + c.number; container_port = 80; protocol = codes "tcp"; host_ip = [] }

-- a command for a container
abbrev pub command_of : Verb → Container → Command
command_of verb c = record {
  number = 0;
  verb = verb;
  network = network_name;
  container = c.name;
  netns = c.netns;
  ifname = interface;
  args = [];
  mappings = mapping_of c ∷ [];
  valid = [];
  table = None;
  stop = None;
  faults = [];
}

abbrev pub attachment_of : Container → ValidAtt
attachment_of c = record { container = c.name; ifname = interface }

-- a GC that keeps these containers
abbrev pub collection_of : List Container → Command
collection_of kept = record {
  number = 0;
  verb = Gc;
  network = network_name;
  container = [];
  netns = [];
  ifname = interface;
  args = [];
  mappings = [];
  valid = map attachment_of kept;
  table = None;
  stop = None;
  faults = [];
}

-- ---- rounds

-- the containers whose number leaves this rest
abbrev pub leaving : ℕ → ℕ → List Container → List Container
leaving divisor rest cs = filter (λ c. c.number % divisor == rest) cs

-- each second container is deleted
abbrev pub deleted_of : List Container → List Container
deleted_of cs = leaving 2 0 cs

-- each fourth container, from the first on, is kept
abbrev pub kept_of : List Container → List Container
kept_of cs = leaving 4 1 cs

-- all are added and checked; some are deleted, all but some are collected, and these are checked again
abbrev pub rounds_for : List Container → List (List Command)
rounds_for cs =
    map (command_of Add) cs
    ∷ map (command_of Check) cs
    ∷ map (command_of Del) (deleted_of cs)
    ∷ (collection_of (kept_of cs) ∷ [])
    ∷ map (command_of Check) (kept_of cs)
    ∷ []

-- ---- the whole

-- each container's namespace is there at the start
abbrev pub opening_for : List Container → Host
opening_for cs = opening_with (namespaces_of cs) []

abbrev pub pods_for : List Container → Pods
pods_for cs = record { opening = opening_for cs; rounds = all_numbered 1 (rounds_for cs) }

-- the workload of n containers
abbrev pub generated : ℕ → Generated
generated n = record { list = generated_list; pods = pods_for (containers n) }
