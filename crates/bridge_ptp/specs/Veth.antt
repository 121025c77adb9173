-- The veth pair between a container and the host.
use Rattle.std.specs.Prelude.{ℕ, Bool, List, [], ◌∷◌, Option}
use Rattle.kernel_types.specs.declared.{call.Call.{Call, TheVariants.VethAdd}, object.{Att.Att, Link.Link}}
use Rattle.plugin_base.specs.Shapes.{host_end, inner_end}

-- both ends, the host's under this master
abbrev pub veth_links : Att → List ℕ → Option (List ℕ) → ℕ → Bool → List Link
veth_links att netns master mtu hairpin = host_end att netns master mtu hairpin ∷ inner_end att netns mtu ∷ []

-- the call that makes them
abbrev pub veth_pair : Att → List ℕ → Option (List ℕ) → ℕ → Bool → Call
veth_pair att netns master mtu hairpin = VethAdd (host_end att netns master mtu hairpin) (inner_end att netns mtu)
