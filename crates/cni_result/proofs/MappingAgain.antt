-- A port mapping that was printed is read again.
use Rattle.std.proofs.Common.{◌≡◌, ℕ, ◌^◌, ◌<◌, Option, Some, None, option_map, refl, ap, ◌∙◌, rules}
use Rattle.std.specs.Prelude.{codes, IfSome}
use Rattle.serde_json.proofs.Views.{get_member-put}
use Rattle.serde_json.specs.{Data.{Members, no_members, put}, Find.as_str}
use Rattle.cni_addr.specs.{AddrText.{addr_text, addr_of_text}, Value.{AddrValue, IsAddr}}
use Rattle.cni_json.specs.{Fields.{field_of, u64_of}, Members.{number_data, addr_data, ◌▷◌, put_if}}
use Rattle.cni_result.proofs.{EntriesAgain.addr_if_read, Lookups.{at_other, at_other_if, at_key_if}}
use Rattle.cni_result.specs.{Laws.IsMapping, Mappings.{proto_data, mapping_data, port_of, port_at, host_ip_of}}
use Rattle.cni_result.specs.Mappings.{host_ip_at, protocol_of, protocol_at, mapping_at}
use Rattle.cni_result.specs.declared.cached.{PortMapping.PortMapping, Proto.{Proto, TheVariants.{Tcp, Udp, Sctp}}}

-- its members up to one
abbrev up_to_container_port : PortMapping → Members
up_to_container_port m = no_members ▷ put (codes "containerPort") (number_data m.container_port)

abbrev up_to_host_ip : PortMapping → Members
up_to_host_ip m = up_to_container_port m ▷ put_if addr_data (codes "hostIP") m.host_ip

abbrev up_to_host_port : PortMapping → Members
up_to_host_port m = up_to_host_ip m ▷ put (codes "hostPort") (number_data m.host_port)

port_again : (n : ℕ) → n < 2 ^ 16 → port_of (field_of u64_of (Some (number_data n))) ≡ Some n
port_again n fits = search rules

container_port_again : (m : PortMapping) → m.container_port < 2 ^ 16
    → port_at (codes "containerPort") (mapping_data m) ≡ Some m.container_port
unfolding port_at mapping_data
container_port_again m fits =
    ap (λ g. port_of (field_of u64_of g))
    (at_other (codes "containerPort") (codes "protocol") (proto_data m.protocol) (up_to_host_port m) refl
    ∙ at_other (codes "containerPort") (codes "hostPort") (number_data m.host_port) (up_to_host_ip m) refl
    ∙ at_other_if addr_data (codes "containerPort") (codes "hostIP") m.host_ip (up_to_container_port m) refl
    ∙ get_member-put (codes "containerPort") (number_data m.container_port) no_members)
    ∙ port_again m.container_port fits

host_port_again : (m : PortMapping) → m.host_port < 2 ^ 16
    → port_at (codes "hostPort") (mapping_data m) ≡ Some m.host_port
unfolding port_at mapping_data
host_port_again m fits =
    ap (λ g. port_of (field_of u64_of g))
    (at_other (codes "hostPort") (codes "protocol") (proto_data m.protocol) (up_to_host_port m) refl
    ∙ get_member-put (codes "hostPort") (number_data m.host_port) (up_to_host_ip m))
    ∙ port_again m.host_port fits

addr_again : (o : Option AddrValue) → IfSome o (λ a. addr_of_text (addr_text a) ≡ Some a)
    → host_ip_of (field_of as_str (option_map addr_data o)) ≡ Some o
addr_again None is = refl
addr_again (Some a) is = ap (option_map Some) is

host_ip_again : (m : PortMapping) → IfSome m.host_ip IsAddr → host_ip_at (mapping_data m) ≡ Some m.host_ip
unfolding host_ip_at mapping_data
host_ip_again m kept =
    ap (λ g. host_ip_of (field_of as_str g))
    (at_other (codes "hostIP") (codes "protocol") (proto_data m.protocol) (up_to_host_port m) refl
    ∙ at_other (codes "hostIP") (codes "hostPort") (number_data m.host_port) (up_to_host_ip m) refl
    ∙ at_key_if addr_data (codes "hostIP") m.host_ip (up_to_container_port m)
    (at_other (codes "hostIP") (codes "containerPort") (number_data m.container_port) no_members refl))
    ∙ addr_again m.host_ip (addr_if_read m.host_ip kept)

proto_again : (p : Proto) → protocol_of (field_of as_str (Some (proto_data p))) ≡ Some p
proto_again Tcp = refl
proto_again Udp = refl
proto_again Sctp = refl

protocol_again : (m : PortMapping) → protocol_at (mapping_data m) ≡ Some m.protocol
unfolding protocol_at mapping_data
protocol_again m =
    ap (λ g. protocol_of (field_of as_str g))
    (get_member-put (codes "protocol") (proto_data m.protocol) (up_to_host_port m)) ∙ proto_again m.protocol

pub mapping_again : (m : PortMapping) → IsMapping m → mapping_at (mapping_data m) ≡ Some m
unfolding mapping_at
mapping_again m kept =
    rw (
      container_port_again m kept.container_port,
      host_ip_again m kept.host_ip,
      host_port_again m kept.host_port,
      protocol_again m,
    ) refl
