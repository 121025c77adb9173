-- The tests of the lists tell which objects have equal keys.
use Rattle.std.proofs.{Common.{◌≡◌, Bool, true, ap, refl, subst, ◌∙◌, arith}, Math.Bool.beq, lemmas.Bool.and_parts}
use Rattle.std.proofs.lemmas.Slice.Eq.{bytes_eq-Decides}
use Rattle.std.specs.{Cmp.unsigned_Decides, Option.option_eq, Prelude.{◌&&◌, ◌==◌}, Str.bytes_eq}
use Rattle.ip_pool.proofs.Addresses.{addr_eq-itself, same-address}
use Rattle.cni_addr.specs.declared.address.Cidr.{Cidr}
use Rattle.kernel_types.specs.{Equal.{addr_eq, cidr_eq, key_eq, link_eq, link_kind_eq, mac_eq, tag_eq}, Keys.TellsKeys}
use Rattle.kernel_types.specs.Keys.{addr_key, is_same_addr, is_same_route, is_same_setting, route_key, setting_key}
use Rattle.kernel_types.specs.declared.keys.{AddrKey.AddrKey, RouteKey.RouteKey, SettingKey.SettingKey}
use Rattle.kernel_types.specs.declared.object.Link.{Link}

both : (a b : Bool) → a ≡ true → b ≡ true → (a && b) ≡ true
both a b h k = ap (λ c. c && b) h ∙ k

abbrev same_addr_key : AddrKey → AddrKey → Bool
same_addr_key k l = bytes_eq k.ns l.ns && bytes_eq k.link l.link && addr_eq k.addr l.addr

addr_key-itself : (k : AddrKey) → same_addr_key k k ≡ true
addr_key-itself k =
    both (bytes_eq k.ns k.ns && bytes_eq k.link k.link) (addr_eq k.addr k.addr)
    (both (bytes_eq k.ns k.ns) (bytes_eq k.link k.link) ((bytes_eq-Decides k.ns k.ns).1 refl)
    ((bytes_eq-Decides k.link k.link).1 refl))
    (addr_eq-itself k.addr)

addr_key-equal : (k l : AddrKey) → same_addr_key k l ≡ true → k ≡ l
addr_key-equal k l same =
    let parts = and_parts (bytes_eq k.ns l.ns && bytes_eq k.link l.link) (addr_eq k.addr l.addr) same in
    let place = and_parts (bytes_eq k.ns l.ns) (bytes_eq k.link l.link) parts.0 in
    λ i. record {
      ns = (bytes_eq-Decides k.ns l.ns).0 place.0 i;
      link = (bytes_eq-Decides k.link l.link).0 place.1 i;
      addr = same-address k.addr l.addr parts.1 i;
    }

pub addresses-told : TellsKeys is_same_addr addr_key
addresses-told new a = (
  addr_key-equal (addr_key a) (addr_key new),
  λ equal. subst (λ k. same_addr_key (addr_key a) k ≡ true) equal (addr_key-itself (addr_key a)),
)

abbrev same_route_key : RouteKey → RouteKey → Bool
same_route_key k l = bytes_eq k.ns l.ns && cidr_eq k.dst l.dst && bytes_eq k.link l.link

cidr-itself : (c : Cidr) → cidr_eq c c ≡ true
cidr-itself c =
    both (addr_eq c.addr c.addr) (c.prefix == c.prefix) (addr_eq-itself c.addr)
    ((unsigned_Decides c.prefix c.prefix).1 refl)

pub cidr-equal : (c d : Cidr) → cidr_eq c d ≡ true → c ≡ d
cidr-equal c d same =
    let parts = and_parts (addr_eq c.addr d.addr) (c.prefix == d.prefix) same in
    λ i.
    record { addr = same-address c.addr d.addr parts.0 i; prefix = (unsigned_Decides c.prefix d.prefix).0 parts.1 i }

route_key-itself : (k : RouteKey) → same_route_key k k ≡ true
route_key-itself k =
    both (bytes_eq k.ns k.ns && cidr_eq k.dst k.dst) (bytes_eq k.link k.link)
    (both (bytes_eq k.ns k.ns) (cidr_eq k.dst k.dst) ((bytes_eq-Decides k.ns k.ns).1 refl) (cidr-itself k.dst))
    ((bytes_eq-Decides k.link k.link).1 refl)

route_key-equal : (k l : RouteKey) → same_route_key k l ≡ true → k ≡ l
route_key-equal k l same =
    let parts = and_parts (bytes_eq k.ns l.ns && cidr_eq k.dst l.dst) (bytes_eq k.link l.link) same in
    let place = and_parts (bytes_eq k.ns l.ns) (cidr_eq k.dst l.dst) parts.0 in
    λ i. record {
      ns = (bytes_eq-Decides k.ns l.ns).0 place.0 i;
      dst = cidr-equal k.dst l.dst place.1 i;
      link = (bytes_eq-Decides k.link l.link).0 parts.1 i;
    }

pub routes-told : TellsKeys is_same_route route_key
routes-told new r = (
  route_key-equal (route_key r) (route_key new),
  λ equal. subst (λ k. same_route_key (route_key r) k ≡ true) equal (route_key-itself (route_key r)),
)

abbrev same_setting_key : SettingKey → SettingKey → Bool
same_setting_key k l = bytes_eq k.ns l.ns && bytes_eq k.key l.key

setting_key-itself : (k : SettingKey) → same_setting_key k k ≡ true
setting_key-itself k =
    both (bytes_eq k.ns k.ns) (bytes_eq k.key k.key) ((bytes_eq-Decides k.ns k.ns).1 refl)
    ((bytes_eq-Decides k.key k.key).1 refl)

setting_key-equal : (k l : SettingKey) → same_setting_key k l ≡ true → k ≡ l
setting_key-equal k l same =
    let parts = and_parts (bytes_eq k.ns l.ns) (bytes_eq k.key l.key) same in
    λ i. record {
      ns = (bytes_eq-Decides k.ns l.ns).0 parts.0 i;
      key = (bytes_eq-Decides k.key l.key).0 parts.1 i;
    }

pub settings-told : TellsKeys is_same_setting setting_key
settings-told new s = (
  setting_key-equal (setting_key s) (setting_key new),
  λ equal. subst (λ k. same_setting_key (setting_key s) k ≡ true) equal (setting_key-itself (setting_key s)),
)

-- ---- a link's tag, by the test of whole links

last_test : (a b c d e f g h i j k l : Bool)
    → (a && (b && (c && (d && (e && (f && (g && (h && (i && (j && (k && l))))))))))) ≡ true → l ≡ true
last_test a b c d e f g h i j k l all = grind (arith, all)

pub link_eq-tag : (l link : Link) → link_eq l link ≡ true → tag_eq l.tag link.tag ≡ true
link_eq-tag l link h =
    last_test (bytes_eq l.ns link.ns) (bytes_eq l.name link.name) (link_kind_eq l.kind link.kind)
    (option_eq bytes_eq l.master link.master) (option_eq key_eq l.peer link.peer) (mac_eq l.mac link.mac)
    (l.mtu == link.mtu) (beq l.hairpin link.hairpin) (beq l.promisc link.promisc) (beq l.allmulti link.allmulti)
    (l.tx_qlen == link.tx_qlen) (tag_eq l.tag link.tag) h
