-- Objects are the same by the test just where their keys compare as equal.
use Rattle.std.specs.{Ordering.eq_by_cmp, Prelude.{◌≡◌, ℕ, true, refl}}
use Rattle.std.proofs.Common.{◌∙◌, ap, sym, true≢false}
use Rattle.cni_addr.specs.contracts.address.AddrEq.TheImpl.Laws.{laws-law as addr_laws}
use Rattle.cni_addr.specs.contracts.address.AddrOrd.TheImpl.{cmp-value as addr_cmp, Laws.matches_eq-law as addr-tied}
use Rattle.kernel_types.specs.Keys.{addr_key, route_key}
use Rattle.plugin_base.specs.{EachKey.halves, KeyLaws.{addr-by_key, addr-mark, addrs-mark, route-by_key, route-mark}}
use Rattle.bridge_ptp.specs.{Gateways.is_same_gateway, Ptp.{AddressOrRoute, Address, Route, same_key}}
use Rattle.bridge_ptp.specs.contracts.ptp.ObjectKeyOrd.TheImpl.{cmp-value as object_key_cmp}
use Rattle.bridge_ptp.specs.declared.{bridge.Gateway.Gateway, ptp.ObjectKey.ObjectKey}
use Rattle.bridge_ptp.specs.declared.ptp.ObjectKey.TheVariants as keys

pub gateway-by_key : (new g : Gateway) → is_same_gateway new g ≡ eq_by_cmp addr_cmp.it g.cidr.addr new.cidr.addr
gateway-by_key new g = addr_laws.symm new.cidr.addr g.cidr.addr ∙ addr-tied g.cidr.addr new.cidr.addr

pub gateway-mark : (new g : Gateway) → is_same_gateway new g ≡ true
    → halves g.cidr.addr.bits ≡ halves new.cidr.addr.bits
gateway-mark new g same = ap halves (sym (addrs-mark new.cidr.addr g.cidr.addr same))

abbrev pub key_of : AddressOrRoute → ObjectKey
key_of (Address obj) = keys.Address (addr_key obj)
key_of (Route obj) = keys.Route (route_key obj)

pub object-by_key : (new x : AddressOrRoute) → same_key new x ≡ eq_by_cmp object_key_cmp.it (key_of x) (key_of new)
object-by_key (Address a) (Address b) = addr-by_key a b
object-by_key (Address a) (Route s) = refl
object-by_key (Route r) (Address b) = refl
object-by_key (Route r) (Route s) = route-by_key r s

abbrev pub mark_of : AddressOrRoute → ℕ
mark_of (Address obj) = halves obj.cidr.addr.bits
mark_of (Route obj) = halves obj.dst.addr.bits

pub object-mark : (new x : AddressOrRoute) → same_key new x ≡ true → mark_of x ≡ mark_of new
object-mark (Address a) (Address b) same = addr-mark a b same
object-mark (Address a) (Route s) same = absurd (true≢false (sym same))
object-mark (Route r) (Address b) same = absurd (true≢false (sym same))
object-mark (Route r) (Route s) same = route-mark r s same
