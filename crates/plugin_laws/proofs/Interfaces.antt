-- The interfaces of an ADD's result can be read again.
use Rattle.std.proofs.{Common.{◌≡◌, ◌<◌, ◌^◌, ℕ, List, Option, Some, None, refl, arith}, lemmas.Bool.and_parts}
use Rattle.std.proofs.lemmas.Bool.Decides.{nat_tests}
use Rattle.std.specs.{List.AllByRecursion, Option.option_or, Prelude.{IfSome, nat_le}}
use Rattle.cni_addr.specs.{MacText.IsMac, declared.mac.Mac.Mac}
use Rattle.cni_result.specs.{Laws.IsInterfaceOf, Versions.mtu_since_1_1, declared.version.Version.Version}
use Rattle.cni_result.specs.declared.version.Version.TheVariants.{V0_4, V1_0, V1_1}
use Rattle.bridge_ptp.specs.Results.{bridge_interface, pair_interfaces}
use Rattle.kernel_types.specs.{Names.{host_mac_of, host_name_of, inner_mac_of}, declared.object.Att.Att}
use Rattle.net_conf.specs.WellFormed.{IsMtu}
use Rattle.plugin_base.specs.Results.{inner_interface}
use Rattle.plugin_laws.proofs.Digests.{host_mac-is, inner_mac-is, link_mac-is}

mtu-once : (version : Version) (mtu : Option ℕ)
    → mtu_since_1_1 version (mtu_since_1_1 version mtu) ≡ mtu_since_1_1 version mtu
mtu-once V0_4 mtu = refl
mtu-once V1_0 mtu = refl
mtu-once V1_1 mtu = refl

pub mtu-or : (version : Version) (new old : Option ℕ) → mtu_since_1_1 version old ≡ old
    → mtu_since_1_1 version (option_or (mtu_since_1_1 version new) old) ≡ option_or (mtu_since_1_1 version new) old
mtu-or V0_4 new old told = told
mtu-or V1_0 new old told = told
mtu-or V1_1 new old told = refl

pub mtu-within : (version : Version) (mtu : Option ℕ) → IfSome mtu (λ n. n < 2 ^ 32)
    → IfSome (mtu_since_1_1 version mtu) (λ n. n < 2 ^ 32)
mtu-within V0_4 mtu is = tt
mtu-within V1_0 mtu is = tt
mtu-within V1_1 mtu is = is

pub mtu-small : (n : ℕ) → IsMtu n → n < 2 ^ 32
mtu-small n is =
    let most = (and_parts (nat_le 68 n) (nat_le n 65535) is).1 in
    grind (arith, nat_tests, most)

made-interface : (version : Version) (name : List ℕ) (mac : Mac) (mtu : ℕ) (sandbox : Option (List ℕ)) → IsMac mac
    → IsMtu mtu
    → IsInterfaceOf version
    (record { name = name; mac = Some mac; mtu = mtu_since_1_1 version (Some mtu); sandbox = sandbox })
made-interface version name mac mtu sandbox six is =
    record { mac = six; mtu = mtu-within version (Some mtu) (mtu-small mtu is); told = mtu-once version (Some mtu) }

pub inner-is : (att : Att) (netns : List ℕ) (mtu : ℕ) (version : Version) → IsMtu mtu
    → IsInterfaceOf version (inner_interface att netns mtu version)
inner-is att netns mtu version is =
    made-interface version att.ifname (inner_mac_of att) mtu (Some netns) (inner_mac-is att) is

pub pair-is : (att : Att) (netns : List ℕ) (mtu : ℕ) (version : Version) → IsMtu mtu
    → AllByRecursion (IsInterfaceOf version) (pair_interfaces att netns mtu version)
pair-is att netns mtu version is = (
  made-interface version (host_name_of att) (host_mac_of att) mtu None (host_mac-is att) is,
  (inner-is att netns mtu version is, tt),
)

mtu-none : (version : Version) → mtu_since_1_1 version None ≡ None
mtu-none V0_4 = refl
mtu-none V1_0 = refl
mtu-none V1_1 = refl

pub bridge-is : (name : List ℕ) (version : Version) → IsInterfaceOf version (bridge_interface name)
bridge-is name version = record { mac = link_mac-is name; mtu = tt; told = mtu-none version }
