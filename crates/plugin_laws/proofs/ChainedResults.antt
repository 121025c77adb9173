-- What the chained plugins leave of a result that can be read again can be read again.
use Rattle.std.proofs.Common.{◌≡◌, ◌<◌, ◌^◌, ℕ, Bool, true, false, List, [], ◌∷◌, map, Option, Some, None, sym, subst}
use Rattle.std.proofs.lemmas.List.{length-map}
use Rattle.std.specs.{List.AllByRecursion, Option.option_or, Prelude.{IfSome, if◌then◌else◌, is_some}}
use Rattle.cni_addr.specs.MacText.{IsMac}
use Rattle.cni_result.specs.{Laws.{IsInterfaceOf, IsReadable}, Reading.are_on, Versions.mtu_since_1_1}
use Rattle.cni_result.specs.declared.{result.{AddResult.AddResult, Interface.Interface}, version.Version.Version}
use Rattle.firewall_tuning.specs.Tuning.{tuned_interface}
use Rattle.net_conf.specs.WellFormed.{IsMtu, IsWellFormedChained, IsWellFormedTuning}
use Rattle.net_conf.specs.declared.chained.Chained.{Chained, TheVariants.{Portmap, Firewall, Tuning}}
use Rattle.net_conf.specs.declared.chained.TuningConf.{TuningConf}
use Rattle.plugin_chain.specs.{Plugins.chained_plugin_of, Wanted.{all_chained_results, chained_result}}
use Rattle.plugin_laws.proofs.{Interfaces.{mtu-or, mtu-within, mtu-small}, Lists.if_some-weaker}

or-is : {X : Type 0} (P : X → Type 0) (new old : Option X) → IfSome new P → IfSome old P → IfSome (option_or new old) P
or-is P None old first later = later
or-is P (Some x) old first later = first

if-is : (version : Version) (b : Bool) (i j : Interface) → IsInterfaceOf version i → IsInterfaceOf version j
    → IsInterfaceOf version (if b then i else j)
if-is version true i j first later = first
if-is version false i j first later = later

tuned-is : (conf : TuningConf) (version : Version) (i : Interface) → IsWellFormedTuning conf
    → IsInterfaceOf version i → IsInterfaceOf version (tuned_interface conf version i)
tuned-is conf version i formed is =
    let new = mtu-within version conf.mtu (if_some-weaker IsMtu (λ n. n < 2 ^ 32) conf.mtu mtu-small formed.mtu) in
    if-is version (is_some i.sandbox)
    (record {
      name = i.name;
      mac = option_or conf.mac i.mac;
      mtu = option_or (mtu_since_1_1 version conf.mtu) i.mtu;
      sandbox = i.sandbox;
    })
    i
    (record {
      mac = or-is IsMac conf.mac i.mac formed.mac is.mac;
      mtu = or-is (λ n. n < 2 ^ 32) (mtu_since_1_1 version conf.mtu) i.mtu new is.mtu;
      told = mtu-or version conf.mtu i.mtu is.told;
    })
    is

all-tuned : (conf : TuningConf) (version : Version) (interfaces : List Interface) → IsWellFormedTuning conf
    → AllByRecursion (IsInterfaceOf version) interfaces
    → AllByRecursion (IsInterfaceOf version) (map (tuned_interface conf version) interfaces)
all-tuned conf version [] formed all = tt
all-tuned conf version (i ∷ more) formed all =
    (tuned-is conf version i formed all.0, all-tuned conf version more formed all.1)

chained-readable : (c : Chained) (prev : AddResult) → IsWellFormedChained c → IsReadable prev
    → IsReadable (chained_result c prev)
unfolding chained_plugin_of
chained-readable (Portmap conf) prev formed is = is
chained-readable (Firewall conf) prev formed is = is
chained-readable (Tuning conf) prev formed is = record {
  interfaces = all-tuned conf prev.version prev.interfaces formed is.interfaces;
  ips = is.ips;
  routes = is.routes;
  indexes =
      subst (λ (n : ℕ). are_on n prev.ips ≡ true)
      (sym (length-map prev.interfaces (tuned_interface conf prev.version))) is.indexes;
}

pub all-readable : (cs : List Chained) (prev : AddResult) → AllByRecursion IsWellFormedChained cs → IsReadable prev
    → IsReadable (all_chained_results cs prev)
all-readable [] prev formed is = is
all-readable (c ∷ cs) prev formed is =
    all-readable cs (chained_result c prev) formed.1 (chained-readable c prev formed.0 is)
