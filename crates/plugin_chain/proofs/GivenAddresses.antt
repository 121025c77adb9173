-- What the plugins of a list keep of the given addresses.
use Rattle.std.proofs.Common.{◌≡◌, ℕ, List, [], ◌∷◌, map, Option, refl, ap, ◌∙◌}
use Rattle.cni_result.specs.declared.{result.AddResult.AddResult, version.Version.Version}
use Rattle.net_conf.specs.declared.{chained.Chained.Chained, first.{First.First, HostLocalConf.HostLocalConf}}
use Rattle.kernel_types.specs.declared.{call.Given.Given, object.Att.Att}
use Rattle.host_local.specs.Results.{ip_of, ipam_result_of}
use Rattle.plugin_chain.specs.Wanted.{chained_result, first_result, all_chained_results}
use Rattle.plugin_chain.proofs.PluginLaws.{chained_laws, first_laws}

-- a chained plugin keeps the addresses
pub chained-ips : (c : Chained) (prev : AddResult) → (chained_result c prev).ips ≡ prev.ips
chained-ips c prev = (chained_laws c).keeps_ips prev

-- so do all of them
pub all_chained-ips : (cs : List Chained) (r : AddResult) → (all_chained_results cs r).ips ≡ r.ips
all_chained-ips [] r = refl
all_chained-ips (c ∷ cs) r = all_chained-ips cs (chained_result c r) ∙ chained-ips c r

given-addresses : (given : List Given) → map (λ ip. ip.address) (map ip_of given) ≡ map (λ g. g.address) given
given-addresses [] = refl
given-addresses (g ∷ gs) = ap (λ l. g.address ∷ l) (given-addresses gs)

-- the result of the first plugin has the given addresses
pub first-addresses : (first : First) (att : Att) (netns : List ℕ) (ipam : Option HostLocalConf) (given : List Given)
    (version : Version)
    → map (λ ip. ip.address) (first_result first att netns (ipam_result_of ipam given version)).ips
    ≡ map (λ g. g.address) given
first-addresses first att netns ipam given version =
    (first_laws first).keeps_addresses att netns (ipam_result_of ipam given version) ∙ given-addresses given
