-- The calls that an ADD's plugins make are its attachment's, or ensure what all share.
use Rattle.std.proofs.Common.{◌≡◌, ℕ, true, List}
use Rattle.std.specs.List.{list_all}
use Rattle.cni_addr.specs.declared.address.Addr.{Addr}
use Rattle.cni_result.proofs.ReadAgain.{each_of}
use Rattle.cni_result.specs.declared.cached.PortMapping.{PortMapping}
use Rattle.net_conf.specs.declared.{first.First.First, list.NetList.NetList}
use Rattle.kernel_types.proofs.Cases.{att_eq-refl}
use Rattle.kernel_types.specs.declared.object.Att.{Att}
use Rattle.plugin_base.specs.Calls.{is_plugin_call_of}
use Rattle.plugin_chain.specs.Wanted.{back_calls, calls_before}
use Rattle.plugin_chain.proofs.{BackCalls.{PassesChained, passes-back}, PluginLaws.{chained_laws, first_laws}}

pub own-before : (first : First) (att : Att) (netns : List ℕ)
    → list_all (is_plugin_call_of att) (calls_before first att netns) ≡ true
own-before first att netns = ((first_laws first).before att netns).own

pub own-back : (list : NetList) (att : Att) (netns : List ℕ) (mappings : List PortMapping) (addrs : List Addr)
    → list_all (is_plugin_call_of att) (back_calls list att netns mappings addrs) ≡ true
own-back list att netns mappings addrs =
    passes-back (is_plugin_call_of att) list att netns mappings addrs
    (λ given. ((first_laws list.first).after att netns given).own)
    (each_of (PassesChained (is_plugin_call_of att) att netns mappings) list.chained
    (λ c ips. ((chained_laws c).calls att netns mappings ips).own)) (λ cached. att_eq-refl att)
