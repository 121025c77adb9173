-- The network and the plugin of a request that was printed are read again.
use Rattle.std.proofs.Common.{◌≡◌, [], ◌∷◌, true, codes, Ok, refl, sym, ap, ◌∙◌}
use Rattle.serde_json.specs.{Data.{Data, null, boolean, number, string, array, object}, Find.{as_str, as_array}}
use Rattle.cni_json.specs.Fields.{field_of}
use Rattle.cni_result.specs.{Dns.{texts_of, texts_at}, Versions.version_text, declared.version.Version.Version}
use Rattle.cni_result.specs.declared.version.Version.TheVariants.{V0_4, V1_0, V1_1}
use Rattle.net_conf.proofs.SameKeys.{plugin_by_type_at-same}
use Rattle.net_conf.specs.{List.{name_at, header_at}, Members.needed_text, Names.is_network_name}
use Rattle.net_conf.specs.{Plugin.plugin_by_type_at, Plugins.type_at, RuntimeKeys.HaveSameKeys, Sets.is_object}
use Rattle.net_conf.specs.Versions.{single_version_of, single_version_at, listed_versions_at, version_texts_at}
use Rattle.net_conf.specs.{Versions.{version_of, version_at}, declared.plugin.Plugin.Plugin}
use Rattle.net_conf.specs.declared.error.ConfError.TheVariants as refusal
use Rattle.exec_protocol.proofs.RequestMembers.{Parts, made, at_version, at_versions, at_name, at_own}
use Rattle.exec_protocol.specs.Reading.{head_at}

-- ---- the network

single_version_again : (p : Parts) → single_version_at (made p) ≡ Ok (version_text p.list.version ∷ [])
unfolding single_version_at
single_version_again p = ap (λ found. single_version_of (field_of as_str found)) (at_version p)

listed_versions_again : (p : Parts) → listed_versions_at (made p) ≡ Ok []
unfolding listed_versions_at texts_at
listed_versions_again p =
    ap (λ found. texts_of (refusal.Invalid (codes "cniVersions")) (field_of as_array found)) (at_versions p)

version_named_again : (version : Version) → version_of (version_text version ∷ []) ≡ Ok version
version_named_again V0_4 = refl
version_named_again V1_0 = refl
version_named_again V1_1 = refl

version_again : (p : Parts) → version_at (made p) ≡ Ok p.list.version
unfolding version_at version_texts_at
version_again p = rw (single_version_again p, listed_versions_again p) (version_named_again p.list.version)

name_again : (p : Parts) → is_network_name p.list.name ≡ true → name_at (made p) ≡ Ok p.list.name
unfolding name_at
name_again p is =
    ap (λ found. needed_text (codes "name") is_network_name (field_of as_str found)) (at_name p) ∙ rw is refl

header_again : (p : Parts) → is_network_name p.list.name ≡ true
    → header_at (made p) ≡ Ok (record { version = p.list.version; name = p.list.name })
unfolding header_at
header_again p is = rw (version_again p, name_again p is) refl

-- ---- the plugin

-- a plugin is read of nothing but an object
read_of_object : (d : Data) (plugin : Plugin) → plugin_by_type_at d ≡ Ok plugin → is_object d ≡ true
unfolding plugin_by_type_at type_at
read_of_object null plugin is = cc
read_of_object (boolean b) plugin is = cc
read_of_object (number n) plugin is = cc
read_of_object (string s) plugin is = cc
read_of_object (array ds) plugin is = cc
read_of_object (object ms) plugin is = refl

plugin_again : (p : Parts) (plugin : Plugin) → plugin_by_type_at p.own ≡ Ok plugin
    → plugin_by_type_at (made p) ≡ Ok plugin
plugin_again p plugin is =
    let same : HaveSameKeys p.own (made p) =
    record { object = read_of_object p.own plugin is; members = λ q own. sym (at_own q p own) } in
    sym (plugin_by_type_at-same p.own (made p) same) ∙ is

pub head_again : (p : Parts) (plugin : Plugin) → is_network_name p.list.name ≡ true
    → plugin_by_type_at p.own ≡ Ok plugin
    → head_at (made p) ≡ Ok (record {
      header = record { version = p.list.version; name = p.list.name };
      plugin = plugin;
    })
unfolding head_at
head_again p plugin name is = rw (header_again p name, plugin_again p plugin is) refl
