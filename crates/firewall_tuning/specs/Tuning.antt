-- The `tuning` plugin: kernel settings of the container's namespace, and values of its link.
use Rattle.std.specs.{Option.option_or, Prelude.{ℕ, ◌+◌, Bool, false, ◌||◌, List, [], ◌∷◌, ◌++◌, length, map, is_some}}
use Rattle.std.specs.Prelude.{if◌then◌else◌}
use Rattle.cni_result.specs.{Versions.mtu_since_1_1, declared.result.{AddResult.AddResult, Interface.Interface}}
use Rattle.cni_result.specs.declared.version.Version.{Version}
use Rattle.net_conf.specs.declared.chained.{Sysctl.Sysctl, TuningConf.TuningConf}
use Rattle.kernel_types.specs.{Apply.Calls.{is_same_setting, set_link}, declared.call.Call.{Call, TheVariants.LinkSet}}
use Rattle.kernel_types.specs.declared.call.{Call.TheVariants.SettingSet, Kind.{Kind, TheVariants.Settings}}
use Rattle.kernel_types.specs.declared.object.{Att.Att, Link.Link, Setting.Setting, Tag.TheVariants.Own}
use Rattle.cni_addr.specs.Lists.{each_key_once}
use Rattle.plugin_base.specs.{Plugins.ChainedPlugin, Shapes.inner_key}

-- ---- settings

abbrev pub setting_of : Att → List ℕ → Sysctl → Setting
setting_of att netns s = record { ns = netns; key = s.key; value = s.value; tag = Own att }

abbrev pub tuning_settings : TuningConf → Att → List ℕ → List Setting
tuning_settings conf att netns = each_key_once is_same_setting (map (setting_of att netns) conf.sysctl)

-- ---- the container's link

abbrev pub sets_any : TuningConf → Bool
sets_any conf = is_some conf.mac || (is_some conf.mtu || (is_some conf.tx_qlen || (conf.promisc || conf.allmulti)))

abbrev pub link_set_calls : TuningConf → Att → List ℕ → List Call
link_set_calls conf att netns =
    if sets_any conf
    then LinkSet att (inner_key att netns) conf.mac conf.mtu conf.tx_qlen conf.promisc conf.allmulti ∷ [] else []

-- the links after it
abbrev pub tuned : TuningConf → Att → List ℕ → List Link → List Link
tuned conf att netns links =
    if sets_any conf
    then map (set_link att (inner_key att netns) conf.mac conf.mtu conf.tx_qlen conf.promisc conf.allmulti) links
    else links

abbrev pub tuning_calls_of : TuningConf → Att → List ℕ → List Call
tuning_calls_of conf att netns = map SettingSet (tuning_settings conf att netns) ++ link_set_calls conf att netns

-- ---- the result

-- the container's end alone has a sandbox
abbrev pub tuned_interface : TuningConf → Version → Interface → Interface
tuned_interface conf version i =
    if is_some i.sandbox
    then record {
      name = i.name;
      mac = option_or conf.mac i.mac;
      mtu = option_or (mtu_since_1_1 version conf.mtu) i.mtu;
      sandbox = i.sandbox;
    } else i

abbrev pub tuning_result_of : TuningConf → AddResult → AddResult
tuning_result_of conf prev =
    record {
      version = prev.version;
      interfaces = map (tuned_interface conf prev.version) prev.interfaces;
      ips = prev.ips;
      routes = prev.routes;
      dns = prev.dns;
    }

-- ---- the kinds

-- the kinds of objects that DEL takes back; a link's values go with the link
abbrev pub tuning_kinds : List Kind
tuning_kinds = Settings ∷ []

-- ---- the plugin

-- The settings, and one call for the link's values.
abbrev pub tuning_plugin : TuningConf → ChainedPlugin
tuning_plugin conf = record {
  takes_mappings = false;
  calls = λ att netns mappings ips. tuning_calls_of conf att netns;
  rules = λ att mappings ips. [];
  settings = λ att netns. tuning_settings conf att netns;
  links_after = λ att netns links. tuned conf att netns links;
  sets_links = sets_any conf;
  result = λ prev. tuning_result_of conf prev;
  kinds = tuning_kinds;
  most = λ mappings addresses. length conf.sysctl + 1;
}
