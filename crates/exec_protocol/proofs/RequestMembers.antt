-- What is found in a request at each key: what its runtime put there, and else what the plugin's own object has.
use Rattle.std.proofs.Common.{◌≡◌, ℕ, List, Bool, true, false, not, codes, Option, Some, None, option_map, bytes_eq}
use Rattle.std.proofs.{Common.{refl, sym, ap, ◌∙◌}, lemmas.{Bool.true≢false, Slice.Eq.bytes_eq-Decides}}
use Rattle.std.specs.Prelude.{if◌then◌else◌}
use Rattle.serde_json.proofs.Views.{get_member-put}
use Rattle.serde_json.specs.{Data.{Data, object, Members, put}, Find.{get, get_member}}
use Rattle.cni_json.proofs.KeptMembers.{get-where}
use Rattle.cni_json.specs.Members.{text_data, list_data, ◌▷◌, put_if, put_object_unless_empty}
use Rattle.cni_result.proofs.Lookups.{at_other, at_other_if, at_other_object, at_key_if, at_key_object, object_member}
use Rattle.cni_result.specs.{Results.{version_data, result_data}, declared.cached.PortMapping.PortMapping}
use Rattle.cni_result.specs.declared.result.AddResult.{AddResult}
use Rattle.net_conf.specs.{RuntimeKeys.is_runtime_key, declared.list.NetList.NetList}
use Rattle.plugin_requests.specs.Request.{own_members, runtime_members, valid_data, valid_key}
use Rattle.pod_file.specs.declared.command.ValidAtt.{ValidAtt}

-- what a request is made of, with the mappings that go out
pub record Parts : Type 0 where
  pub list : NetList
  pub own : Data
  pub prev : Option AddResult
  pub mappings : List PortMapping
  pub valid : Option (List ValidAtt)

-- ---- a request, member by member

abbrev up_to_valid : Parts → Members
up_to_valid p = own_members p.own ▷ put_if (list_data valid_data) valid_key p.valid

abbrev up_to_version : Parts → Members
up_to_version p = up_to_valid p ▷ put (codes "cniVersion") (version_data p.list.version)

abbrev up_to_name : Parts → Members
up_to_name p = up_to_version p ▷ put (codes "name") (text_data p.list.name)

abbrev up_to_prev : Parts → Members
up_to_prev p = up_to_name p ▷ put_if result_data (codes "prevResult") p.prev

abbrev pub made : Parts → Data
made p = object (up_to_prev p ▷ put_object_unless_empty (codes "runtimeConfig") (runtime_members p.mappings))

-- ---- at a key that a runtime replaces

own_none : (q : List ℕ) (d : Data) → is_runtime_key q ≡ true → get_member q (own_members d) ≡ None
own_none q d runtime =
    get-where (λ key. not (is_runtime_key key)) q d ∙ ap (λ b. if not b then get q d else None) runtime

-- at another key than those of the first steps
before_name : (q : List ℕ) (p : Parts) → bytes_eq q (codes "name") ≡ false → bytes_eq q (codes "cniVersion") ≡ false
    → bytes_eq q valid_key ≡ false → get_member q (up_to_name p) ≡ get_member q (own_members p.own)
before_name q p name version valid =
    at_other q (codes "name") (text_data p.list.name) (up_to_version p) name
    ∙ at_other q (codes "cniVersion") (version_data p.list.version) (up_to_valid p) version
    ∙ at_other_if (list_data valid_data) q valid_key p.valid (own_members p.own) valid

-- at another key than those of the last steps
after_name : (q : List ℕ) (p : Parts) → bytes_eq q (codes "runtimeConfig") ≡ false
    → bytes_eq q (codes "prevResult") ≡ false → get q (made p) ≡ get_member q (up_to_name p)
after_name q p config prev =
    at_other_object q (codes "runtimeConfig") (runtime_members p.mappings) (up_to_prev p) config
    ∙ at_other_if result_data q (codes "prevResult") p.prev (up_to_name p) prev

pub at_version : (p : Parts) → get (codes "cniVersion") (made p) ≡ Some (version_data p.list.version)
at_version p =
    after_name (codes "cniVersion") p refl refl
    ∙ at_other (codes "cniVersion") (codes "name") (text_data p.list.name) (up_to_version p) refl
    ∙ get_member-put (codes "cniVersion") (version_data p.list.version) (up_to_valid p)

pub at_versions : (p : Parts) → get (codes "cniVersions") (made p) ≡ None
at_versions p =
    after_name (codes "cniVersions") p refl refl
    ∙ before_name (codes "cniVersions") p refl refl refl
    ∙ own_none (codes "cniVersions") p.own refl

pub at_name : (p : Parts) → get (codes "name") (made p) ≡ Some (text_data p.list.name)
at_name p =
    after_name (codes "name") p refl refl
    ∙ get_member-put (codes "name") (text_data p.list.name) (up_to_version p)

pub at_prev : (p : Parts) → get (codes "prevResult") (made p) ≡ option_map result_data p.prev
at_prev p =
    at_other_object (codes "prevResult") (codes "runtimeConfig") (runtime_members p.mappings) (up_to_prev p) refl
    ∙ at_key_if result_data (codes "prevResult") p.prev (up_to_name p)
    (before_name (codes "prevResult") p refl refl refl ∙ own_none (codes "prevResult") p.own refl)

pub at_config : (p : Parts) → get (codes "runtimeConfig") (made p) ≡ object_member (runtime_members p.mappings)
at_config p =
    at_key_object (codes "runtimeConfig") (runtime_members p.mappings) (up_to_prev p)
    (at_other_if result_data (codes "runtimeConfig") (codes "prevResult") p.prev (up_to_name p) refl
    ∙ before_name (codes "runtimeConfig") p refl refl refl
    ∙ own_none (codes "runtimeConfig") p.own refl)

pub at_valid : (p : Parts) → get valid_key (made p) ≡ option_map (list_data valid_data) p.valid
at_valid p =
    after_name valid_key p refl refl
    ∙ at_other valid_key (codes "name") (text_data p.list.name) (up_to_version p) refl
    ∙ at_other valid_key (codes "cniVersion") (version_data p.list.version) (up_to_valid p) refl
    ∙ at_key_if (list_data valid_data) valid_key p.valid (own_members p.own) (own_none valid_key p.own refl)

-- ---- at any other key

-- a key that a runtime replaces is none of the others
apart : (q k : List ℕ) → is_runtime_key q ≡ false → is_runtime_key k ≡ true → bytes_eq q k ≡ false
apart q k own runtime = decided (bytes_eq q k) refl
  where
    decided : (b : Bool) → bytes_eq q k ≡ b → b ≡ false
    decided true is =
        absurd (true≢false (sym runtime ∙ ap is_runtime_key (sym ((bytes_eq-Decides q k).0 is)) ∙ own))
    decided false is = refl

-- what the plugin's object has there is kept
pub at_own : (q : List ℕ) (p : Parts) → is_runtime_key q ≡ false → get q (made p) ≡ get q p.own
at_own q p own =
    after_name q p (apart q (codes "runtimeConfig") own refl) (apart q (codes "prevResult") own refl)
    ∙ before_name q p (apart q (codes "name") own refl) (apart q (codes "cniVersion") own refl)
    (apart q valid_key own refl)
    ∙ get-where (λ key. not (is_runtime_key key)) q p.own
    ∙ ap (λ b. if not b then get q p.own else None) own
