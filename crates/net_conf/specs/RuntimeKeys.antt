-- The keys of a plugin's object that a runtime replaces in a request (CNI specification 1.1.0, section 3, "Deriving
-- execution configuration from plugin configuration").
use Rattle.std.specs.{List.{list_any, starts_with}, Prelude.{◌≡◌, ◌||◌, ℕ, List, [], ◌∷◌, codes, Bool, false, nat_eq}}
use Rattle.std.specs.Str.{bytes_eq}
use Rattle.serde_json.specs.{Data.Data, Find.get}
use Rattle.net_conf.specs.Sets.{is_object}

-- the keys that a runtime replaces, but for those that begin alike
abbrev pub runtime_keys : List (List ℕ)
runtime_keys =
    codes "cniVersion" ∷ codes "cniVersions" ∷ codes "name" ∷ codes "prevResult" ∷ codes "runtimeConfig" ∷ []

-- the key is one that a runtime replaces
abbrev pub is_runtime_key : List ℕ → Bool
is_runtime_key key = list_any (bytes_eq key) runtime_keys || starts_with nat_eq key (codes "cni.dev/")

-- both are objects or neither is, and they differ at no key but those that a runtime replaces
pub record HaveSameKeys (d e : Data) : Type 0 where
  pub object : is_object d ≡ is_object e
  pub members : (key : List ℕ) → is_runtime_key key ≡ false → get key d ≡ get key e
