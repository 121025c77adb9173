-- The version of a network list, which two keys name (CNI specification 1.1.0, section 1, `cniVersion` and
-- `cniVersions`).
use Rattle.std.specs.{List.list_any, Prelude.{ℕ, List, [], ◌∷◌, ◌++◌, codes, reverse, Bool, Option, find, Result, Ok}}
use Rattle.std.specs.{Prelude.ok_or, Str.bytes_eq}
use Rattle.serde_json.specs.Data.{Data}
use Rattle.cni_json.specs.{Fields.{text_field, member_or}, Outcome.◌>>=◌, declared.fields.Field.Field}
use Rattle.cni_result.specs.{Dns.texts_at, Versions.{known_versions, version_text}, declared.version.Version.Version}
use Rattle.net_conf.specs.{Refusals.invalid, declared.error.ConfError.ConfError}
use Rattle.net_conf.specs.declared.error.ConfError.TheVariants as refusal

abbrev pub single_version_of : Field (List ℕ) → Result (List (List ℕ)) ConfError
single_version_of f = member_or (Ok []) (invalid (codes "cniVersion")) (λ text. Ok (text ∷ [])) f

-- the text of `cniVersion`, if there is one
unfoldable pub single_version_at : Data → Result (List (List ℕ)) ConfError
single_version_at d = single_version_of (text_field (codes "cniVersion") d)

-- the texts of `cniVersions`
unfoldable pub listed_versions_at : Data → Result (List (List ℕ)) ConfError
listed_versions_at d = texts_at (refusal.Invalid (codes "cniVersions")) (codes "cniVersions") d

-- the text of `cniVersion`, if there is one, and then those of `cniVersions`
unfoldable pub version_texts_at : Data → Result (List (List ℕ)) ConfError
version_texts_at d = do
  single ← single_version_at d
  listed ← listed_versions_at d
  Ok (single ++ listed)

-- one of the texts names the version
abbrev pub names : List (List ℕ) → Version → Bool
names texts version = list_any (λ text. bytes_eq text (version_text version)) texts

-- the newest version, of those that are known, that one of the texts names
abbrev pub newest_named : List (List ℕ) → Option Version
newest_named texts = find (names texts) (reverse known_versions)

abbrev pub first_or_empty : List (List ℕ) → List ℕ
first_or_empty [] = []
first_or_empty (text ∷ texts) = text

abbrev pub version_of : List (List ℕ) → Result Version ConfError
version_of texts = ok_or (newest_named texts) (refusal.Version (first_or_empty texts))

-- the version that the plugins are asked in
unfoldable pub version_at : Data → Result Version ConfError
version_at d = version_texts_at d >>= version_of
