-- The configuration of the `macvlan` plugin, key by key in the order of its refusals.
use Rattle.std.specs.Prelude.{ℕ, List, [], ◌∷◌, codes, false, Result, Ok, ok_or}
use Rattle.serde_json.specs.Data.{Data}
use Rattle.cni_json.specs.{Fields.text_field, Outcome.◌>>=◌, declared.fields.Field.Field}
use Rattle.cni_addr.specs.{Modes.mode_named, declared.macvlan.MacvlanMode.{MacvlanMode, TheVariants.Bridge}}
use Rattle.net_conf.specs.{Accepted.{Row, all_supported}, Ipam.addressing_at, Members.{with_default, needed_text}}
use Rattle.net_conf.specs.{Members.mtu_at, Names.is_interface_name, declared.accepted.Accepted.TheVariants.IsFlag}
use Rattle.net_conf.specs.declared.{error.ConfError.ConfError, first.MacvlanConf.MacvlanConf}
use Rattle.net_conf.specs.declared.error.ConfError.TheVariants as refusal

-- keys that are not acted on
abbrev pub macvlan_rows : List Row
macvlan_rows = (codes "linkInContainer", IsFlag false) ∷ []

-- the host's interface that the link goes through
unfoldable pub master_at : Data → Result (List ℕ) ConfError
master_at d = needed_text (codes "master") is_interface_name (text_field (codes "master") d)

abbrev pub mode_of : Field (List ℕ) → Result MacvlanMode ConfError
mode_of f = with_default (codes "mode") Bridge (λ text. ok_or (mode_named text) (refusal.Invalid (codes "mode"))) f

-- the mode of the link
unfoldable pub mode_at : Data → Result MacvlanMode ConfError
mode_at d = mode_of (text_field (codes "mode") d)

-- the configuration that a `macvlan` plugin's object gives
unfoldable pub macvlan_at : Data → Result MacvlanConf ConfError
macvlan_at d = do
  _ ← all_supported macvlan_rows d
  master ← master_at d
  mode ← mode_at d
  mtu ← mtu_at d
  addressing ← addressing_at d
  Ok (record { master = master; mode = mode; mtu = mtu; ipam = addressing.ipam; dns = addressing.dns })
