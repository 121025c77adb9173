-- The configuration of the `tuning` plugin, key by key in the order of its refusals.
use Rattle.std.specs.{List.starts_with, Prelude.{◌||◌, ℕ, List, [], ◌∷◌, codes, Bool, false, nat_eq, not}}
use Rattle.std.specs.{Prelude.{if◌then◌else◌, Result, Ok, Err, Option, Some, None, ok_or, option_map}, Str.bytes_eq}
use Rattle.serde_json.specs.{Data.{Data, string, object, Members, no_members, member}, Written.compact_text}
use Rattle.cni_json.specs.{Fields.{member_at, text_field, u32_field}, Outcome.◌>>=◌, declared.fields.Field.Field}
use Rattle.cni_addr.specs.{MacText.mac_of_text, declared.mac.Mac.Mac}
use Rattle.net_conf.specs.{Members.{is_null, with_default, flag_at, given_mtu_at}, Refusals.invalid}
use Rattle.net_conf.specs.declared.{chained.{Sysctl.Sysctl, TuningConf.TuningConf}, error.ConfError.ConfError}
use Rattle.net_conf.specs.declared.error.ConfError.TheVariants as refusal

-- the part stands somewhere in the text; it is not empty
abbrev pub has_part : List ℕ → List ℕ → Bool
has_part part [] = false
has_part part (c ∷ cs) = starts_with nat_eq (c ∷ cs) part || has_part part cs

-- the key of a setting of the network
abbrev pub is_network_setting : List ℕ → Bool
is_network_setting key = starts_with nat_eq key (codes "net.")

-- a setting of the network, whose key doesn't wait for an interface's name
abbrev pub setting_or_refused : List ℕ → List ℕ → Result Sysctl ConfError
setting_or_refused key value =
    if not (is_network_setting key) then invalid (codes "sysctl")
    else if has_part (codes "IFNAME") key then Err (refusal.Unsupported key (compact_text (string value)))
    else Ok (record { key = key; value = value })

abbrev pub read_setting_of : List ℕ → Data → Result Sysctl ConfError
read_setting_of key (string value) = setting_or_refused key value
read_setting_of key d = invalid (codes "sysctl")

-- the settings in the order of their keys; a member that is null is as an absent one
abbrev pub settings_of : Members → Result (List Sysctl) ConfError
settings_of no_members = Ok []
settings_of (member key d ms) = if is_null d then settings_of ms else (do
  first ← read_setting_of key d
  rest ← settings_of ms
  Ok (first ∷ rest))

abbrev pub sysctl_of : Option Data → Result (List Sysctl) ConfError
sysctl_of None = Ok []
sysctl_of (Some (object ms)) = settings_of ms
sysctl_of (Some d) = invalid (codes "sysctl")

-- the settings of the container's namespace
unfoldable pub sysctl_at : Data → Result (List Sysctl) ConfError
sysctl_at d = sysctl_of (member_at (codes "sysctl") d)

abbrev pub new_mac_value : List ℕ → Result (Option Mac) ConfError
new_mac_value text =
    if bytes_eq text [] then Ok None else ok_or (option_map Some (mac_of_text text)) (refusal.Invalid (codes "mac"))

abbrev pub new_mac_of : Field (List ℕ) → Result (Option Mac) ConfError
new_mac_of f = with_default (codes "mac") None new_mac_value f

-- the new hardware address; the empty text is none
unfoldable pub new_mac_at : Data → Result (Option Mac) ConfError
new_mac_at d = new_mac_of (text_field (codes "mac") d)

abbrev pub queue_length_of : Field ℕ → Result (Option ℕ) ConfError
queue_length_of f = with_default (codes "txQLen") None (λ n. Ok (Some n)) f

-- the new length of the transmit queue, a number of 32 bits
unfoldable pub queue_length_at : Data → Result (Option ℕ) ConfError
queue_length_at d = queue_length_of (u32_field (codes "txQLen") d)

-- the configuration that a `tuning` plugin's object gives
unfoldable pub tuning_at : Data → Result TuningConf ConfError
tuning_at d = do
  sysctl ← sysctl_at d
  mac ← new_mac_at d
  mtu ← given_mtu_at d
  promisc ← flag_at (codes "promisc") false d
  allmulti ← flag_at (codes "allmulti") false d
  queue ← queue_length_at d
  Ok (record { sysctl = sysctl; mac = mac; mtu = mtu; promisc = promisc; allmulti = allmulti; tx_qlen = queue })
