-- The configuration of the `ptp` plugin, key by key in the order of its refusals.
use Rattle.std.specs.Prelude.{codes, false, Result, Ok, ok_or}
use Rattle.serde_json.specs.Data.{Data}
use Rattle.cni_json.specs.Outcome.{◌>>=◌}
use Rattle.net_conf.specs.{Ipam.addressing_at, Members.{flag_at, mtu_at}, declared.error.ConfError.ConfError}
use Rattle.net_conf.specs.declared.first.PtpConf.{PtpConf}
use Rattle.net_conf.specs.declared.error.ConfError.TheVariants as refusal

-- the configuration that a `ptp` plugin's object gives; a pair of ends without addresses would lead nowhere
unfoldable pub ptp_at : Data → Result PtpConf ConfError
ptp_at d = do
  masq ← flag_at (codes "ipMasq") false d
  mtu ← mtu_at d
  addressing ← addressing_at d
  ipam ← ok_or addressing.ipam (refusal.Invalid (codes "ipam"))
  Ok (record { ip_masq = masq; mtu = mtu; ipam = ipam; dns = addressing.dns })
