-- The configuration of the `firewall` plugin.
use Rattle.std.specs.Prelude.{List, [], ◌∷◌, codes, Result, Ok}
use Rattle.serde_json.specs.Data.{Data}
use Rattle.cni_json.specs.Outcome.{◌>>=◌}
use Rattle.net_conf.specs.{Accepted.{Row, all_supported}, declared.accepted.Accepted.TheVariants.{AnyText, Backend}}
use Rattle.net_conf.specs.declared.{accepted.Accepted.TheVariants.OpenPolicy, chained.FirewallConf.FirewallConf}
use Rattle.net_conf.specs.declared.error.ConfError.{ConfError}

-- keys that are not acted on
abbrev pub firewall_rows : List Row
firewall_rows =
    (codes "backend", Backend) ∷ (codes "iptablesAdminChainName", AnyText) ∷ (codes "ingressPolicy", OpenPolicy) ∷ []

-- the configuration that a `firewall` plugin's object gives
unfoldable pub firewall_at : Data → Result FirewallConf ConfError
firewall_at d = do
  _ ← all_supported firewall_rows d
  Ok (record {})
