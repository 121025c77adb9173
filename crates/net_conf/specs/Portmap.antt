-- The configuration of the `portmap` plugin, key by key in the order of its refusals.
use Rattle.std.specs.Prelude.{List, [], ◌∷◌, codes, Bool, true, false, Result, Ok}
use Rattle.serde_json.specs.Data.{Data}
use Rattle.cni_json.specs.{Fields.object_field, Outcome.◌>>=◌, declared.fields.Field.Field}
use Rattle.net_conf.specs.{Accepted.{Row, all_supported}, Members.{with_default, flag_at, flag_within}}
use Rattle.net_conf.specs.declared.accepted.Accepted.TheVariants.{AnyNumber, EmptyList, EmptyText, Backend}
use Rattle.net_conf.specs.declared.{chained.PortmapConf.PortmapConf, error.ConfError.ConfError}

-- keys that are not acted on
abbrev pub portmap_rows : List Row
portmap_rows =
    (codes "conditionsV4", EmptyList) ∷ (codes "conditionsV6", EmptyList) ∷ (codes "markMasqBit", AnyNumber)
    ∷ (codes "externalSetMarkChain", EmptyText) ∷ (codes "backend", Backend) ∷ []

abbrev pub mappings_flag : Field Data → Result Bool ConfError
mappings_flag f =
    with_default (codes "capabilities") false (flag_within (codes "capabilities") (codes "portMappings") false) f

-- whether the plugin is to get the port mappings
unfoldable pub takes_mappings_at : Data → Result Bool ConfError
takes_mappings_at d = mappings_flag (object_field (codes "capabilities") d)

-- the configuration that a `portmap` plugin's object gives
unfoldable pub portmap_at : Data → Result PortmapConf ConfError
portmap_at d = do
  _ ← all_supported portmap_rows d
  mappings ← takes_mappings_at d
  snat ← flag_at (codes "snat") true d
  Ok (record { mappings = mappings; snat = snat })
