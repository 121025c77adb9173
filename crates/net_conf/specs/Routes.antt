-- Configured routes (the `host-local` plugin, `routes`).
use Rattle.std.specs.Prelude.{ℕ, List, codes, Result, Ok, Option, ok_or, option_map}
use Rattle.serde_json.specs.Data.{Data, Items}
use Rattle.cni_json.specs.{Each.list_or, Fields.{text_field, list_field, needed}, Outcome.◌>>=◌}
use Rattle.cni_json.specs.declared.fields.Field.{Field}
use Rattle.cni_addr.specs.{CidrText.cidr_of_text, Network.network_of, declared.address.{Addr.Addr, Cidr.Cidr}}
use Rattle.cni_addr.specs.declared.address.Family.{Family}
use Rattle.cni_result.specs.declared.result.RouteEntry.{RouteEntry}
use Rattle.net_conf.specs.{Members.addr_if_at, Ranges.is_address_of, Refusals.invalid}
use Rattle.net_conf.specs.declared.error.ConfError.{ConfError}
use Rattle.net_conf.specs.declared.error.ConfError.TheVariants as refusal

abbrev pub wrong_routes : {A : Type 0} → Result A ConfError
wrong_routes = invalid (codes "routes")

abbrev pub destination_of : Field (List ℕ) → Result Cidr ConfError
destination_of f =
    needed wrong_routes (λ text. ok_or (option_map network_of (cidr_of_text text)) (refusal.Invalid (codes "routes"))) f

-- the destination, its host bits cleared
unfoldable pub destination_at : Data → Result Cidr ConfError
destination_at d = destination_of (text_field (codes "dst") d)

-- the next hop, of the destination's family, if one is given
abbrev pub hop_at : Family → Data → Result (Option Addr) ConfError
hop_at family d = addr_if_at (codes "routes") (codes "gw") (is_address_of family) d

-- the members of a route's object; a value that is no object has no `dst`
unfoldable pub route_at : Data → Result RouteEntry ConfError
route_at d = do
  dst ← destination_at d
  gw ← hop_at dst.addr.family d
  Ok (record { dst = dst; gw = gw })

abbrev pub read_routes_of : Field Items → Result (List RouteEntry) ConfError
read_routes_of f = list_or wrong_routes route_at f

-- the routes, none where there is no list
unfoldable pub routes_at : Data → Result (List RouteEntry) ConfError
routes_at d = read_routes_of (list_field (codes "routes") d)
