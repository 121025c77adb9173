use Rattle.std.proofs.Common.{codes, rules}
use Rattle.net_conf.specs.Routes.{routes_at, route_at}
use Rattle.net_conf.specs.declared.error.ConfError.TheVariants as refusal
use Rattle.net_conf.proofs.routes.routes.Goals as goal

pub returns : goal.returns
unfolding routes_at
returns c =
    c.read_list_or.ensures (refusal.Invalid (codes "routes")) (record { tells = λ e is. search rules }) route_at
    (record { gives = λ member r is. search rules })
