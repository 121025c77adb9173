use Rattle.std.proofs.Common.{◌≡◌, ◌&&◌, rules, ◌∙◌}
use Rattle.std.specs.{Option.option_eq, Str.bytes_eq}
use Rattle.kernel_types.specs.Equal.{addr_eq, cidr_eq, tag_eq}
use Rattle.kernel_model.proofs.RouteTests.{five_tests}
use Rattle.kernel_model.proofs.compared.RouteObjCompared.is_same.Goals as goal

pub returns : goal.returns
returns c =
    let a = c.args.self.now in
    let b = c.args.other.now in
    let right : c.eq.result ≡ (bytes_eq a.ns b.ns
    && (cidr_eq a.dst b.dst && (bytes_eq a.link b.link && (option_eq addr_eq a.gw b.gw && tag_eq a.tag b.tag)))) =
    search rules in
    right ∙ five_tests (bytes_eq a.ns b.ns) (cidr_eq a.dst b.dst) (bytes_eq a.link b.link) (option_eq addr_eq a.gw b.gw)
    (tag_eq a.tag b.tag)
