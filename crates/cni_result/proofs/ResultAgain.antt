-- A result that was printed is read again.
use Rattle.std.proofs.Common.{◌≡◌, ℕ, ◌≤◌, List, [], ◌∷◌, Some, Ok, length, refl, ap, ◌∙◌, arith}
use Rattle.std.specs.{List.AllByRecursion, Prelude.codes}
use Rattle.serde_json.proofs.Views.{get_member-put}
use Rattle.serde_json.specs.{Data.{Data, object, Members, no_members, put, depth}, Find.{as_str, as_array}}
use Rattle.serde_json.specs.Read.{max_depth}
use Rattle.cni_json.specs.{Fields.{field_of, object_of}, Json.json_of, Members.{text_data, list_data, ◌▷◌}}
use Rattle.cni_json.specs.Members.{put_text_unless_empty, put_list_unless_empty, put_object_unless_empty}
use Rattle.cni_result.proofs.{Depths.result_depth, EntriesAgain.{interface_again, ip_again, route_again}}
use Rattle.cni_result.proofs.Lookups.{at_other, at_other_text, at_other_list, at_other_object, at_key_text, at_key_list}
use Rattle.cni_result.proofs.{Lookups.{at_key_object, list_member}, ReadAgain.{each_again, list_again, list_if_again}}
use Rattle.cni_result.proofs.ReadAgain.{domain_again, dns_again, everywhere, each_of}
use Rattle.cni_result.specs.Dns.{text_of, texts_of, texts_at, domain_of, domain_at, dns_members_at, dns_of}
use Rattle.cni_result.specs.{Dns.dns_of_object, Fields.{list_of, list_at}, Laws.{IsInterfaceOf, IsIpEntry}}
use Rattle.cni_result.specs.{Laws.{IsRouteEntry, IsReadable}, Reading.{version_of, version_at, interface_at}}
use Rattle.cni_result.specs.Reading.{interfaces_at, ip_at, ips_at, route_at, routes_at, indexes_at, result_at}
use Rattle.cni_result.specs.{Reading.result_of_bytes, Results.{version_data, interface_data, ip_data, route_data}}
use Rattle.cni_result.specs.Results.{dns_members, result_members, result_data}
use Rattle.cni_result.specs.declared.{refusal.ResultError.ResultError, result.{AddResult.AddResult, Dns.Dns}}
use Rattle.cni_result.specs.declared.version.Version.{Version, TheVariants.{V0_4, V1_0, V1_1}}
use Rattle.cni_result.specs.declared.refusal.ResultError.TheVariants as refusal

-- ---- name resolution

-- whatever is wrong in `dns`, it is to blame
abbrev wrong : ResultError
wrong = refusal.Invalid (codes "dns")

all_texts : (texts : List (List ℕ)) → AllByRecursion (λ t. text_of wrong (text_data t) ≡ Ok t) texts
all_texts texts = each_of (λ t. text_of wrong (text_data t) ≡ Ok t) texts (λ t. refl)

texts_again : (texts : List (List ℕ)) → texts_of wrong (field_of as_array (list_member text_data texts)) ≡ Ok texts
texts_again [] = refl
texts_again (text ∷ texts) = each_again text_data (text_of wrong) (text ∷ texts) (all_texts (text ∷ texts))

abbrev up_to_domain : Dns → Members
up_to_domain dns = no_members ▷ put_text_unless_empty (codes "domain") dns.domain

abbrev up_to_nameservers : Dns → Members
up_to_nameservers dns = up_to_domain dns ▷ put_list_unless_empty text_data (codes "nameservers") dns.nameservers

abbrev up_to_options : Dns → Members
up_to_options dns = up_to_nameservers dns ▷ put_list_unless_empty text_data (codes "options") dns.options

nameservers_again : (dns : Dns) → texts_at wrong (codes "nameservers") (object (dns_members dns)) ≡ Ok dns.nameservers
unfolding texts_at dns_members
nameservers_again dns =
    ap (λ g. texts_of wrong (field_of as_array g))
    (at_other_list text_data (codes "nameservers") (codes "search") dns.search (up_to_options dns) refl
    ∙ at_other_list text_data (codes "nameservers") (codes "options") dns.options (up_to_nameservers dns) refl
    ∙ at_key_list text_data (codes "nameservers") dns.nameservers (up_to_domain dns)
    (at_other_text (codes "nameservers") (codes "domain") dns.domain no_members refl))
    ∙ texts_again dns.nameservers

options_again : (dns : Dns) → texts_at wrong (codes "options") (object (dns_members dns)) ≡ Ok dns.options
unfolding texts_at dns_members
options_again dns =
    ap (λ g. texts_of wrong (field_of as_array g))
    (at_other_list text_data (codes "options") (codes "search") dns.search (up_to_options dns) refl
    ∙ at_key_list text_data (codes "options") dns.options (up_to_nameservers dns)
    (at_other_list text_data (codes "options") (codes "nameservers") dns.nameservers (up_to_domain dns) refl
    ∙ at_other_text (codes "options") (codes "domain") dns.domain no_members refl))
    ∙ texts_again dns.options

search_again : (dns : Dns) → texts_at wrong (codes "search") (object (dns_members dns)) ≡ Ok dns.search
unfolding texts_at dns_members
search_again dns =
    ap (λ g. texts_of wrong (field_of as_array g))
    (at_key_list text_data (codes "search") dns.search (up_to_options dns)
    (at_other_list text_data (codes "search") (codes "options") dns.options (up_to_nameservers dns) refl
    ∙ at_other_list text_data (codes "search") (codes "nameservers") dns.nameservers (up_to_domain dns) refl
    ∙ at_other_text (codes "search") (codes "domain") dns.domain no_members refl))
    ∙ texts_again dns.search

domain_at_again : (dns : Dns) → domain_at wrong (object (dns_members dns)) ≡ Ok dns.domain
unfolding domain_at dns_members
domain_at_again dns =
    ap (λ g. domain_of wrong (field_of as_str g))
    (at_other_list text_data (codes "domain") (codes "search") dns.search (up_to_options dns) refl
    ∙ at_other_list text_data (codes "domain") (codes "options") dns.options (up_to_nameservers dns) refl
    ∙ at_other_list text_data (codes "domain") (codes "nameservers") dns.nameservers (up_to_domain dns) refl
    ∙ at_key_text (codes "domain") dns.domain no_members refl)
    ∙ domain_again wrong dns.domain

dns_members_again : (dns : Dns) → dns_members_at wrong (object (dns_members dns)) ≡ Ok dns
unfolding dns_members_at
dns_members_again dns = rw (nameservers_again dns, domain_at_again dns, search_again dns, options_again dns) refl

-- ---- the members of a result

abbrev up_to_version : AddResult → Members
up_to_version r = no_members ▷ put (codes "cniVersion") (version_data r.version)

abbrev up_to_dns : AddResult → Members
up_to_dns r = up_to_version r ▷ put_object_unless_empty (codes "dns") (dns_members r.dns)

abbrev up_to_interfaces : AddResult → Members
up_to_interfaces r = up_to_dns r ▷ put (codes "interfaces") (list_data (interface_data r.version) r.interfaces)

abbrev up_to_ips : AddResult → Members
up_to_ips r = up_to_interfaces r ▷ put_list_unless_empty (ip_data r.version) (codes "ips") r.ips

version_named_again : (version : Version) → version_of (field_of as_str (Some (version_data version))) ≡ Ok version
version_named_again V0_4 = refl
version_named_again V1_0 = refl
version_named_again V1_1 = refl

version_again : (r : AddResult) → version_at (result_data r) ≡ Ok r.version
unfolding version_at result_members
version_again r =
    ap (λ g. version_of (field_of as_str g))
    (at_other_list route_data (codes "cniVersion") (codes "routes") r.routes (up_to_ips r) refl
    ∙ at_other_list (ip_data r.version) (codes "cniVersion") (codes "ips") r.ips (up_to_interfaces r) refl
    ∙ at_other (codes "cniVersion") (codes "interfaces") (list_data (interface_data r.version) r.interfaces)
    (up_to_dns r) refl
    ∙ at_other_object (codes "cniVersion") (codes "dns") (dns_members r.dns) (up_to_version r) refl
    ∙ get_member-put (codes "cniVersion") (version_data r.version) no_members)
    ∙ version_named_again r.version

interfaces_again : (r : AddResult) → IsReadable r → interfaces_at r.version (result_data r) ≡ Ok r.interfaces
unfolding interfaces_at list_at result_members
interfaces_again r kept =
    let all =
    everywhere (IsInterfaceOf r.version) (λ i. interface_at r.version (interface_data r.version i) ≡ Ok i) r.interfaces
    (interface_again r.version) kept.interfaces in
    ap (λ g. list_of (codes "interfaces") (interface_at r.version) (field_of as_array g))
    (at_other_list route_data (codes "interfaces") (codes "routes") r.routes (up_to_ips r) refl
    ∙ at_other_list (ip_data r.version) (codes "interfaces") (codes "ips") r.ips (up_to_interfaces r) refl
    ∙ get_member-put (codes "interfaces") (list_data (interface_data r.version) r.interfaces) (up_to_dns r))
    ∙ list_again (codes "interfaces") (interface_data r.version) (interface_at r.version) r.interfaces all

ips_again : (r : AddResult) → IsReadable r → ips_at r.version (result_data r) ≡ Ok r.ips
unfolding ips_at list_at result_members
ips_again r kept =
    let all =
    everywhere IsIpEntry (λ ip. ip_at r.version (ip_data r.version ip) ≡ Ok ip) r.ips (ip_again r.version) kept.ips in
    ap (λ g. list_of (codes "ips") (ip_at r.version) (field_of as_array g))
    (at_other_list route_data (codes "ips") (codes "routes") r.routes (up_to_ips r) refl
    ∙ at_key_list (ip_data r.version) (codes "ips") r.ips (up_to_interfaces r)
    (at_other (codes "ips") (codes "interfaces") (list_data (interface_data r.version) r.interfaces) (up_to_dns r) refl
    ∙ at_other_object (codes "ips") (codes "dns") (dns_members r.dns) (up_to_version r) refl
    ∙ at_other (codes "ips") (codes "cniVersion") (version_data r.version) no_members refl))
    ∙ list_if_again (codes "ips") (ip_data r.version) (ip_at r.version) r.ips all

routes_again : (r : AddResult) → IsReadable r → routes_at (result_data r) ≡ Ok r.routes
unfolding routes_at list_at result_members
routes_again r kept =
    let all =
    everywhere IsRouteEntry (λ route. route_at (route_data route) ≡ Ok route) r.routes route_again kept.routes in
    ap (λ g. list_of (codes "routes") route_at (field_of as_array g))
    (at_key_list route_data (codes "routes") r.routes (up_to_ips r)
    (at_other_list (ip_data r.version) (codes "routes") (codes "ips") r.ips (up_to_interfaces r) refl
    ∙ at_other (codes "routes") (codes "interfaces") (list_data (interface_data r.version) r.interfaces)
    (up_to_dns r) refl
    ∙ at_other_object (codes "routes") (codes "dns") (dns_members r.dns) (up_to_version r) refl
    ∙ at_other (codes "routes") (codes "cniVersion") (version_data r.version) no_members refl))
    ∙ list_if_again (codes "routes") route_data route_at r.routes all

dns_at_again : (r : AddResult) → dns_of_object wrong (result_data r) ≡ Ok r.dns
unfolding dns_of_object result_members
dns_at_again r =
    ap (λ g. dns_of wrong (field_of object_of g))
    (at_other_list route_data (codes "dns") (codes "routes") r.routes (up_to_ips r) refl
    ∙ at_other_list (ip_data r.version) (codes "dns") (codes "ips") r.ips (up_to_interfaces r) refl
    ∙ at_other (codes "dns") (codes "interfaces") (list_data (interface_data r.version) r.interfaces) (up_to_dns r) refl
    ∙ at_key_object (codes "dns") (dns_members r.dns) (up_to_version r)
    (at_other (codes "dns") (codes "cniVersion") (version_data r.version) no_members refl))
    ∙ dns_again wrong r.dns (dns_members r.dns) (dns_members_again r.dns)

indexes_again : (r : AddResult) → IsReadable r → indexes_at (length r.interfaces) r.ips ≡ Ok tt
unfolding indexes_at
indexes_again r kept = rw kept.indexes refl

-- a result is read again, where its parts fit its version
pub result_again : (r : AddResult) → IsReadable r → result_at (result_data r) ≡ Ok r
unfolding result_at
result_again r kept =
    rw (
      version_again r,
      interfaces_again r kept,
      ips_again r kept,
      routes_again r kept,
      dns_at_again r,
      indexes_again r kept,
    ) refl

-- a line whose reading is what was printed of a result is read as the result
pub line_again : (text : List ℕ) (d : Data) (r : AddResult) → d ≡ result_data r
    → (depth d ≤ max_depth → json_of text ≡ Ok d) → IsReadable r → result_of_bytes text ≡ Ok r
unfolding result_of_bytes
line_again text d r is again kept =
    let shallow : depth d ≤ max_depth = rw is (omega (arith, result_depth r)) in
    let printed : json_of text ≡ Ok (result_data r) = again shallow ∙ ap Ok is in
    rw printed (result_again r kept)
