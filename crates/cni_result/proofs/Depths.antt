-- How deep what is printed of a result nests: three objects and lists, far below what a reader takes.
use Rattle.std.proofs.Common.{ℕ, ◌≤◌, List, arith, rules}
use Rattle.std.specs.Prelude.{codes}
use Rattle.serde_json.specs.Data.{no_members, depth, members_depth}
use Rattle.cni_json.proofs.Depths.{members_depth-put, members_depth-put_if, members_depth-put_text, depth-list}
use Rattle.cni_json.proofs.Depths.{members_depth-put_list, members_depth-put_object, depth-object}
use Rattle.cni_json.specs.Members.{text_data, list_data}
use Rattle.cni_result.specs.Results.{version_data, interface_data, ip_data, route_data, dns_members, result_members}
use Rattle.cni_result.specs.{Results.result_data, declared.result.{AddResult.AddResult, Dns.Dns, Interface.Interface}}
use Rattle.cni_result.specs.declared.{result.{IpEntry.IpEntry, RouteEntry.RouteEntry}, version.Version.Version}

interface_depth : (version : Version) (i : Interface) → depth (interface_data version i) ≤ 1
unfolding interface_data
interface_depth version i = depth-object 0 _ (search (rules, members_depth-put, members_depth-put_if) depth 9)

ip_depth : (version : Version) (ip : IpEntry) → depth (ip_data version ip) ≤ 1
unfolding ip_data
ip_depth version ip = depth-object 0 _ (search (rules, members_depth-put_if) depth 9)

route_depth : (route : RouteEntry) → depth (route_data route) ≤ 1
unfolding route_data
route_depth route = depth-object 0 _ (search (rules, members_depth-put_if) depth 9)

text_depth : (text : List ℕ) → depth (text_data text) ≤ 0
text_depth text = omega arith

dns_depth : (dns : Dns) → members_depth (dns_members dns) ≤ 1
unfolding dns_members
dns_depth dns =
    let domain = members_depth-put_text 1 (codes "domain") dns.domain no_members (omega arith) in
    let nameservers = members_depth-put_list 0 text_data (codes "nameservers") dns.nameservers _ text_depth domain in
    let options = members_depth-put_list 0 text_data (codes "options") dns.options _ text_depth nameservers in
    members_depth-put_list 0 text_data (codes "search") dns.search _ text_depth options

-- at most three objects and lists nest
pub result_depth : (r : AddResult) → depth (result_data r) ≤ 3
unfolding result_members
result_depth r =
    let version =
    members_depth-put 2 (codes "cniVersion") (version_data r.version) no_members (omega arith) (omega arith) in
    let dns = members_depth-put_object 1 (codes "dns") (dns_members r.dns) _ (dns_depth r.dns) version in
    let interfaces =
    members_depth-put 2 (codes "interfaces") (list_data (interface_data r.version) r.interfaces) _
    (depth-list 1 (interface_data r.version) r.interfaces (interface_depth r.version)) dns in
    let ips = members_depth-put_list 1 (ip_data r.version) (codes "ips") r.ips _ (ip_depth r.version) interfaces in
    depth-object 2 _ (members_depth-put_list 1 route_data (codes "routes") r.routes _ route_depth ips)
