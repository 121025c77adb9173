-- Links that leave by their own place, and by a place that is named.
use Rattle.std.proofs.{Common.{◌≡◌, true, Some, refl, arith}, lemmas.Slice.Eq.bytes_eq-Decides}
use Rattle.kernel_types.specs.{Apply.Calls.{goes_with, without_links, drop_link_of}, Terms.{is_at, has_named_ns}}
use Rattle.kernel_types.specs.{Terms.link_at, declared.{call.Reply.TheVariants.Gone, object.{Host.Host, Link.Link}}}
use Rattle.kernel_types.specs.declared.object.LinkKey.{LinkKey}
use Rattle.kernel_types.proofs.ListLemmas.{passes-find}

pub drop_link-found : (host : Host) (key : LinkKey) (link : Link) → has_named_ns host key.ns ≡ true
    → link_at host key.ns key.name ≡ Some link
    → (without_links (goes_with key.ns key.name) host, Gone true) ≡ drop_link_of host key
drop_link-found host key link named found =
    let here = passes-find (is_at key.ns key.name) host.links link found in
    let ns : link.ns ≡ key.ns = (bytes_eq-Decides link.ns key.ns).0 (grind (arith, here)) in
    let name : link.name ≡ key.name = (bytes_eq-Decides link.name key.name).0 (grind (arith, here)) in
    rw (named, found, ns, name) refl
