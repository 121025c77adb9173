-- What leaves with a link.
use Rattle.std.specs.Prelude.{ℕ, Bool, false, ◌&&◌, ◌||◌, List, Option, Some, None, filter, not}
use Rattle.kernel_types.specs.{Terms.{is_at, is_own, is_owned, is_peer_at}, declared.object.{Att.Att, Host.Host}}
use Rattle.kernel_types.specs.declared.object.{Link.Link, LinkKey.LinkKey, Tag.{Tag, TheVariants.{Outside, Base, Own}}}

-- the link stands where the peer does
abbrev pub is_peer : Option LinkKey → Link → Bool
is_peer None link = false
is_peer (Some key) link = is_at key.ns key.name link

-- the link or its peer stands at this place
abbrev pub has_end_at : Link → List ℕ → List ℕ → Bool
has_end_at link ns name = is_at ns name link || is_peer_at ns name link.peer

-- what has this tag and place lies on the link, and no attachment owns it
abbrev pub is_unowned_on : Link → Tag → List ℕ → List ℕ → Bool
is_unowned_on link tag ns name = not (is_owned tag) && is_at ns name link

-- the host without what goes with a link that was taken out of it: its peer, and what of its owner's is on either; or
-- what no attachment owns on it
abbrev pub left_by_owner : Link → Att → Host → Host
left_by_owner link att host = record host {
  links = filter (λ l. not (is_peer link.peer l)) host.links;
  addresses = filter (λ a. not (is_own att a.tag && has_end_at link a.ns a.link)) host.addresses;
  routes = filter (λ r. not (is_own att r.tag && has_end_at link r.ns r.link)) host.routes;
}

abbrev pub left_unowned : Link → Host → Host
left_unowned link host = record host {
  addresses = filter (λ a. not (is_unowned_on link a.tag a.ns a.link)) host.addresses;
  routes = filter (λ r. not (is_unowned_on link r.tag r.ns r.link)) host.routes;
}

abbrev pub left_by : Link → Tag → Host → Host
left_by link Outside host = left_unowned link host
left_by link Base host = left_unowned link host
left_by link (Own att) host = left_by_owner link att host

abbrev pub left_with : Link → Host → Host
left_with link host = left_by link link.tag host
