-- How many deletions take away what an attachment has.
use Rattle.std.specs.Prelude.{ℕ, ◌+◌, not, List, length, filter}
use Rattle.kernel_types.specs.{Terms.is_host_ns, declared.object.Link.Link}
use Rattle.plugin_base.specs.Share.{Share}

-- Links that aren't in the host's own namespace. One that is there is one end of a veth pair, and goes with the other
-- end.
abbrev pub inner_links : List Link → List Link
inner_links links = filter (λ l. not (is_host_ns l.ns)) links

-- how many deletions take all of a share away, a pair of links as one. Addresses and routes go with their links.
abbrev pub deletions_of : Share → ℕ
deletions_of s = length (inner_links s.links) + length s.rules + length s.settings + length s.leases + length s.cached
