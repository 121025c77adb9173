use Rattle.std.proofs.Common.{◌∙◌, ap, sym}
use Rattle.std.specs.Str.{bytes_eq}
use Rattle.ip_pool.specs.NextAddress.{is_taken}
use Rattle.kernel_types.specs.Terms.{addresses_in}
use Rattle.host_tables.proofs.Opening.{addr-aliases, addr-keys, cached-keys, last-keys, lease-keys, link-aliases}
use Rattle.host_tables.proofs.Opening.{link-keys, namespace-keys, once-none, route-aliases, route-keys, rule-keys}
use Rattle.host_tables.proofs.Opening.{setting-aliases, setting-keys}
use Rattle.host_tables.proofs.tables.Tables.of_host.Goals as goal

pub of_rows-requires : goal.of_rows-requires
of_rows-requires c = record {
  keys = namespace-keys c.args.host.namespaces c.requires.namespaces.keys;
  aliases = once-none bytes_eq c.args.host.namespaces;
}

pub of_rows-requires-2 : goal.of_rows-requires-2
of_rows-requires-2 c = record {
  keys = link-keys c.args.host.links c.requires.links.keys;
  aliases = link-aliases c.args.host.links c.requires.links.keys;
}

pub of_rows-requires-3 : goal.of_rows-requires-3
of_rows-requires-3 c = record {
  keys = addr-keys c.args.host.addresses c.requires.addresses.keys;
  aliases = addr-aliases c.args.host.addresses c.requires.addresses.keys;
}

pub of_rows-requires-4 : goal.of_rows-requires-4
of_rows-requires-4 c = record {
  keys = route-keys c.args.host.routes c.requires.routes.keys;
  aliases = route-aliases c.args.host.routes c.requires.routes.keys;
}

pub of_rows-requires-5 : goal.of_rows-requires-5
of_rows-requires-5 c = record {
  keys = rule-keys c.args.host.rules c.requires.rules.keys;
  aliases = once-none bytes_eq c.args.host.rules;
}

pub of_rows-requires-6 : goal.of_rows-requires-6
of_rows-requires-6 c = record {
  keys = setting-keys c.args.host.settings c.requires.settings.keys;
  aliases = setting-aliases c.args.host.settings c.requires.settings.keys;
}

pub of_rows-requires-7 : goal.of_rows-requires-7
of_rows-requires-7 c = record {
  keys = lease-keys c.args.host.leases c.requires.leases.keys;
  aliases = once-none bytes_eq c.args.host.leases;
}

pub of_rows-requires-8 : goal.of_rows-requires-8
of_rows-requires-8 c = record {
  keys = cached-keys c.args.host.cached c.requires.cached.keys;
  aliases = once-none bytes_eq c.args.host.cached;
}

pub of_rows-requires-9 : goal.of_rows-requires-9
of_rows-requires-9 c = record {
  keys = last-keys c.args.host.lasts c.requires.lasts.keys;
  aliases = once-none bytes_eq c.args.host.lasts;
}

pub invariant_of-result : goal.invariant_of-result
invariant_of-result c network addr =
    c.in_ok-leased.ensures network addr
    ∙ ap (λ leases. is_taken (addresses_in leases network) addr) (c.as_slice.ensures ∙ sym c.in_ok-of_rows-7.ensures)
