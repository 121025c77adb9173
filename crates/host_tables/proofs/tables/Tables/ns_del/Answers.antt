use Rattle.std.proofs.Common.{◌≡◌, ◌∙◌, ap, not, true, rules}
use Rattle.std.specs.{Prelude.filter, Str.bytes_eq}
use Rattle.kernel_types.specs.{Terms.has_named_ns, declared.{call.Reply.TheVariants.Done, object.Host.Host}}
use Rattle.kernel_types.specs.declared.object.{NsObj.NsObj, Setting.Setting}
use Rattle.object_tables.specs.{Rows.inner_ns, Table.is_key}
use Rattle.host_tables.proofs.Namespaces.{inner-named, ns-leaves}
use Rattle.host_tables.proofs.tables.Tables.ns_del.Goals as goal

pub returns : goal.returns
returns c =
    let name = c.args.name.now in
    let host : Host = c.args.self.now in
    let named : has_named_ns host name ≡ true = search rules in
    let inner = inner-named host c.requires name named in
    let t = c.self.inside in
    let left : Host = c.drop_links_in.new.self in
    let namespaces : c.take.new.self ≡ filter (λ (n : NsObj). not (bytes_eq n.name name)) t.namespaces =
    c.take.ensures.rest in
    let settings : c.remove_at.new.self
    ≡ filter (λ (s : Setting). not (is_key bytes_eq (inner_ns s.ns) name)) t.settings =
    c.remove_at.ensures in
    let whole : record {
      namespaces = c.take.new.self;
      links = t.links;
      addresses = t.addresses;
      routes = t.routes;
      rules = t.rules;
      settings = c.remove_at.new.self;
      leases = t.leases;
      cached = t.cached;
      lasts = t.lasts;
    }
    ≡ record left {
      namespaces = filter (λ (n : NsObj). not (bytes_eq n.name name)) left.namespaces;
      settings = filter (λ (s : Setting). not (is_key bytes_eq (inner_ns s.ns) name)) left.settings;
    } =
    rw (← c.self.view_is) (λ i.
    record {
      namespaces = namespaces i;
      links = t.links;
      addresses = t.addresses;
      routes = t.routes;
      rules = t.rules;
      settings = settings i;
      leases = t.leases;
      cached = t.cached;
      lasts = t.lasts;
    }) in
    ap (λ h. (h, Done)) whole ∙ ns-leaves name inner host c.requires named left c.drop_links_in.ensures
