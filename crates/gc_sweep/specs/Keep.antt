-- What a GC keeps (CNI specification, section 2, "GC", `cni.dev/valid-attachments`), and hosts that
-- only lost objects.
use Rattle.std.specs.{Prelude.{◌≡◌, ℕ, Bool, true, not, ◌||◌, List, filter}, Str.bytes_eq}
use Rattle.kernel_types.specs.{Touch.DropsOnly, declared.object.{Host.Host, Tag.{Tag, TheVariants.{Outside, Base}}}}
use Rattle.kernel_types.specs.declared.object.Tag.TheVariants.{Own}
use Rattle.cni_verbs.specs.Sweep.{is_valid}
use Rattle.pod_file.specs.declared.command.ValidAtt.{ValidAtt}

-- an object of this tag is kept: it is none of an attachment of this network that the valid list leaves out
abbrev pub stays : List ℕ → List ValidAtt → Tag → Bool
stays network valid Outside = true
stays network valid Base = true
stays network valid (Own att) = not (bytes_eq att.network network) || is_valid valid att

abbrev pub goes : List ℕ → List ValidAtt → Tag → Bool
goes network valid tag = not (stays network valid tag)

-- the host without the objects of stale attachments; the lasts stay. The code never makes it: it lists owners and
-- deletes single objects.
abbrev pub keep : List ℕ → List ValidAtt → Host → Host
keep network valid host = record host {
  namespaces = filter (λ n. stays network valid n.tag) host.namespaces;
  links = filter (λ l. stays network valid l.tag) host.links;
  addresses = filter (λ a. stays network valid a.tag) host.addresses;
  routes = filter (λ r. stays network valid r.tag) host.routes;
  rules = filter (λ r. stays network valid r.tag) host.rules;
  settings = filter (λ s. stays network valid s.tag) host.settings;
  leases = filter (λ l. stays network valid l.tag) host.leases;
  cached = filter (λ c. stays network valid c.tag) host.cached;
}

-- namespaces and lasts aside: objects are removed, whoever owns them, and none is made or changed
pub record OnlyRemoves (old new : Host) : Type 0 where
  pub links : DropsOnly (λ l. true) old.links new.links
  pub addresses : DropsOnly (λ a. true) old.addresses new.addresses
  pub routes : DropsOnly (λ r. true) old.routes new.routes
  pub rules : DropsOnly (λ r. true) old.rules new.rules
  pub settings : DropsOnly (λ s. true) old.settings new.settings
  pub leases : DropsOnly (λ l. true) old.leases new.leases
  pub cached : DropsOnly (λ c. true) old.cached new.cached

-- the first host is the second without some of its objects; namespaces and lasts are equal
pub record IsWithin (small big : Host) : Type 0 where
  pub namespaces : small.namespaces ≡ big.namespaces
  pub removes : OnlyRemoves big small
  pub lasts : small.lasts ≡ big.lasts
