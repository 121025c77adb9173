-- A host of which one list is changed.
use Rattle.std.proofs.Common.{List, refl}
use Rattle.kernel_types.specs.Sound.{IsSound, AreAddresses, AreRoutes, AreRules, AreSettings, AreLeases, AreCached}
use Rattle.kernel_types.specs.{Sound.AreLasts, Terms.is_own, Touch.{ChangesOnly, TouchesOwn, TouchesOwnAlone}}
use Rattle.kernel_types.specs.declared.object.{AddrObj.AddrObj, Att.Att, CachedObj.CachedObj, Host.Host, Last.Last}
use Rattle.kernel_types.specs.declared.object.{Lease.Lease, Link.Link, RouteObj.RouteObj, Setting.Setting}
use Rattle.kernel_types.specs.declared.rule.Rule.{Rule}
use Rattle.kernel_types.proofs.ChangeLemmas.{ChangesOnly-nothing}

-- ---- the host stays sound where that list does

pub IsSound-with_addresses : (host : Host) (xs : List AddrObj) → IsSound host → AreAddresses host.links xs
    → IsSound (record host { addresses = xs })
IsSound-with_addresses host xs sound new =
    record {
      namespaces = sound.namespaces;
      links = sound.links;
      addresses = new;
      routes = sound.routes;
      rules = sound.rules;
      settings = sound.settings;
      leases = sound.leases;
      cached = sound.cached;
      lasts = sound.lasts;
    }

pub IsSound-with_routes : (host : Host) (xs : List RouteObj) → IsSound host → AreRoutes host.links xs
    → IsSound (record host { routes = xs })
IsSound-with_routes host xs sound new =
    record {
      namespaces = sound.namespaces;
      links = sound.links;
      addresses = sound.addresses;
      routes = new;
      rules = sound.rules;
      settings = sound.settings;
      leases = sound.leases;
      cached = sound.cached;
      lasts = sound.lasts;
    }

pub IsSound-with_rules : (host : Host) (xs : List Rule) → IsSound host → AreRules xs
    → IsSound (record host { rules = xs })
IsSound-with_rules host xs sound new =
    record {
      namespaces = sound.namespaces;
      links = sound.links;
      addresses = sound.addresses;
      routes = sound.routes;
      rules = new;
      settings = sound.settings;
      leases = sound.leases;
      cached = sound.cached;
      lasts = sound.lasts;
    }

pub IsSound-with_settings : (host : Host) (xs : List Setting) → IsSound host → AreSettings host.namespaces xs
    → IsSound (record host { settings = xs })
IsSound-with_settings host xs sound new =
    record {
      namespaces = sound.namespaces;
      links = sound.links;
      addresses = sound.addresses;
      routes = sound.routes;
      rules = sound.rules;
      settings = new;
      leases = sound.leases;
      cached = sound.cached;
      lasts = sound.lasts;
    }

pub IsSound-with_leases : (host : Host) (xs : List Lease) → IsSound host → AreLeases xs
    → IsSound (record host { leases = xs })
IsSound-with_leases host xs sound new =
    record {
      namespaces = sound.namespaces;
      links = sound.links;
      addresses = sound.addresses;
      routes = sound.routes;
      rules = sound.rules;
      settings = sound.settings;
      leases = new;
      cached = sound.cached;
      lasts = sound.lasts;
    }

pub IsSound-with_cached : (host : Host) (xs : List CachedObj) → IsSound host → AreCached xs
    → IsSound (record host { cached = xs })
IsSound-with_cached host xs sound new =
    record {
      namespaces = sound.namespaces;
      links = sound.links;
      addresses = sound.addresses;
      routes = sound.routes;
      rules = sound.rules;
      settings = sound.settings;
      leases = sound.leases;
      cached = new;
      lasts = sound.lasts;
    }

pub IsSound-with_lasts : (host : Host) (xs : List Last) → IsSound host → AreLasts xs
    → IsSound (record host { lasts = xs })
IsSound-with_lasts host xs sound new =
    record {
      namespaces = sound.namespaces;
      links = sound.links;
      addresses = sound.addresses;
      routes = sound.routes;
      rules = sound.rules;
      settings = sound.settings;
      leases = sound.leases;
      cached = sound.cached;
      lasts = new;
    }

-- ---- only the attachment's objects are touched where that holds of that list

pub TouchesOwn-nothing : (att : Att) (host : Host) → TouchesOwn att host host
TouchesOwn-nothing att host =
    record {
      namespaces = refl;
      links = ChangesOnly-nothing (λ x. is_own att x.tag) host.links;
      addresses = ChangesOnly-nothing (λ x. is_own att x.tag) host.addresses;
      routes = ChangesOnly-nothing (λ x. is_own att x.tag) host.routes;
      rules = ChangesOnly-nothing (λ x. is_own att x.tag) host.rules;
      settings = ChangesOnly-nothing (λ x. is_own att x.tag) host.settings;
      leases = ChangesOnly-nothing (λ x. is_own att x.tag) host.leases;
      cached = ChangesOnly-nothing (λ x. is_own att x.tag) host.cached;
    }

pub TouchesOwnAlone-nothing : (att : Att) (host : Host) → TouchesOwnAlone att host host
TouchesOwnAlone-nothing att host = record { own = TouchesOwn-nothing att host; lasts = refl }

pub TouchesOwn-with_links : (att : Att) (host : Host) (xs : List Link)
    → ChangesOnly (λ x. is_own att x.tag) host.links xs → TouchesOwn att host (record host { links = xs })
TouchesOwn-with_links att host xs c =
    record {
      namespaces = refl;
      links = c;
      addresses = ChangesOnly-nothing (λ x. is_own att x.tag) host.addresses;
      routes = ChangesOnly-nothing (λ x. is_own att x.tag) host.routes;
      rules = ChangesOnly-nothing (λ x. is_own att x.tag) host.rules;
      settings = ChangesOnly-nothing (λ x. is_own att x.tag) host.settings;
      leases = ChangesOnly-nothing (λ x. is_own att x.tag) host.leases;
      cached = ChangesOnly-nothing (λ x. is_own att x.tag) host.cached;
    }

pub TouchesOwnAlone-with_links : (att : Att) (host : Host) (xs : List Link)
    → ChangesOnly (λ x. is_own att x.tag) host.links xs → TouchesOwnAlone att host (record host { links = xs })
TouchesOwnAlone-with_links att host xs c = record { own = TouchesOwn-with_links att host xs c; lasts = refl }

pub TouchesOwn-with_addresses : (att : Att) (host : Host) (xs : List AddrObj)
    → ChangesOnly (λ x. is_own att x.tag) host.addresses xs → TouchesOwn att host (record host { addresses = xs })
TouchesOwn-with_addresses att host xs c =
    record {
      namespaces = refl;
      links = ChangesOnly-nothing (λ x. is_own att x.tag) host.links;
      addresses = c;
      routes = ChangesOnly-nothing (λ x. is_own att x.tag) host.routes;
      rules = ChangesOnly-nothing (λ x. is_own att x.tag) host.rules;
      settings = ChangesOnly-nothing (λ x. is_own att x.tag) host.settings;
      leases = ChangesOnly-nothing (λ x. is_own att x.tag) host.leases;
      cached = ChangesOnly-nothing (λ x. is_own att x.tag) host.cached;
    }

pub TouchesOwnAlone-with_addresses : (att : Att) (host : Host) (xs : List AddrObj)
    → ChangesOnly (λ x. is_own att x.tag) host.addresses xs → TouchesOwnAlone att host (record host { addresses = xs })
TouchesOwnAlone-with_addresses att host xs c = record { own = TouchesOwn-with_addresses att host xs c; lasts = refl }

pub TouchesOwn-with_routes : (att : Att) (host : Host) (xs : List RouteObj)
    → ChangesOnly (λ x. is_own att x.tag) host.routes xs → TouchesOwn att host (record host { routes = xs })
TouchesOwn-with_routes att host xs c =
    record {
      namespaces = refl;
      links = ChangesOnly-nothing (λ x. is_own att x.tag) host.links;
      addresses = ChangesOnly-nothing (λ x. is_own att x.tag) host.addresses;
      routes = c;
      rules = ChangesOnly-nothing (λ x. is_own att x.tag) host.rules;
      settings = ChangesOnly-nothing (λ x. is_own att x.tag) host.settings;
      leases = ChangesOnly-nothing (λ x. is_own att x.tag) host.leases;
      cached = ChangesOnly-nothing (λ x. is_own att x.tag) host.cached;
    }

pub TouchesOwnAlone-with_routes : (att : Att) (host : Host) (xs : List RouteObj)
    → ChangesOnly (λ x. is_own att x.tag) host.routes xs → TouchesOwnAlone att host (record host { routes = xs })
TouchesOwnAlone-with_routes att host xs c = record { own = TouchesOwn-with_routes att host xs c; lasts = refl }

pub TouchesOwn-with_rules : (att : Att) (host : Host) (xs : List Rule)
    → ChangesOnly (λ x. is_own att x.tag) host.rules xs → TouchesOwn att host (record host { rules = xs })
TouchesOwn-with_rules att host xs c =
    record {
      namespaces = refl;
      links = ChangesOnly-nothing (λ x. is_own att x.tag) host.links;
      addresses = ChangesOnly-nothing (λ x. is_own att x.tag) host.addresses;
      routes = ChangesOnly-nothing (λ x. is_own att x.tag) host.routes;
      rules = c;
      settings = ChangesOnly-nothing (λ x. is_own att x.tag) host.settings;
      leases = ChangesOnly-nothing (λ x. is_own att x.tag) host.leases;
      cached = ChangesOnly-nothing (λ x. is_own att x.tag) host.cached;
    }

pub TouchesOwnAlone-with_rules : (att : Att) (host : Host) (xs : List Rule)
    → ChangesOnly (λ x. is_own att x.tag) host.rules xs → TouchesOwnAlone att host (record host { rules = xs })
TouchesOwnAlone-with_rules att host xs c = record { own = TouchesOwn-with_rules att host xs c; lasts = refl }

pub TouchesOwn-with_settings : (att : Att) (host : Host) (xs : List Setting)
    → ChangesOnly (λ x. is_own att x.tag) host.settings xs → TouchesOwn att host (record host { settings = xs })
TouchesOwn-with_settings att host xs c =
    record {
      namespaces = refl;
      links = ChangesOnly-nothing (λ x. is_own att x.tag) host.links;
      addresses = ChangesOnly-nothing (λ x. is_own att x.tag) host.addresses;
      routes = ChangesOnly-nothing (λ x. is_own att x.tag) host.routes;
      rules = ChangesOnly-nothing (λ x. is_own att x.tag) host.rules;
      settings = c;
      leases = ChangesOnly-nothing (λ x. is_own att x.tag) host.leases;
      cached = ChangesOnly-nothing (λ x. is_own att x.tag) host.cached;
    }

pub TouchesOwnAlone-with_settings : (att : Att) (host : Host) (xs : List Setting)
    → ChangesOnly (λ x. is_own att x.tag) host.settings xs → TouchesOwnAlone att host (record host { settings = xs })
TouchesOwnAlone-with_settings att host xs c = record { own = TouchesOwn-with_settings att host xs c; lasts = refl }

pub TouchesOwn-with_leases : (att : Att) (host : Host) (xs : List Lease)
    → ChangesOnly (λ x. is_own att x.tag) host.leases xs → TouchesOwn att host (record host { leases = xs })
TouchesOwn-with_leases att host xs c =
    record {
      namespaces = refl;
      links = ChangesOnly-nothing (λ x. is_own att x.tag) host.links;
      addresses = ChangesOnly-nothing (λ x. is_own att x.tag) host.addresses;
      routes = ChangesOnly-nothing (λ x. is_own att x.tag) host.routes;
      rules = ChangesOnly-nothing (λ x. is_own att x.tag) host.rules;
      settings = ChangesOnly-nothing (λ x. is_own att x.tag) host.settings;
      leases = c;
      cached = ChangesOnly-nothing (λ x. is_own att x.tag) host.cached;
    }

pub TouchesOwn-with_cached : (att : Att) (host : Host) (xs : List CachedObj)
    → ChangesOnly (λ x. is_own att x.tag) host.cached xs → TouchesOwn att host (record host { cached = xs })
TouchesOwn-with_cached att host xs c =
    record {
      namespaces = refl;
      links = ChangesOnly-nothing (λ x. is_own att x.tag) host.links;
      addresses = ChangesOnly-nothing (λ x. is_own att x.tag) host.addresses;
      routes = ChangesOnly-nothing (λ x. is_own att x.tag) host.routes;
      rules = ChangesOnly-nothing (λ x. is_own att x.tag) host.rules;
      settings = ChangesOnly-nothing (λ x. is_own att x.tag) host.settings;
      leases = ChangesOnly-nothing (λ x. is_own att x.tag) host.leases;
      cached = c;
    }

pub TouchesOwnAlone-with_cached : (att : Att) (host : Host) (xs : List CachedObj)
    → ChangesOnly (λ x. is_own att x.tag) host.cached xs → TouchesOwnAlone att host (record host { cached = xs })
TouchesOwnAlone-with_cached att host xs c = record { own = TouchesOwn-with_cached att host xs c; lasts = refl }

pub TouchesOwn-with_lasts : (att : Att) (old host : Host) (xs : List Last) → TouchesOwn att old host
    → TouchesOwn att old (record host { lasts = xs })
TouchesOwn-with_lasts att old host xs touches =
    record {
      namespaces = touches.namespaces;
      links = touches.links;
      addresses = touches.addresses;
      routes = touches.routes;
      rules = touches.rules;
      settings = touches.settings;
      leases = touches.leases;
      cached = touches.cached;
    }
