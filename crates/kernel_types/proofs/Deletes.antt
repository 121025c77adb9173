-- The deletion of one object that isn't a link leaves a host sound.
use Rattle.std.specs.{Prelude.{◌&&◌, is_some}, Str.bytes_eq}
use Rattle.kernel_types.specs.Apply.Calls.{rule_del_of, setting_del_of, lease_del_of, cache_del_of, is_same_setting}
use Rattle.kernel_types.specs.{Apply.Calls.owner_in, Equal.{addr_eq, rule_eq, tag_eq}, Sound.IsSound}
use Rattle.kernel_types.specs.{Sound.setting_fits_tag, Terms.{is_own, is_owned}, declared.object.{Att.Att, Host.Host}}
use Rattle.kernel_types.proofs.{ListLemmas.{list_all-without_first, distinct-without_first}, OneList.IsSound-with_rules}
use Rattle.kernel_types.proofs.OneList.{IsSound-with_settings, IsSound-with_leases, IsSound-with_cached}

-- ---- rules

pub IsSound-rule_del : (host : Host) (att : Att) → IsSound host → IsSound (rule_del_of host att).0
IsSound-rule_del host att sound = IsSound-with_rules host _ sound (record {
  keys = distinct-without_first (λ a b. rule_eq a b) (λ r. is_own att r.tag) host.rules sound.rules.keys;
  tags = list_all-without_first (λ r. is_owned r.tag) (λ r. is_own att r.tag) host.rules sound.rules.tags;
})

-- ---- settings

pub IsSound-setting_del : (host : Host) (att : Att) → IsSound host → IsSound (setting_del_of host att).0
IsSound-setting_del host att sound = IsSound-with_settings host _ sound (record {
  keys = distinct-without_first (λ a b. is_same_setting b a) (λ s. is_own att s.tag) host.settings sound.settings.keys;
  tags =
      list_all-without_first (λ s. setting_fits_tag host.namespaces s s.tag)
      (λ s. is_own att s.tag) host.settings sound.settings.tags;
})

-- ---- leases

pub IsSound-lease_del : (host : Host) (att : Att) → IsSound host → IsSound (lease_del_of host att).0
IsSound-lease_del host att sound = IsSound-with_leases host _ sound (record {
  keys =
      distinct-without_first (λ a b. bytes_eq a.network b.network && addr_eq a.addr b.addr)
      (λ l. is_own att l.tag) host.leases sound.leases.keys;
  tags =
      list_all-without_first (λ l. is_some (owner_in l.network l.tag))
      (λ l. is_own att l.tag) host.leases sound.leases.tags;
})

-- ---- cached results

pub IsSound-cache_del : (host : Host) (att : Att) → IsSound host → IsSound (cache_del_of host att).0
IsSound-cache_del host att sound = IsSound-with_cached host _ sound (record {
  keys = distinct-without_first (λ a b. tag_eq a.tag b.tag) (λ c. is_own att c.tag) host.cached sound.cached.keys;
  tags = list_all-without_first (λ c. is_owned c.tag) (λ c. is_own att c.tag) host.cached sound.cached.tags;
})
