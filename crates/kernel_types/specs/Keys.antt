-- When an object has the key of a new one: a list has at most one object of each key.
use Rattle.std.specs.{Prelude.{◌≡◌, ◌↔◌, Bool, true, ◌&&◌}, Str.bytes_eq}
use Rattle.kernel_types.specs.{Equal.{addr_eq, cidr_eq, rule_eq, tag_eq}, Terms.{is_at, is_lease_at, is_of_pool}}
use Rattle.kernel_types.specs.declared.keys.{AddrKey.AddrKey, RouteKey.RouteKey, SettingKey.SettingKey}
use Rattle.kernel_types.specs.declared.object.{AddrObj.AddrObj, CachedObj.CachedObj, Last.Last, Lease.Lease, Link.Link}
use Rattle.kernel_types.specs.declared.{object.{NsObj.NsObj, RouteObj.RouteObj, Setting.Setting}, rule.Rule.Rule}

abbrev pub addr_key : AddrObj → AddrKey
addr_key a = record { ns = a.ns; link = a.link; addr = a.cidr.addr }

abbrev pub route_key : RouteObj → RouteKey
route_key r = record { ns = r.ns; dst = r.dst; link = r.link }

abbrev pub setting_key : Setting → SettingKey
setting_key s = record { ns = s.ns; key = s.key }

abbrev pub is_same_namespace : NsObj → NsObj → Bool
is_same_namespace new n = bytes_eq n.name new.name

abbrev pub is_same_link : Link → Link → Bool
is_same_link new l = is_at new.ns new.name l

-- whatever the prefix
abbrev pub is_same_addr : AddrObj → AddrObj → Bool
is_same_addr new a = bytes_eq a.ns new.ns && bytes_eq a.link new.link && addr_eq a.cidr.addr new.cidr.addr

-- whatever the gateway
abbrev pub is_same_route : RouteObj → RouteObj → Bool
is_same_route new r = bytes_eq r.ns new.ns && cidr_eq r.dst new.dst && bytes_eq r.link new.link

-- by all its fields
abbrev pub is_same_rule : Rule → Rule → Bool
is_same_rule new r = rule_eq r new

-- whatever the value
abbrev pub is_same_setting : Setting → Setting → Bool
is_same_setting new s = bytes_eq s.ns new.ns && bytes_eq s.key new.key

-- whoever has leased it
abbrev pub is_same_lease : Lease → Lease → Bool
is_same_lease new l = is_lease_at new.network new.addr l

abbrev pub is_same_cached : CachedObj → CachedObj → Bool
is_same_cached new c = tag_eq c.tag new.tag

abbrev pub is_same_last : Last → Last → Bool
is_same_last new l = is_of_pool new.network new.set l

-- the test tells which objects have equal keys
abbrev pub TellsKeys : {X K : Type 0} → (X → X → Bool) → (X → K) → Type 0
TellsKeys {X} same key_of = (new x : X) → (same new x ≡ true) ↔ (key_of x ≡ key_of new)
