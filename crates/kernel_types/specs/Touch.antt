-- What a call may change.
use Rattle.std.specs.{List.list_all, Prelude.{◌≡◌, ℕ, Bool, true, false, not, List, [], ◌∷◌, ◌++◌, ◌⊎◌}}
use Rattle.kernel_types.specs.{Terms.{is_of_pool, is_own}, declared.call.Call.{Call, TheVariants.{Begin, BridgeEnsure}}}
use Rattle.kernel_types.specs.declared.call.Call.TheVariants.{GatewayEnsure, ForwardEnsure, VethAdd, MacvlanAdd}
use Rattle.kernel_types.specs.declared.call.Call.TheVariants.{LinkSet, AddrAdd, RouteAdd, RuleAppend, SettingSet}
use Rattle.kernel_types.specs.declared.call.Call.TheVariants.{LeaseNext, CachePut, LinkDel, RuleDel, SettingDel}
use Rattle.kernel_types.specs.declared.call.Call.TheVariants.{LeaseDel, CacheDel, HasObj, CacheGet, OwnersOf, PoolFree}
use Rattle.kernel_types.specs.declared.{call.Call.TheVariants.{NsChange, Outside}, object.{AddrObj.AddrObj, Att.Att}}
use Rattle.kernel_types.specs.declared.object.{Host.Host, Link.Link, NsObj.NsObj, Setting.Setting, Tag.Tag}
use Rattle.kernel_types.specs.declared.object.Tag.TheVariants as tags

-- ---- one list

-- objects that pass are dropped or replaced by others that pass, and others that pass stand at the end; all else stands
-- as it stood
abbrev pub ChangesOnly : {X : Type 0} → (X → Bool) → List X → List X → Type 0
ChangesOnly own [] new = list_all own new ≡ true
ChangesOnly own (x ∷ old) [] = (own x ≡ true) × ChangesOnly own old []
ChangesOnly own (x ∷ old) (y ∷ new) =
    ((x ≡ y) × ChangesOnly own old new)
    ⊎ (((own x ≡ true) × (own y ≡ true) × ChangesOnly own old new)
    ⊎ ((own x ≡ true) × ChangesOnly own old (y ∷ new)))

-- objects that pass are dropped; all else stands as it stood
abbrev pub DropsOnly : {X : Type 0} → (X → Bool) → List X → List X → Type 0
DropsOnly gone [] new = new ≡ []
DropsOnly gone (x ∷ old) [] = (gone x ≡ true) × DropsOnly gone old []
DropsOnly gone (x ∷ old) (y ∷ new) =
    ((x ≡ y) × DropsOnly gone old new) ⊎ ((gone x ≡ true) × DropsOnly gone old (y ∷ new))

-- ---- a host

-- only objects of the attachment are changed, removed or appended
pub record TouchesOwn (att : Att) (old new : Host) : Type 0 where
  pub namespaces : new.namespaces ≡ old.namespaces
  pub links : ChangesOnly (λ l. is_own att l.tag) old.links new.links
  pub addresses : ChangesOnly (λ a. is_own att a.tag) old.addresses new.addresses
  pub routes : ChangesOnly (λ r. is_own att r.tag) old.routes new.routes
  pub rules : ChangesOnly (λ r. is_own att r.tag) old.rules new.rules
  pub settings : ChangesOnly (λ s. is_own att s.tag) old.settings new.settings
  pub leases : ChangesOnly (λ l. is_own att l.tag) old.leases new.leases
  pub cached : ChangesOnly (λ c. is_own att c.tag) old.cached new.cached

-- and no last is moved
pub record TouchesOwnAlone (att : Att) (old new : Host) : Type 0 where
  pub own : TouchesOwn att old new
  pub lasts : new.lasts ≡ old.lasts

-- and no last is moved but that of the pool
pub record TouchesOwnAndLast (att : Att) (network : List ℕ) (number : ℕ) (old new : Host) : Type 0 where
  pub own : TouchesOwn att old new
  pub lasts : ChangesOnly (is_of_pool network number) old.lasts new.lasts

-- the same by the tag of an object that is made; no call that may be made makes one of the first two tags
abbrev pub TouchesTag : Tag → Host → Host → Type 0
TouchesTag tags.Outside old new = new ≡ old
TouchesTag tags.Base old new = new ≡ old
TouchesTag (tags.Own att) old new = TouchesOwnAlone att old new

-- nothing changes, or one object of this tag is put into its place
abbrev pub AddsOne : {X : Type 0} → (X → Tag) → Tag → (X → Host) → Host → Host → Type 0
AddsOne {X} tag_of tag put old new = (new ≡ old) ⊎ ((x : X) × (tag_of x ≡ tag) × (new ≡ put x))

-- at most one shared object is appended
abbrev pub AddsBridge : Host → Host → Type 0
AddsBridge old new = AddsOne (λ (x : Link). x.tag) tags.Base (λ x. record old { links = old.links ++ x ∷ [] }) old new

abbrev pub AddsAddress : Host → Host → Type 0
AddsAddress old new =
    AddsOne (λ (x : AddrObj). x.tag) tags.Base (λ x. record old { addresses = old.addresses ++ x ∷ [] }) old new

abbrev pub AddsSetting : Host → Host → Type 0
AddsSetting old new =
    AddsOne (λ (x : Setting). x.tag) tags.Base (λ x. record old { settings = old.settings ++ x ∷ [] }) old new

-- at most one namespace is appended
abbrev pub AddsNamespace : Host → Host → Type 0
AddsNamespace old new =
    AddsOne (λ (x : NsObj). x.tag) tags.Outside (λ x. record old { namespaces = old.namespaces ++ x ∷ [] }) old new

abbrev pub is_base : Tag → Bool
is_base tags.Outside = false
is_base tags.Base = true
is_base (tags.Own att) = false

abbrev pub is_unshared : Tag → Bool
is_unshared t = not (is_base t)

-- objects are removed, none of them shared, and nothing else changes
pub record RemovesUnshared (old new : Host) : Type 0 where
  pub namespaces : DropsOnly (λ n. is_unshared n.tag) old.namespaces new.namespaces
  pub links : DropsOnly (λ l. is_unshared l.tag) old.links new.links
  pub addresses : DropsOnly (λ a. is_unshared a.tag) old.addresses new.addresses
  pub routes : DropsOnly (λ r. is_unshared r.tag) old.routes new.routes
  pub rules : DropsOnly (λ r. is_unshared r.tag) old.rules new.rules
  pub settings : DropsOnly (λ s. is_unshared s.tag) old.settings new.settings
  pub leases : new.leases ≡ old.leases
  pub cached : new.cached ≡ old.cached
  pub lasts : new.lasts ≡ old.lasts

-- ---- each call

abbrev pub Touches : Call → Host → Host → Type 0
Touches (Begin att netns) old new = new ≡ old
Touches (BridgeEnsure name mtu promisc) old new = AddsBridge old new
Touches (GatewayEnsure bridge cidr) old new = AddsAddress old new
Touches (ForwardEnsure family) old new = AddsSetting old new
Touches (VethAdd host_end inner_end) old new = TouchesTag host_end.tag old new
Touches (MacvlanAdd link) old new = TouchesTag link.tag old new
Touches (LinkSet att key mac mtu tx_qlen promisc allmulti) old new = TouchesOwnAlone att old new
Touches (AddrAdd obj) old new = TouchesTag obj.tag old new
Touches (RouteAdd obj) old new = TouchesTag obj.tag old new
Touches (RuleAppend rule) old new = TouchesTag rule.tag old new
Touches (SettingSet setting) old new = TouchesTag setting.tag old new
Touches (LeaseNext att number set) old new = TouchesOwnAndLast att att.network number old new
Touches (CachePut att cached) old new = TouchesOwnAlone att old new
Touches (LinkDel att) old new = TouchesOwnAlone att old new
Touches (RuleDel att) old new = TouchesOwnAlone att old new
Touches (SettingDel att) old new = TouchesOwnAlone att old new
Touches (LeaseDel att) old new = TouchesOwnAlone att old new
Touches (CacheDel att) old new = TouchesOwnAlone att old new
Touches (HasObj probe) old new = new ≡ old
Touches (CacheGet att) old new = new ≡ old
Touches (OwnersOf network kind) old new = new ≡ old
Touches (PoolFree network set) old new = new ≡ old
Touches (NsChange name true) old new = AddsNamespace old new
Touches (NsChange name false) old new = RemovesUnshared old new
Touches (Outside change) old new = RemovesUnshared old new
