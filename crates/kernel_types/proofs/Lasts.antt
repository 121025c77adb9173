-- Which calls move the last address of a pool, and whose last address it is.
use Rattle.std.proofs.{Common.{◌≡◌, ℕ, Bool, true, false, List, ap, inl, inr, arith}, lemmas.Bool.Decides.eqb_tells}
use Rattle.std.proofs.lemmas.Slice.Eq.{bytes_eq-Decides}
use Rattle.kernel_types.specs.{Apply.Calls.is_of_pool, Touch.{Touches, TouchesTag}, declared.call.Call.Call}
use Rattle.kernel_types.specs.declared.call.Call.TheVariants.{Begin, BridgeEnsure, GatewayEnsure, ForwardEnsure}
use Rattle.kernel_types.specs.declared.call.Call.TheVariants.{LinkSet, VethAdd, MacvlanAdd, AddrAdd, RouteAdd}
use Rattle.kernel_types.specs.declared.call.Call.TheVariants.{RuleAppend, SettingSet, LeaseNext, CachePut, LinkDel}
use Rattle.kernel_types.specs.declared.call.Call.TheVariants.{RuleDel, SettingDel, LeaseDel, CacheDel, HasObj, CacheGet}
use Rattle.kernel_types.specs.declared.{call.Call.TheVariants.{OwnersOf, PoolFree, NsChange, Outside}, object.Host.Host}
use Rattle.kernel_types.specs.declared.object.{Last.Last, Tag.Tag}
use Rattle.kernel_types.specs.declared.object.Tag.TheVariants as tags

pub same-pool : (network : List ℕ) (number : ℕ) (x : Last) → is_of_pool network number x ≡ true
    → (x.network ≡ network) × (x.set ≡ number)
same-pool network number x h = (
  (bytes_eq-Decides x.network network).0 (grind (arith, h)),
  elim (eqb_tells x.set number) [ inl t ↦ t.1 | inr f ↦ absurd (let no_way = f.0 in grind (arith, h, no_way)) ],
)

abbrev pub moves_last : Call → Bool
moves_last (LeaseNext att number set) = true
moves_last _ = false

tag-lasts : (t : Tag) (old new : Host) → TouchesTag t old new → new.lasts ≡ old.lasts
tag-lasts tags.Outside old new h = ap (λ (k : Host). k.lasts) h
tag-lasts tags.Base old new h = ap (λ (k : Host). k.lasts) h
tag-lasts (tags.Own att) old new h = h.lasts

pub lasts-touches : (call : Call) (old new : Host) → moves_last call ≡ false → Touches call old new
    → new.lasts ≡ old.lasts
lasts-touches (Begin att netns) old new n h = ap (λ (k : Host). k.lasts) h
lasts-touches (BridgeEnsure a b d) old new n h =
    elim h [ inl e ↦ ap (λ (k : Host). k.lasts) e | inr e ↦ ap (λ (k : Host). k.lasts) e.2 ]
lasts-touches (GatewayEnsure a b) old new n h =
    elim h [ inl e ↦ ap (λ (k : Host). k.lasts) e | inr e ↦ ap (λ (k : Host). k.lasts) e.2 ]
lasts-touches (ForwardEnsure a) old new n h =
    elim h [ inl e ↦ ap (λ (k : Host). k.lasts) e | inr e ↦ ap (λ (k : Host). k.lasts) e.2 ]
lasts-touches (VethAdd a b) old new n h = tag-lasts a.tag old new h
lasts-touches (MacvlanAdd a) old new n h = tag-lasts a.tag old new h
lasts-touches (LinkSet a b d e f g i) old new n h = h.lasts
lasts-touches (AddrAdd a) old new n h = tag-lasts a.tag old new h
lasts-touches (RouteAdd a) old new n h = tag-lasts a.tag old new h
lasts-touches (RuleAppend a) old new n h = tag-lasts a.tag old new h
lasts-touches (SettingSet a) old new n h = tag-lasts a.tag old new h
lasts-touches (LeaseNext a b d) old new n h = cc
lasts-touches (CachePut a b) old new n h = h.lasts
lasts-touches (LinkDel a) old new n h = h.lasts
lasts-touches (RuleDel a) old new n h = h.lasts
lasts-touches (SettingDel a) old new n h = h.lasts
lasts-touches (LeaseDel a) old new n h = h.lasts
lasts-touches (CacheDel a) old new n h = h.lasts
lasts-touches (HasObj a) old new n h = ap (λ (k : Host). k.lasts) h
lasts-touches (CacheGet a) old new n h = ap (λ (k : Host). k.lasts) h
lasts-touches (OwnersOf a b) old new n h = ap (λ (k : Host). k.lasts) h
lasts-touches (PoolFree a b) old new n h = ap (λ (k : Host). k.lasts) h
lasts-touches (NsChange a true) old new n h =
    elim h [ inl e ↦ ap (λ (k : Host). k.lasts) e | inr e ↦ ap (λ (k : Host). k.lasts) e.2 ]
lasts-touches (NsChange a false) old new n h = h.lasts
lasts-touches (Outside a) old new n h = h.lasts
