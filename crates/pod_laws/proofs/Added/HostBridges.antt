-- A bridge of the host stays, whatever a command with a list calls.
use Rattle.pod_laws.proofs.Names.{◌≡◌, ℕ, Bool, true, false, not, List, [], ◌∷◌, Option, Some, None, refl, sym, ◌∙◌, ap}
use Rattle.pod_laws.proofs.Names.{inl, inr, and-true, and_parts, both_ways, false_from_ne_true, list_any, ◌&&◌, First}
use Rattle.pod_laws.proofs.Names.{NetList, Command, IsAllowed, apply, master_is_bridge_or_none, ensures_shared}
use Rattle.pod_laws.proofs.Names.{is_from_outside, IsSound, is_bridge, is_host_bridge, is_host_link, is_owned, Call}
use Rattle.pod_laws.proofs.Names.{BridgeEnsure, GatewayEnsure, ForwardEnsure, NsChange, Outside, Kind, Att, Host, Link}
use Rattle.pod_laws.proofs.Names.{Tag, Touches-apply, KeepsUnowned-Touches, list_any-append_left, list_any-kept}
use Rattle.pod_laws.proofs.Names.{is_call_of, att_of, bridge_of, deletion, Placed, World, entry_of, host_of}
use Rattle.pod_laws.proofs.Names.{after_entry, sound_host, none-by}
use Rattle.std.proofs.Math.Bool.{and-false}
use Rattle.kernel_types.specs.Sound.{link_fits_tag}
use Rattle.kernel_types.proofs.TouchRemoval.{owned_no_bridge}
use Rattle.kernel_types.specs.declared.object.Tag.TheVariants as tags
use Rattle.kernel_types.specs.declared.call.Kind.TheVariants as kinds
use Rattle.pod_laws.proofs.Histories.{States.is_question, Steps.{GoesOn, on-entry}, Turns.{IsTurnOf, turn-of}}
use Rattle.pod_laws.proofs.Tests.{any-filtered}

-- ---- a bridge of the host stays

-- bridges alone pass this test
abbrev pub PassesBridges : (Link → Bool) → Type 0
PassesBridges p = (l : Link) → p l ≡ true → is_bridge l.kind ≡ true

pub passes-host_bridges : (name : List ℕ) → PassesBridges (is_host_bridge name)
passes-host_bridges name = λ l is. (and_parts (is_host_link name l) (is_bridge l.kind) is).1

bridge-unowned : (p : Link → Bool) → PassesBridges p → (l : Link) (t : Tag) → link_fits_tag l t ≡ true
    → (p l && not (not (is_owned t))) ≡ false
bridge-unowned p bridges l tags.Outside h = and-false (p l)
bridge-unowned p bridges l tags.Base h = and-false (p l)
bridge-unowned p bridges l (tags.Own att) h =
    and-true (p l)
    ∙ false_from_ne_true (p l)
    (λ passes. both_ways (is_bridge l.kind) (owned_no_bridge l.ns l.kind h) (bridges l passes))

stays-unshared : (p : Link → Bool) → PassesBridges p → (host : Host) (call : Call) → IsSound host → IsAllowed host call
    → is_from_outside call ≡ false → ensures_shared call ≡ false → list_any p host.links ≡ true
    → list_any p (apply host call).0.links ≡ true
stays-unshared p bridges host call sound allowed inside own there =
    let new = (apply host call).0 in
    let keeps = KeepsUnowned-Touches call host new inside own (Touches-apply host call sound allowed) in
    let none : list_any (λ l. p l && not (not (is_owned l.tag))) host.links ≡ false =
    none-by (λ l. link_fits_tag l l.tag) (λ l. p l && not (not (is_owned l.tag)))
    (λ l h. bridge-unowned p bridges l l.tag h) host.links sound.links.tags in
    let kept = list_any-kept p (λ l. not (is_owned l.tag)) host.links there none in
    any-filtered p (λ l. not (is_owned l.tag)) new.links (ap (list_any p) keeps.links ∙ kept)

same-links : (p : Link → Bool) (old new : Host) → new.links ≡ old.links → list_any p old.links ≡ true
    → list_any p new.links ≡ true
same-links p old new e there = ap (list_any p) e ∙ there

pub bridge-stays : (p : Link → Bool) → PassesBridges p → (host : Host) (call : Call) → IsSound host
    → IsAllowed host call → is_from_outside call ≡ false → list_any p host.links ≡ true
    → list_any p (apply host call).0.links ≡ true
bridge-stays p bridges host (BridgeEnsure bridge mtu promisc) sound allowed inside there =
    elim (Touches-apply host (BridgeEnsure bridge mtu promisc) sound allowed) [
      | inl e ↦ same-links p host (apply host (BridgeEnsure bridge mtu promisc)).0 (ap (λ (k : Host). k.links) e) there
      | inr more ↦ ap (λ (k : Host). list_any p k.links) more.2 ∙ list_any-append_left p host.links (more.0 ∷ []) there
    ]
bridge-stays p bridges host (GatewayEnsure bridge cidr) sound allowed inside there =
    elim (Touches-apply host (GatewayEnsure bridge cidr) sound allowed) [
      | inl e ↦ same-links p host (apply host (GatewayEnsure bridge cidr)).0 (ap (λ (k : Host). k.links) e) there
      | inr more ↦
          same-links p host (apply host (GatewayEnsure bridge cidr)).0 (ap (λ (k : Host). k.links) more.2) there
    ]
bridge-stays p bridges host (ForwardEnsure family) sound allowed inside there =
    elim (Touches-apply host (ForwardEnsure family) sound allowed) [
      | inl e ↦ same-links p host (apply host (ForwardEnsure family)).0 (ap (λ (k : Host). k.links) e) there
      | inr more ↦ same-links p host (apply host (ForwardEnsure family)).0 (ap (λ (k : Host). k.links) more.2) there
    ]
bridge-stays p bridges host call sound allowed inside there =
    stays-unshared p bridges host call sound allowed inside refl there

-- a call of one attachment doesn't come from outside
pub call-inside : (att : Att) (call : Call) → is_call_of att call ≡ true → is_from_outside call ≡ false
call-inside att (NsChange name add) is = cc
call-inside att (Outside change) is = cc
call-inside att _ is = refl

-- ---- the bridge of a list

-- the bridge, if the list has one, is there
abbrev pub BridgeIn : First → Host → Type 0
BridgeIn first host = master_is_bridge_or_none host (bridge_of first) ≡ true

bridge-in-stays : (o : Option (List ℕ)) (host : Host) (call : Call) → IsSound host → IsAllowed host call
    → is_from_outside call ≡ false → master_is_bridge_or_none host o ≡ true
    → master_is_bridge_or_none (apply host call).0 o ≡ true
bridge-in-stays None host call sound allowed inside there = refl
bridge-in-stays (Some name) host call sound allowed inside there =
    bridge-stays (is_host_bridge name) (passes-host_bridges name) host call sound allowed inside there

-- so is a call that only asks
question-inside : (call : Call) → is_question call ≡ true → is_from_outside call ≡ false
question-inside (NsChange name add) is = cc
question-inside (Outside change) is = cc
question-inside _ is = refl

deletion-inside : (att : Att) (kind : Kind) → is_from_outside (deletion att kind) ≡ false
deletion-inside att kinds.Links = refl
deletion-inside att kinds.Rules = refl
deletion-inside att kinds.Settings = refl
deletion-inside att kinds.Leases = refl
deletion-inside att kinds.Cached = refl

-- and each call of a command with a list
pub turn-inside : (c : Command) (call : Call) → IsTurnOf c call → is_from_outside call ≡ false
turn-inside c call (inl own) = call-inside (att_of c) call own
turn-inside c call (inr (inl asked)) = question-inside call asked
turn-inside c call (inr (inr collected)) =
    ap is_from_outside (sym collected.deletes) ∙ deletion-inside collected.att collected.kind

pub bridge-entered : (first : First) (w : World) (n : ℕ) (c : Placed) (list : NetList) (call : Call) (faulty : Bool)
    → GoesOn w n c list call faulty → BridgeIn first (host_of w)
    → BridgeIn first (after_entry (host_of w) (entry_of (host_of w) n call faulty))
bridge-entered first w n c list call faulty on there =
    on-entry (BridgeIn first) (host_of w) n call faulty there
    (λ f. bridge-in-stays (bridge_of first) (host_of w) call (sound_host w on.legal) (on.allowed f)
    (turn-inside c.command call (turn-of w n c list call faulty on)) there)
