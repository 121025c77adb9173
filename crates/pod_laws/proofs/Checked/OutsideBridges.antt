-- Nothing from outside takes a bridge of the host.
use Rattle.pod_laws.proofs.Names.{◌≡◌, ℕ, Bool, true, false, not, List, Option, Some, None, refl, ◌∙◌, ap, inl, inr}
use Rattle.pod_laws.proofs.Names.{arith, and_parts, cases_Bool, bytes_eq-Decides, list_any, filter, ◌&&◌, bytes_eq}
use Rattle.pod_laws.proofs.Names.{by_test, bridge_of, IsAllowed, apply, master_is_bridge_or_none, without_link}
use Rattle.pod_laws.proofs.Names.{is_from_outside, IsSound, has_host_bridge, has_named_ns, is_at, is_bridge}
use Rattle.pod_laws.proofs.Names.{is_host_bridge, is_host_link, is_host_ns, link_at, Call, NsChange, Outside, DropLink}
use Rattle.pod_laws.proofs.Names.{Flush, Reply, Host, Link, LinkKey, list_any-kept, passes-find, First, none-by, Placed}
use Rattle.pod_laws.proofs.Names.{World, after_entry, entry_of, host_of, sound_host}
use Rattle.kernel_types.specs.{Apply.Calls.{goes_with, goes_with_ns, has_peer_in}, Sound.peer_fits, Terms.is_peer_at}
use Rattle.kernel_types.specs.{Terms.is_veth, declared.object.LinkKind.LinkKind}
use Rattle.kernel_types.specs.declared.object.LinkKind.TheVariants as link_kinds
use Rattle.pod_laws.proofs.{Added.HostBridges.BridgeIn, Histories.{Steps.{Changes, on-entry}, Turns.change-of}}
use Rattle.kernel_types.proofs.Cases.{other_host}

bridge-no_veth : (k : LinkKind) → is_bridge k ≡ true → is_veth k ≡ false
bridge-no_veth link_kinds.Device h = refl
bridge-no_veth link_kinds.Bridge h = refl
bridge-no_veth link_kinds.Veth h = cc
bridge-no_veth (link_kinds.Macvlan mode) h = refl
bridge-no_veth link_kinds.Dummy h = refl
bridge-no_veth (link_kinds.Vlan id) h = refl

bridge-alone : (links : List Link) (l : Link) (o : Option LinkKey) → peer_fits links l o ≡ true
    → is_bridge l.kind ≡ true → o ≡ None
bridge-alone links l None fits bridge = refl
bridge-alone links l (Some key) fits bridge = let apart = bridge-no_veth l.kind bridge in grind (arith, fits, apart)

-- links go, and none of them stands in the host's own namespace without a peer
stays-beside : (name : List ℕ) (gone : Link → Bool) (host : Host) → IsSound host
    → ((l : Link) → is_host_ns l.ns ≡ true → l.peer ≡ None → gone l ≡ false) → has_host_bridge host name ≡ true
    → list_any (is_host_bridge name) (filter (λ l. not (gone l)) host.links) ≡ true
stays-beside name gone host sound stays there =
    let none : list_any (λ l. is_host_bridge name l && not (not (gone l))) host.links ≡ false =
    none-by (λ l. peer_fits host.links l l.peer) (λ l. is_host_bridge name l && not (not (gone l)))
    (λ l fits. elim (cases_Bool (is_host_bridge name l)) [
      | inl is ↦
          let parts = and_parts (is_host_link name l) (is_bridge l.kind) is in
          let kept : gone l ≡ false =
          stays l (and_parts (is_host_ns l.ns) (bytes_eq l.name name) parts.0).0
          (bridge-alone host.links l l.peer fits parts.1) in
          grind (arith, is, kept)
      | inr other ↦ grind (arith, other)
    ])
    host.links sound.links.peers in
    list_any-kept (is_host_bridge name) (λ l. not (gone l)) host.links there none

stays-in_ns : (ns : List ℕ) → is_host_ns ns ≡ false → (l : Link) → is_host_ns l.ns ≡ true → l.peer ≡ None
    → goes_with_ns ns l ≡ false
stays-in_ns ns inner l outer alone =
    let apart : bytes_eq l.ns ns ≡ false = other_host l.ns ns outer inner in
    let no_peer : has_peer_in ns l.peer ≡ false = ap (has_peer_in ns) alone in
    grind (arith, apart, no_peer)

stays-at : (ns name : List ℕ) → is_host_ns ns ≡ false → (l : Link) → is_host_ns l.ns ≡ true → l.peer ≡ None
    → goes_with ns name l ≡ false
stays-at ns name inner l outer alone =
    let apart : bytes_eq l.ns ns ≡ false = other_host l.ns ns outer inner in
    let no_peer : is_peer_at ns name l.peer ≡ false = ap (is_peer_at ns name) alone in
    grind (arith, apart, no_peer)

stays-dropped : (name : List ℕ) (host : Host) (key : LinkKey) (o : Option Link) → link_at host key.ns key.name ≡ o
    → is_host_ns key.ns ≡ false → IsSound host → has_host_bridge host name ≡ true
    → has_host_bridge (without_link host o).0 name ≡ true
stays-dropped name host key None found inner sound there = there
stays-dropped name host key (Some link) found inner sound there =
    let at : is_at key.ns key.name link ≡ true = passes-find (is_at key.ns key.name) host.links link found in
    let place : link.ns ≡ key.ns =
    (bytes_eq-Decides link.ns key.ns).0 (and_parts (bytes_eq link.ns key.ns) (bytes_eq link.name key.name) at).0 in
    stays-beside name (goes_with link.ns link.name) host sound
    (stays-at link.ns link.name (ap is_host_ns place ∙ inner)) there

stays-outside : (name : List ℕ) (host : Host) (call : Call) → IsSound host → IsAllowed host call
    → is_from_outside call ≡ true → has_host_bridge host name ≡ true → has_host_bridge (apply host call).0 name ≡ true
stays-outside name host (NsChange ns true) sound allowed from there =
    by_test (λ (step : Host × Reply). has_host_bridge step.0 name ≡ true) (has_named_ns host ns) _ _
    (λ _. there) (λ _. there)
stays-outside name host (NsChange ns false) sound allowed from there =
    by_test (λ (step : Host × Reply). has_host_bridge step.0 name ≡ true) (has_named_ns host ns) _ _
    (λ _. stays-beside name (goes_with_ns ns) host sound (stays-in_ns ns allowed) there) (λ _. there)
stays-outside name host (Outside (DropLink key)) sound allowed from there =
    by_test (λ (step : Host × Reply). has_host_bridge step.0 name ≡ true) (has_named_ns host key.ns) _ _
    (λ _. stays-dropped name host key (link_at host key.ns key.name) refl allowed sound there) (λ _. there)
stays-outside name host (Outside (Flush table)) sound allowed from there = there
stays-outside name host _ sound allowed from there = cc

bridge-outside : (o : Option (List ℕ)) (host : Host) (call : Call) → IsSound host → IsAllowed host call
    → is_from_outside call ≡ true → master_is_bridge_or_none host o ≡ true
    → master_is_bridge_or_none (apply host call).0 o ≡ true
bridge-outside None host call sound allowed from there = refl
bridge-outside (Some name) host call sound allowed from there = stays-outside name host call sound allowed from there

pub bridge-changed : (first : First) (w : World) (n : ℕ) (c : Placed) (call : Call) (faulty : Bool)
    → Changes w n c call faulty → BridgeIn first (host_of w)
    → BridgeIn first (after_entry (host_of w) (entry_of (host_of w) n call faulty))
bridge-changed first w n c call faulty on there =
    on-entry (BridgeIn first) (host_of w) n call faulty there
    (λ f. bridge-outside (bridge_of first) (host_of w) call (sound_host w on.legal) (on.allowed f)
    (change-of w n c call faulty on).call_is there)
