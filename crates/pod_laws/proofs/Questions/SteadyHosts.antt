-- What a command asks of a host stays between its entries: its attachment's share, each bridge, and all where it stands
-- alone.
use Rattle.pod_laws.proofs.Names.{◌≡◌, ℕ, Bool, true, false, List, refl, ◌∙◌, and_parts, both_ways, mac_eq, Mac}
use Rattle.pod_laws.proofs.Names.{NetList, is_exclusive_verb, Command, IsAllowed, apply, has_object, is_from_outside}
use Rattle.pod_laws.proofs.Names.{IsSound, is_bridge_with, is_host_bridge, Call, BridgeAt, Host, share_of, att_of}
use Rattle.pod_laws.proofs.Names.{Placed, World, entry_of, host_of, after_entry, sound_host}
use Rattle.pod_laws.proofs.Added.HostBridges.{bridge-stays, passes-host_bridges, turn-inside}
use Rattle.pod_laws.proofs.Histories.{RunFacts.IsKeptBetween, Runs.kept-between, Steps.{GoesOn, on-entry}}
use Rattle.pod_laws.proofs.Histories.Turns.{turn-of}

-- ---- a bridge of the host stays, with its MAC address

-- each bridge of the one host is in the other
abbrev pub KeepsBridges : Host → Host → Type 0
KeepsBridges old new =
    (name : List ℕ) (mac : Mac) → has_object old (BridgeAt name mac) ≡ true → has_object new (BridgeAt name mac) ≡ true

bridges-stay : (host : Host) (call : Call) → IsSound host → IsAllowed host call → is_from_outside call ≡ false
    → KeepsBridges host (apply host call).0
bridges-stay host call sound allowed inside = λ name mac.
    bridge-stays (is_bridge_with name mac)
    (λ l is. passes-host_bridges name l (and_parts (is_host_bridge name l) (mac_eq l.mac mac) is).0) host call
    sound allowed inside

bridges-entered : (w : World) (n : ℕ) (c : Placed) (list : NetList) (call : Call) (faulty : Bool)
    → GoesOn w n c list call faulty
    → KeepsBridges (host_of w) (after_entry (host_of w) (entry_of (host_of w) n call faulty))
bridges-entered w n c list call faulty on =
    on-entry (KeepsBridges (host_of w)) (host_of w) n call faulty (λ name mac there. there)
    (λ f. bridges-stay (host_of w) call (sound_host w on.legal) (on.allowed f)
    (turn-inside c.command call (turn-of w n c list call faulty on)))

-- ---- what stays between a command's entries

pub record KeepsAsked (c : Command) (old new : Host) : Type 0 where
  pub share : share_of (att_of c) new ≡ share_of (att_of c) old
  pub bridges : KeepsBridges old new
  pub alone : is_exclusive_verb c.verb ≡ true → new ≡ old

pub keeps-same : (c : Command) (host : Host) → KeepsAsked c host host
keeps-same c host = record { share = refl; bridges = λ name mac there. there; alone = λ exclusive. refl }

-- an entry of another command, where neither stands alone
keeps-on : (w : World) (n : ℕ) (c : Placed) (list : NetList) (call : Call) (faulty : Bool) (d : Command) (old : Host)
    → GoesOn w n c list call faulty → is_exclusive_verb d.verb ≡ false
    → share_of (att_of d) (after_entry (host_of w) (entry_of (host_of w) n call faulty))
    ≡ share_of (att_of d) (host_of w)
    → KeepsAsked d old (host_of w) → KeepsAsked d old (after_entry (host_of w) (entry_of (host_of w) n call faulty))
keeps-on w n c list call faulty d old on beside kept was = record {
  share = kept ∙ was.share;
  bridges = λ name mac there. bridges-entered w n c list call faulty on name mac (was.bridges name mac there);
  alone = λ exclusive. absurd (both_ways (is_exclusive_verb d.verb) beside exclusive);
}

-- what a command asks is kept between its entries
pub asked-kept : IsKeptBetween KeepsAsked
asked-kept = kept-between KeepsAsked (record { same = keeps-same; beside = keeps-on })
