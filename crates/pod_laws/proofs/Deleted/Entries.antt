-- Each entry of a DEL removes own objects alone, and changes nothing where there are none.
use Rattle.pod_laws.proofs.Names.{◌≡◌, List, refl, ap, subst, NetList, is_of_network, Command, apply, IsSound, Call}
use Rattle.pod_laws.proofs.Names.{CacheGet, Kind, Att, Host, Share, share_of, att_of, State, AtBegin, BeforeLeases}
use Rattle.pod_laws.proofs.Names.{Leasing, AfterLeases, ReadingCache, Deleting, Over, Calls, turn, deletion, host_of}
use Rattle.pod_laws.proofs.Names.{Entry, sound_host}
use Rattle.pod_file.specs.declared.command.Verb.TheVariants as verbs
use Rattle.kernel_types.proofs.DropsOwn.{RemovesOwn-apply, RemovesOwn-nothing}
use Rattle.gc_sweep.proofs.{Deletions.deletion-none, Removes.deletes-deletion}
use Rattle.pod_laws.specs.{Deleted.{DeletesOwnAlone, EachDeletionIsOwn}, Moments.own_entries}
use Rattle.pod_laws.proofs.Histories.{EachEntry.{DoesByVerb, each-entry_of}, Runs.{every-run-now, own-state}}
use Rattle.pod_laws.proofs.{Histories.{States.{IsOtherVerb, not-both}, Steps.on-entry}, Refused.Runs.undone-start}
use Rattle.pod_laws.proofs.Refused.{Runs.undone-step, Undoing.Undoing}

-- ---- one entry

deletes-nothing : (att : Att) (k : Host) → DeletesOwnAlone att k k
deletes-nothing att k = record { removes = RemovesOwn-nothing att k; repeated = λ none. refl }

deletes-kind : (att : Att) (k : Host) (kind : Kind) → IsSound k → DeletesOwnAlone att k (apply k (deletion att kind)).0
deletes-kind att k kind sound = record {
  removes = RemovesOwn-apply k (deletion att kind) att sound (deletes-deletion att kind);
  repeated = deletion-none att k kind;
}

abbrev DeletesBy : Command → Host → Call → Type 0
DeletesBy c k call = DeletesOwnAlone (att_of c) k (apply k call).0

-- a DEL reads its cached result or deletes
turn-deletes : (list : NetList) (c : Command) (es : List Entry) (st : State) (s : Share) (k : Host) (call : Call)
    → c.verb ≡ verbs.Del → IsSound k → turn c st ≡ Calls call → Undoing list c es st s → DeletesBy c k call
unfolding turn
turn-deletes list c es AtBegin s k call verb sound is was = absurd (not-both c was.verb verb)
turn-deletes list c es (BeforeLeases x xs) s k call verb sound is was = absurd (not-both c was.verb verb)
turn-deletes list c es (Leasing set sets given) s k call verb sound is was = absurd (not-both c was.verb verb)
turn-deletes list c es (AfterLeases x xs given) s k call verb sound is was = absurd (not-both c was.verb verb)
turn-deletes list c es (ReadingCache ending) s k call verb sound is was =
    subst (DeletesBy c k) (let e : CacheGet (att_of c) ≡ call = cc in e) (deletes-nothing (att_of c) k)
turn-deletes list c es (Deleting kind ks ending) s k call verb sound is was =
    subst (DeletesBy c k) (let e : deletion (att_of c) kind ≡ call = cc in e) (deletes-kind (att_of c) k kind sound)
turn-deletes list c es (Over ending given) s k call verb sound is was = cc
turn-deletes list c es _ s k call verb sound is was = absurd (subst IsOtherVerb verb was)

-- ---- every history

deletes-now : DoesByVerb (λ v. v ≡ verbs.Del) (λ c. DeletesOwnAlone (att_of c))
deletes-now w n c list call faulty on verb =
    let own = own-state w n c list call faulty on in
    on-entry (λ k. DeletesOwnAlone (att_of c.command) (host_of w) k) (host_of w) n call faulty
    (deletes-nothing (att_of c.command) (host_of w))
    (λ f. turn-deletes list c.command (own_entries n w.history) _ (share_of (att_of c.command) (host_of w))
    (host_of w) call verb (sound_host w on.legal) own.turn_is
    (every-run-now Undoing undone-start undone-step w n c list call faulty on))

pub each_deletion_is_own : EachDeletionIsOwn
each_deletion_is_own =
    each-entry_of (λ v. v ≡ verbs.Del) (λ c. DeletesOwnAlone (att_of c)) (λ v is. ap is_of_network is) deletes-now
