-- At every moment each attachment has only what its last ADD that began asks for.
use Rattle.pod_laws.proofs.Names.{◌≡◌, ◌≢◌, ℕ, ◌+◌, Bool, true, false, List, [], ◌∷◌, ◌++◌, map, length, refl, sym, ◌∙◌}
use Rattle.pod_laws.proofs.Names.{ap, subst, inl, inr, append_assoc, cases_Bool, both_ways, map-append, Addr, RangeSet}
use Rattle.pod_laws.proofs.Names.{NetList, att_eq, IsSound, lease_of, Call, Begin, LeaseNext, CacheGet, Done, Leased}
use Rattle.pod_laws.proofs.Names.{Att, Host, att_eq-refl, att_eq-same, is_plugin_call_of, is_call_of, Share, share_of}
use Rattle.pod_laws.proofs.Names.{no_objects, share_after_call, share_after_calls, share_after_calls-append}
use Rattle.pod_laws.proofs.Names.{share-other, refused-same, refused-lease, State, AtBegin, BeforeLeases, Leasing}
use Rattle.pod_laws.proofs.Names.{AfterLeases, ReadingCache, Deleting, FindingEntry, Asking, Changing, Collecting, Over}
use Rattle.pod_laws.proofs.Names.{Calls, before_of, back_of, turn, leases_in, att_of, deletion, sets_of, Placed, World}
use Rattle.pod_laws.proofs.Names.{done, entry_of, host_of, after_entry, replies_of, reply_to, Entry, Plan, after-append}
use Rattle.pod_laws.proofs.Names.{replies_of-other, LeftAreOfPlugins, other_number, ready_is, sound_host, done_or_not}
use Rattle.pod_laws.proofs.Names.{leased_or_not, opening-share}
use Rattle.kernel_types.proofs.ChangeLemmas.{DropsOnly-nothing}
use Rattle.pod_laws.specs.{AskedFor.{AreAskedFor, HasNothingUnasked, IsPart, NothingIsUnasked}, Moments.objects_after}
use Rattle.pod_laws.specs.Moments.{own_entries}
use Rattle.pod_laws.proofs.Added.Achieved.{Achieved, achieved-start, achieved-step, lease-fits, leased-done}
use Rattle.pod_laws.proofs.Added.Achieved.{leased-push, leased-same, leased_in, leases-one, own-made, with_leases}
use Rattle.pod_laws.proofs.AskedFor.AskedWith.{IsAskedWith, making-now, with-before_leases, with-leasing}
use Rattle.pod_laws.proofs.AskedFor.{AskedWith.{with-after_leases, candidates-more}, Quiet.plugin-no_lease}
use Rattle.pod_laws.proofs.AskedFor.{Quiet.{lease-no_lease, outside-no_lease}, StillAsked.{asked-still, NextAsked}}
use Rattle.pod_laws.proofs.AskedFor.StillAsked.{quiet-now, begin-now, question-now, deletion-now, aside-now}
use Rattle.pod_laws.proofs.Histories.Begins.{begin-apart, not-begins, outside-no_begin, plugin-no_begin}
use Rattle.pod_laws.proofs.Histories.{Runs.{every-run-now, own-state}, States.{LeftFit, asked-is_question}}
use Rattle.pod_laws.proofs.Histories.{Steps.{Changes, GoesOn, by-entries, on-entry}, Turns.{change-of, removes-changed}}
use Rattle.pod_laws.proofs.{Histories.Turns.{turn-of, work-turn}, Refused.{Causes.plugin-may, Runs.undone-start}}
use Rattle.pod_laws.proofs.Refused.{Runs.undone-step, Undoing.{Undoing, IsUnrefused}}

-- ---- a call of an ADD that goes on

-- a plugin's call that was not done, and a lease that found nothing, leave the share
refused-entered : (att : Att) (k : Host) (n : ℕ) (call : Call) (faulty : Bool) → is_plugin_call_of att call ≡ true
    → (reply_to k call faulty ≡ Done → ⊥) → share_of att (after_entry k (entry_of k n call faulty)) ≡ share_of att k
refused-entered att k n call faulty own not =
    on-entry (λ j. share_of att j ≡ share_of att k) k n call faulty refl
    (λ f. ap (share_of att) (refused-same att k call own (λ d. not (ap (reply_to k call) f ∙ d))))

unleased-entered : (att : Att) (k : Host) (n : ℕ) (place : ℕ) (set : RangeSet) (faulty : Bool)
    → ((a : Addr) → reply_to k (LeaseNext att place set) faulty ≡ Leased a → ⊥)
    → share_of att (after_entry k (entry_of k n (LeaseNext att place set) faulty)) ≡ share_of att k
unleased-entered att k n place set faulty not =
    on-entry (λ j. share_of att j ≡ share_of att k) k n (LeaseNext att place set) faulty refl (λ f.
    ap (share_of att)
    (refused-lease k att place set (λ a d. not a (ap (reply_to k (LeaseNext att place set)) f ∙ d))))

-- a call of a part of the plugins' calls, after these, where each prefix of that part leaves what is asked for
of_plugins-now : (w : World) (n : ℕ) (c : Placed) (list : NetList) (x : Call) (xs : List Call) (given : List Addr)
    (start : Share) (all made : List Call) (faulty : Bool)
    → GoesOn w n c list x faulty → is_plugin_call_of (att_of c.command) x ≡ true
    → IsUnrefused c.command (own_entries n w.history) → all ≡ made ++ x ∷ xs
    → share_of (att_of c.command) (host_of w) ≡ share_after_calls start made
    → leased_in (own_entries n w.history) ≡ given
    → ((front left : List Call) → all ≡ front ++ left
    → IsAskedWith list c.command given (share_after_calls start front))
    → NextAsked w n (att_of c.command) faulty x
of_plugins-now w n c list x xs given start all made faulty on own un part was leased asked =
    let k = host_of w in
    let att = att_of c.command in
    let e = entry_of k n x faulty in
    let es = own_entries n w.history in
    elim (done_or_not (reply_to k x faulty)) [
      | inl done ↦
          let share =
          own-made att k n x faulty own done
          ∙ ap (λ u. share_after_call u x) was
          ∙ sym (share_after_calls-append start made (x ∷ [])) in
          making-now w n c list x faulty on un (plugin-no_begin att att x own) given
          (leased-done es e given done leased)
          (subst (IsAskedWith list c.command given) (sym share)
          (asked (made ++ x ∷ []) xs (part ∙ sym (append_assoc made (x ∷ []) xs))))
      | inr not ↦
          let share = refused-entered att k n x faulty own not ∙ was in
          making-now w n c list x faulty on un (plugin-no_begin att att x own) given
          (leased-same es e given (plugin-no_lease (reply_to k x faulty) (plugin-may att k x faulty own)) leased)
          (subst (IsAskedWith list c.command given) (sym share) (asked made (x ∷ xs) part))
    ]

lease-now : (w : World) (n : ℕ) (c : Placed) (list : NetList) (set : RangeSet) (sets : List RangeSet)
    (given : List Addr) (faulty : Bool)
    → GoesOn w n c list (LeaseNext (att_of c.command) (length given) set) faulty
    → IsUnrefused c.command (own_entries n w.history)
    → Achieved list c.command (own_entries n w.history) (Leasing set sets given)
    (share_of (att_of c.command) (host_of w))
    → NextAsked w n (att_of c.command) faulty (LeaseNext (att_of c.command) (length given) set)
lease-now w n c list set sets given faulty on un ach =
    let k = host_of w in
    let att = att_of c.command in
    let call = LeaseNext att (length given) set in
    let e = entry_of k n call faulty in
    let es = own_entries n w.history in
    elim (leased_or_not (reply_to k call faulty)) [
      | inl leased ↦
          let a = leased.0 in
          let more : map (lease_of att) given ++ lease_of att a ∷ [] ≡ map (lease_of att) (given ++ a ∷ []) =
          sym (map-append (lease_of att) given (a ∷ [])) in
          let share =
          leases-one att (length given) set k n faulty a leased.1
          ∙ ap (λ (u : Share). record u { leases = u.leases ++ lease_of att a ∷ [] }) ach.3
          ∙ ap (λ l. record (share_after_calls no_objects (before_of list c.command)) { leases = l }) more in
          making-now w n c list call faulty on un refl (given ++ a ∷ [])
          (leased-push es e ∙ ap (λ q. leased_in es ++ leases_in (q ∷ [])) leased.1 ∙ ap (λ l. l ++ a ∷ []) ach.4)
          (subst (IsAskedWith list c.command (given ++ a ∷ [])) (sym share)
          (with-leasing list c.command (given ++ a ∷ [])
          (candidates-more (sets_of list) ach.0 sets set given a ach.1 ach.2
          (lease-fits k att (length given) set faulty a leased.1))))
      | inr not ↦
          let share = unleased-entered att k n (length given) set faulty not ∙ ach.3 in
          making-now w n c list call faulty on un refl given
          (leased-same es e given (lease-no_lease (reply_to k call faulty) not) ach.4)
          (subst (IsAskedWith list c.command given) (sym share)
          (with-leasing list c.command given
          (record { past = ach.0; left = set ∷ sets; are = ach.1; candidates = ach.2 })))
    ]

-- ---- every entry

abbrev OwnAsked : World → ℕ → Placed → NetList → Bool → Call → Type 0
OwnAsked w n c list faulty call = GoesOn w n c list call faulty → NextAsked w n (att_of c.command) faulty call

own-asked : (w : World) (n : ℕ) (c : Placed) (list : NetList) (call : Call) (faulty : Bool) (st : State)
    → IsSound (host_of w) → LeftAreOfPlugins list c.command st → LeftFit list c.command st
    → turn c.command st ≡ Calls call
    → Undoing list c.command (own_entries n w.history) st (share_of (att_of c.command) (host_of w))
    → Achieved list c.command (own_entries n w.history) st (share_of (att_of c.command) (host_of w))
    → HasNothingUnasked w.plan w.history (att_of c.command)
    → OwnAsked w n c list faulty call
unfolding turn
own-asked w n c list call faulty AtBegin sound left fit is un ach was =
    subst (OwnAsked w n c list faulty) (let e : Begin (att_of c.command) c.command.netns ≡ call = cc in e)
    (λ on. begin-now w n (att_of c.command) c.command.netns faulty was)
own-asked w n c list call faulty (BeforeLeases x xs) sound left fit is un ach was =
    subst (OwnAsked w n c list faulty) (let e : x ≡ call = cc in e)
    (λ on. of_plugins-now w n c list x xs [] no_objects (before_of list c.command) ach.0 faulty on left.0.0.0 un ach.1
    ach.2 ach.3 (with-before_leases list c.command))
own-asked w n c list call faulty (Leasing set sets given) sound left fit is un ach was =
    subst (OwnAsked w n c list faulty) (let e : LeaseNext (att_of c.command) (length given) set ≡ call = cc in e)
    (λ on. lease-now w n c list set sets given faulty on un ach)
own-asked w n c list call faulty (AfterLeases x xs given) sound left fit is un ach was =
    subst (OwnAsked w n c list faulty) (let e : x ≡ call = cc in e)
    (λ on. of_plugins-now w n c list x xs given (with_leases list c.command given) (back_of list c.command given) ach.0
    faulty on left.0.0 un ach.1 ach.3 ach.4 (with-after_leases list c.command given ach.2))
own-asked w n c list call faulty (ReadingCache ending) sound left fit is un ach was =
    subst (OwnAsked w n c list faulty) (let e : CacheGet (att_of c.command) ≡ call = cc in e)
    (λ on. question-now w n (att_of c.command) (CacheGet (att_of c.command)) faulty refl was)
own-asked w n c list call faulty (Deleting kind ks ending) sound left fit is un ach was =
    subst (OwnAsked w n c list faulty) (let e : deletion (att_of c.command) kind ≡ call = cc in e)
    (λ on. deletion-now w n (att_of c.command) (att_of c.command) faulty kind sound was)
own-asked w n c list call faulty FindingEntry sound left fit is un ach was =
    subst (OwnAsked w n c list faulty) (let e : CacheGet (att_of c.command) ≡ call = cc in e)
    (λ on. question-now w n (att_of c.command) (CacheGet (att_of c.command)) faulty refl was)
own-asked w n c list call faulty (Asking q qs) sound left fit is un ach was =
    subst (OwnAsked w n c list faulty) (let e : q.call ≡ call = cc in e)
    (λ on. question-now w n (att_of c.command) q.call faulty (asked-is_question list q.call fit.0) was)
own-asked w n c list call faulty (Changing change) sound left fit is un ach was = absurd fit
own-asked w n c list call faulty (Collecting work faults) sound left fit is un ach was = λ on.
    aside-now w n c.command (att_of c.command) call faulty sound
    (work-turn c.command work.jobs work.sweeps faults call fit is) was
own-asked w n c list call faulty (Over ending given) sound left fit is un ach was = cc

-- a call of another attachment
other-asked : (w : World) (n : ℕ) (c : Placed) (list : NetList) (call : Call) (faulty : Bool) (att : Att)
    → GoesOn w n c list call faulty → att_eq (att_of c.command) att ≡ false → is_call_of (att_of c.command) call ≡ true
    → HasNothingUnasked w.plan w.history att
    → NextAsked w n att faulty call
other-asked w n c list call faulty att on differ own was =
    let h = w.history in
    let e = entry_of (host_of w) n call faulty in
    let kept : share_of att (after_entry (host_of w) e) ≡ share_of att (host_of w) =
    on-entry (λ k. share_of att k ≡ share_of att (host_of w)) (host_of w) n call faulty refl
    (λ f.
    share-other (att_of c.command) att (host_of w) call differ (sound_host w on.legal)
    (on.allowed f) own) in
    let same_share : objects_after w.plan att (h ++ e ∷ []) ≡ objects_after w.plan att h =
    ap (share_of att) (after-append w.plan.pods.opening h e) ∙ kept in
    elim was [
      | inl none ↦ inl (same_share ∙ none)
      | inr a ↦
          let far : e.command ≢ a.place + 1 = other_number e n a.place refl (λ place.
          let by : a.by ≡ c = ready_is w n a.place c a.by on.ready place a.there in
          let att_is : att_of c.command ≡ att = ap (λ (x : Placed). att_of x.command) (sym by) ∙ a.attachment in
          both_ways (att_eq (att_of c.command) att) differ
          (ap (att_eq (att_of c.command)) (sym att_is) ∙ att_eq-refl (att_of c.command))) in
          let old = objects_after w.plan att h in
          inr (asked-still w.plan h e att a (not-begins att e (begin-apart (att_of c.command) att call differ own))
          (ap leases_in (replies_of-other a.place h e far))
          (subst (λ (u : Share). IsPart u.cached old.cached) (sym same_share)
          (DropsOnly-nothing (λ c. true) old.cached))
          (subst (AreAskedFor a.list a.by.command (leases_in (replies_of a.place h)))
          (sym same_share) a.objects))
    ]

abbrev AllAsked : Plan → List Entry → Type 0
AllAsked p h = (att : Att) → HasNothingUnasked p h att

asked-kept : (w : World) (n : ℕ) (c : Placed) (list : NetList) (call : Call) (faulty : Bool)
    → GoesOn w n c list call faulty → AllAsked w.plan w.history
    → AllAsked w.plan (w.history ++ entry_of (host_of w) n call faulty ∷ [])
asked-kept w n c list call faulty on was = λ att.
    elim (cases_Bool (att_eq (att_of c.command) att)) [
      | inl same ↦
          let atts : att_of c.command ≡ att = att_eq-same (att_of c.command) att same in
          let own = own-state w n c list call faulty on in
          subst (λ a. NextAsked w n a faulty call) atts
          (own-asked w n c list call faulty _ (sound_host w on.legal) own.of_plugins own.fits own.turn_is
          (every-run-now Undoing undone-start undone-step w n c list call faulty on)
          (every-run-now Achieved achieved-start achieved-step w n c list call faulty on) (was (att_of c.command))
          on)
      | inr differ ↦ elim (turn-of w n c list call faulty on) [
        | inl own ↦ other-asked w n c list call faulty att on differ own (was att)
        | inr aside ↦ aside-now w n c.command att call faulty (sound_host w on.legal) aside (was att)
      ]
    ]

asked-changed : (w : World) (n : ℕ) (c : Placed) (call : Call) (faulty : Bool) → Changes w n c call faulty
    → AllAsked w.plan w.history → AllAsked w.plan (w.history ++ entry_of (host_of w) n call faulty ∷ [])
asked-changed w n c call faulty on was = λ att.
    let from = (change-of w n c call faulty on).call_is in
    quiet-now w n att faulty call (not-begins att (entry_of (host_of w) n call faulty) (outside-no_begin att call from))
    (outside-no_lease (host_of w) call faulty from) (removes-changed w n c call faulty on) (was att)

pub nothing_is_unasked : NothingIsUnasked
nothing_is_unasked w legal att =
    by-entries AllAsked (λ p well a. inl (opening-share a p.pods.opening well.pods.opening)) asked-kept asked-changed
    w legal att
