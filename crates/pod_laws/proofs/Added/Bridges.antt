-- The bridge of a list is there from the moment when its plugin ensured it.
use Rattle.pod_laws.proofs.Names.{◌≡◌, ◌≢◌, ℕ, ◌+◌, Bool, true, false, List, [], ◌∷◌, ◌++◌, length, Option, Some, None}
use Rattle.pod_laws.proofs.Names.{slice_get, refl, sym, ◌∙◌, ap, subst, inl, inr, ◌⊎◌, arith, cases_Bool, eqb_tells}
use Rattle.pod_laws.proofs.Names.{bytes_eq-Decides, nat_list_eq_equiv, list_any, find, if◌then◌else◌, bytes_eq, Addr}
use Rattle.pod_laws.proofs.Names.{RangeSet, First, NetList, Command, apply, bridge_or_new, new_bridge}
use Rattle.pod_laws.proofs.Names.{master_is_bridge_or_none, is_bridge, is_host_bridge, is_host_link, has_host_bridge}
use Rattle.pod_laws.proofs.Names.{Call, BridgeEnsure, Kind, Reply, Done, Taken, Att, Host, Link, Tag}
use Rattle.pod_laws.proofs.Names.{list_any-append_right, passes-find, ensures_bridge, att_of, Ending, State, AtBegin}
use Rattle.pod_laws.proofs.Names.{BeforeLeases, Leasing, AfterLeases, ReadingCache, Deleting, FindingEntry, Asking}
use Rattle.pod_laws.proofs.Names.{Changing, Collecting, Over, Calls, before_of, back_of, after_leases, leasing}
use Rattle.pod_laws.proofs.Names.{before_leases, deleting, at_call_before, advance, turn, bridge_of, calls_before}
use Rattle.pod_laws.proofs.Names.{kinds_of, sets_of, first_laws, Legal, Placed, commands_of, list_for, World, after}
use Rattle.pod_laws.proofs.Names.{entry_of, host_of, after_entry, replies_of, reply_to, Entry, Plan, after-append}
use Rattle.pod_laws.proofs.Names.{replies_of-other, other_number, by-cache, by-deletion, host-made}
use Rattle.cni_addr.proofs.Lists.{list_any-found}
use Rattle.plugin_base.specs.PluginCalls.{is_ensured}
use Rattle.pod_workers.proofs.Hosts.Replies.{by-begin, by-lease, by-call_after}
use Rattle.pod_laws.specs.Moments.{is_of, own_entries}
use Rattle.pod_laws.proofs.{Added.HostBridges.{BridgeIn, bridge-entered}, Histories.Entries.{apart-entry, is_of-own}}
use Rattle.pod_laws.proofs.Histories.{Entries.{no-entries, own_entries-own, own_entries-other}, RunFacts.state_by}
use Rattle.pod_laws.proofs.Histories.{RunFacts.state_by-append, Runs.own-state, States.{IsAside, aside-advance}}
use Rattle.pod_laws.proofs.Histories.{States.{by-aside, by-start}, Steps.{AllOpen, Changes, GoesOn, IsOpenKept}}
use Rattle.pod_laws.proofs.Histories.{Steps.{OpenFact, at_its_place, by-open, no_list_there}, Turns.alone-outside}

-- ---- until it is ensured

-- the bridge is there, or is still to be ensured
abbrev pub BridgeComes : First → List Call → Host → Type 0
BridgeComes first calls host = (list_any (ensures_bridge (bridge_of first)) calls ≡ true) ⊎ BridgeIn first host

abbrev pub HasBridge : NetList → State → Host → Type 0
HasBridge list AtBegin host = Unit {0}
HasBridge list (BeforeLeases next left) host = BridgeComes list.first (next ∷ left) host
HasBridge list (Leasing next left given) host = BridgeIn list.first host
HasBridge list (AfterLeases next left given) host = BridgeIn list.first host
HasBridge list (ReadingCache ending) host = Unit {0}
HasBridge list (Deleting next left ending) host = Unit {0}
HasBridge list FindingEntry host = Unit {0}
HasBridge list (Asking next left) host = Unit {0}
HasBridge list (Changing change) host = Unit {0}
HasBridge list (Collecting work faults) host = Unit {0}
HasBridge list (Over ending given) host = Unit {0}

-- ---- where it is ensured

done-bridge : (b : Bool) (t : Tag) → (if b then Done else Taken t) ≡ Done → b ≡ true
done-bridge true t h = refl
done-bridge false t h = cc

ensured : (host : Host) (name : List ℕ) (o : Option Link) (mtu : ℕ) (promisc : Bool)
    → find (is_host_link name) host.links ≡ o → (bridge_or_new host o (new_bridge name mtu promisc)).1 ≡ Done
    → has_host_bridge (bridge_or_new host o (new_bridge name mtu promisc)).0 name ≡ true
ensured host name None mtu promisc found done =
    list_any-append_right (is_host_bridge name) host.links (new_bridge name mtu promisc ∷ [])
    (grind (arith, nat_list_eq_equiv.refl name))
ensured host name (Some link) mtu promisc found done =
    let there : is_host_link name link ≡ true = passes-find (is_host_link name) host.links link found in
    let bridge : is_bridge link.kind ≡ true = done-bridge (is_bridge link.kind) link.tag done in
    list_any-found (is_host_link name) (is_host_bridge name) host.links link found (grind (arith, there, bridge))

in-bridge : (bridge name : List ℕ) (host : Host) → bytes_eq name bridge ≡ true → has_host_bridge host name ≡ true
    → has_host_bridge host bridge ≡ true
in-bridge bridge name host same there = ap (has_host_bridge host) (sym ((bytes_eq-Decides name bridge).0 same)) ∙ there

ensured-made : (bridge : Option (List ℕ)) (host : Host) (call : Call) → ensures_bridge bridge call ≡ true
    → (apply host call).1 ≡ Done → master_is_bridge_or_none (apply host call).0 bridge ≡ true
ensured-made None host call is done = refl
ensured-made (Some bridge) host (BridgeEnsure name mtu promisc) is done =
    in-bridge bridge name (apply host (BridgeEnsure name mtu promisc)).0 is
    (ensured host name (find (is_host_link name) host.links) mtu promisc refl done)
ensured-made (Some bridge) host _ is done = cc

ensured-entered : (first : First) (k : Host) (n : ℕ) (call : Call) (faulty : Bool)
    → ensures_bridge (bridge_of first) call ≡ true → reply_to k call faulty ≡ Done
    → BridgeIn first (after_entry k (entry_of k n call faulty))
ensured-entered first k n call true is done = cc
ensured-entered first k n call false is done =
    subst (BridgeIn first) (sym (host-made k n call)) (ensured-made (bridge_of first) k call is done)

-- the calls before the leases ensure it first
to-come : (bridge : Option (List ℕ)) (calls : List Call) (host : Host) → is_ensured bridge calls ≡ true
    → (list_any (ensures_bridge bridge) calls ≡ true) ⊎ (master_is_bridge_or_none host bridge ≡ true)
to-come None calls host h = inr refl
to-come (Some bridge) calls host h = inl h

comes-before : (first : First) (att : Att) (netns : List ℕ) (host : Host)
    → BridgeComes first (calls_before first att netns) host
comes-before first att netns host =
    to-come (bridge_of first) (calls_before first att netns) host ((first_laws first).before att netns).ensured

-- ---- one entry

to-after_leases : (list : NetList) (left : List Call) (given : List Addr) (host : Host) → BridgeIn list.first host
    → HasBridge list (after_leases left given) host
to-after_leases list [] given host h = tt
to-after_leases list (x ∷ xs) given host h = h

to-leasing : (list : NetList) (c : Command) (left : List RangeSet) (given : List Addr) (host : Host)
    → BridgeIn list.first host → HasBridge list (leasing list c left given) host
to-leasing list c [] given host h = to-after_leases list (back_of list c given) given host h
to-leasing list c (x ∷ xs) given host h = h

to-before_leases : (list : NetList) (c : Command) (left : List Call) (host : Host) → BridgeComes list.first left host
    → HasBridge list (before_leases list c left) host
to-before_leases list c [] host h =
    elim h [ inl none ↦ cc | inr there ↦ to-leasing list c (sets_of list) [] host there ]
to-before_leases list c (x ∷ xs) host h = h

to-deleting : (list : NetList) (ks : List Kind) (ending : Ending) (host : Host)
    → HasBridge list (deleting ks ending) host
to-deleting list [] ending host = tt
to-deleting list (k ∷ ks) ending host = tt

bridge-before : (list : NetList) (c : Command) (number : ℕ) (left : List Call) (r : Reply) (host : Host)
    → (r ≡ Done → BridgeComes list.first left host) → HasBridge list (at_call_before list c number left r) host
bridge-before list c number left Done host h = to-before_leases list c left host (h refl)
bridge-before list c number left _ host h = tt

-- a call before the leases that was done
comes-done : (first : First) (k : Host) (n : ℕ) (x : Call) (xs : List Call) (faulty : Bool)
    → (BridgeIn first k → BridgeIn first (after_entry k (entry_of k n x faulty))) → BridgeComes first (x ∷ xs) k
    → reply_to k x faulty ≡ Done
    → BridgeComes first xs (after_entry k (entry_of k n x faulty))
comes-done first k n x xs faulty stays (inr there) done = inr (stays there)
comes-done first k n x xs faulty stays (inl left) done = elim (cases_Bool (ensures_bridge (bridge_of first) x)) [
  | inl mine ↦ inr (ensured-entered first k n x faulty mine done)
  | inr other ↦ inl (grind (arith, left, other))
]

bridge-aside : (list : NetList) (st : State) (host : Host) → IsAside st → HasBridge list st host
bridge-aside list st host =
    by-aside (λ x. HasBridge list x host) tt (λ next left. tt) (λ change. tt) (λ work faults. tt)
    (λ ending given none. tt) st

bridge-advance : (list : NetList) (c : Command) (number : ℕ) (st : State) (k : Host) (n : ℕ)
    (call : Call) (faulty : Bool)
    → turn c st ≡ Calls call → (BridgeIn list.first k → BridgeIn list.first (after_entry k (entry_of k n call faulty)))
    → HasBridge list st k
    → HasBridge list (advance list c number st (reply_to k call faulty)) (after_entry k (entry_of k n call faulty))
unfolding turn advance
bridge-advance list c number AtBegin k n call faulty is stays was =
    let host = after_entry k (entry_of k n call faulty) in
    by-begin (λ st. HasBridge list st host) list c number _ (λ cause. tt)
    (to-before_leases list c (before_of list c) host (comes-before list.first (att_of c) c.netns host))
bridge-advance list c number (BeforeLeases x xs) k n call faulty is stays was =
    bridge-before list c number xs _ (after_entry k (entry_of k n call faulty))
    (λ done.
    let e : call ≡ x = cc in
    comes-done list.first k n call xs faulty stays
    (subst (λ j. BridgeComes list.first (j ∷ xs) k) (sym e) was) done)
bridge-advance list c number (Leasing set sets given) k n call faulty is stays was =
    let host = after_entry k (entry_of k n call faulty) in
    by-lease (λ st. HasBridge list st host) list c number sets given _ (λ cause. tt)
    (λ addr. to-leasing list c sets (given ++ addr ∷ []) host (stays was))
bridge-advance list c number (AfterLeases x xs given) k n call faulty is stays was =
    let host = after_entry k (entry_of k n call faulty) in
    by-call_after (λ st. HasBridge list st host) number xs given _ (λ cause. tt)
    (to-after_leases list xs given host (stays was))
bridge-advance list c number (ReadingCache ending) k n call faulty is stays was =
    let host = after_entry k (entry_of k n call faulty) in
    by-cache (λ st. HasBridge list st host) list number ending _ tt (to-deleting list (kinds_of list) ending host)
bridge-advance list c number (Deleting kind ks ending) k n call faulty is stays was =
    let host = after_entry k (entry_of k n call faulty) in
    by-deletion (λ st. HasBridge list st host) number kind ks ending _ tt tt (to-deleting list ks ending host)
bridge-advance list c number (Over ending given) k n call faulty is stays was = cc
bridge-advance list c number st k n call faulty is stays was =
    let r = reply_to k call faulty in
    bridge-aside list (advance list c number st r) (after_entry k (entry_of k n call faulty))
    (aside-advance list c number st r tt)

-- ---- every history

bridge-stands : (list : NetList) (st : State) (old new : Host) → (BridgeIn list.first old → BridgeIn list.first new)
    → HasBridge list st old → HasBridge list st new
bridge-stands list AtBegin old new stays was = tt
bridge-stands list (BeforeLeases x xs) old new stays was =
    elim was [ inl left ↦ inl left | inr there ↦ inr (stays there) ]
bridge-stands list (Leasing set sets given) old new stays was = stays was
bridge-stands list (AfterLeases x xs given) old new stays was = stays was
bridge-stands list _ old new stays was = tt

-- the bridge of each run that isn't answered
abbrev RunBridge : OpenFact
RunBridge p h m d =
    (list : NetList) → list_for p d.command ≡ Some list
    → HasBridge list (state_by list d.command (own_entries m h)) (after p.pods.opening h)

-- a run that has made no call
bridge-begun : (p : Plan) (h : List Entry) (m : ℕ) (d : Placed) → replies_of m h ≡ [] → RunBridge p h m d
bridge-begun p h m d none = λ list listed.
    let no_entry : own_entries m h ≡ [] = no-entries (own_entries m h) none in
    subst (λ es. HasBridge list (state_by list d.command es) (after p.pods.opening h)) (sym no_entry)
    (by-start (λ st. HasBridge list st (after p.pods.opening h)) list d.command d.command.verb
    (λ st aside. bridge-aside list st (after p.pods.opening h) aside) tt tt)

bridge-own : (w : World) (n m : ℕ) (c d : Placed) (list : NetList) (call : Call) (faulty : Bool)
    → GoesOn w n c list call faulty → m ≡ n → slice_get (commands_of w.plan) m ≡ Some d → AllOpen RunBridge w
    → RunBridge w.plan (w.history ++ entry_of (host_of w) n call faulty ∷ []) m d
bridge-own w n m c d list call faulty on here at was = λ other listed.
    let h = w.history in
    let k = host_of w in
    let e = entry_of k n call faulty in
    let es = own_entries n h in
    let now =
    bridge-advance list c.command (length es + 1) (state_by list c.command es) k n call faulty
    (own-state w n c list call faulty on).turn_is (bridge-entered list.first w n c list call faulty on)
    (was n c on.ready.there on.ready.unanswered list on.listed) in
    let Q : ℕ → Placed → NetList → Type 0 = λ j x l.
    HasBridge l (state_by l x.command (own_entries j (h ++ e ∷ []))) (after w.plan.pods.opening (h ++ e ∷ [])) in
    let mine : Q n c list =
    subst (λ j. HasBridge list (state_by list c.command (own_entries n (h ++ e ∷ []))) j)
    (sym (after-append w.plan.pods.opening h e))
    (subst (λ l. HasBridge list (state_by list c.command l) (after_entry k e))
    (sym (own_entries-own n h e (is_of-own n e refl)))
    (subst (λ st. HasBridge list st (after_entry k e)) (sym (state_by-append list c.command es e)) now)) in
    at_its_place w n c list call faulty on Q m d other here at listed mine

bridge-other : (w : World) (n m : ℕ) (c d : Placed) (list : NetList) (call : Call) (faulty : Bool)
    → GoesOn w n c list call faulty → m ≢ n → RunBridge w.plan w.history m d
    → RunBridge w.plan (w.history ++ entry_of (host_of w) n call faulty ∷ []) m d
bridge-other w n m c d list call faulty on differs was = λ other listed.
    let h = w.history in
    let k = host_of w in
    let e = entry_of k n call faulty in
    let far : is_of m e ≡ false = apart-entry w n m call faulty differs in
    subst (λ l. HasBridge other (state_by other d.command l) (after w.plan.pods.opening (h ++ e ∷ [])))
    (sym (own_entries-other m h e far))
    (subst (HasBridge other (state_by other d.command (own_entries m h)))
    (sym (after-append w.plan.pods.opening h e))
    (bridge-stands other (state_by other d.command (own_entries m h)) k (after_entry k e)
    (bridge-entered other.first w n c list call faulty on) (was other listed)))

-- a command with a list has no entry from outside
bridge-unlisted : (w : World) (n m : ℕ) (c d : Placed) (call : Call) (faulty : Bool) → Changes w n c call faulty → m ≡ n
    → slice_get (commands_of w.plan) m ≡ Some d → (h : List Entry) → RunBridge w.plan h m d
bridge-unlisted w n m c d call faulty on here at h = λ list listed.
    absurd (no_list_there w n c call faulty on m d list here at listed)

bridge-kept : IsOpenKept RunBridge
bridge-kept w n c call faulty goes was = λ m d at is_open.
    let e = entry_of (host_of w) n call faulty in
    elim (eqb_tells m n) [
      | inl t ↦ elim goes [
        | inl on ↦ bridge-own w n m c d on.0 call faulty on.1 t.1 at was
        | inr on ↦ bridge-unlisted w n m c d call faulty on t.1 at (w.history ++ e ∷ [])
      ]
      | inr f ↦ elim goes [
        | inl on ↦ bridge-other w n m c d on.0 call faulty on.1 f.1 (was m d at is_open)
        | inr on ↦
            let far : e.command ≢ m + 1 = other_number e n m refl f.1 in
            bridge-begun w.plan (w.history ++ e ∷ []) m d
            (replies_of-other m w.history e far ∙ alone-outside w n m c d call faulty on f.1 at is_open)
      ]
    ]

pub all-bridges : (w : World) → Legal w → AllOpen RunBridge w
all-bridges w legal = by-open RunBridge (λ p m d. bridge-begun p [] m d refl) bridge-kept w legal
