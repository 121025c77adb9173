-- What an ADD was leased, and what it has of its objects, after each of its entries.
use Rattle.pod_laws.proofs.Names.{◌≡◌, ℕ, ◌+◌, Bool, true, false, List, [], ◌∷◌, ◌++◌, map, length, Option, Some, None}
use Rattle.pod_laws.proofs.Names.{refl, sym, ◌∙◌, ap, subst, append_assoc, append-nil, map-append, all_zipped_more}
use Rattle.pod_laws.proofs.Names.{Addr, RangeSet, AreCandidates, is_candidate, First, NetList, Command, apply, lease_of}
use Rattle.pod_laws.proofs.Names.{Call, Begin, LeaseNext, Kind, Reply, Done, Leased, Fault, Att, Host}
use Rattle.pod_laws.proofs.Names.{is_plugin_call_of, Share, share_of, no_objects, share_after_call, share_after_calls}
use Rattle.pod_laws.proofs.Names.{share_after_calls-append, share-own, share-lease, att_of, Ending, Added, Yes, Skipped}
use Rattle.pod_laws.proofs.Names.{Versions, Refused, mappings_of, State, AtBegin, BeforeLeases, Leasing, AfterLeases}
use Rattle.pod_laws.proofs.Names.{ReadingCache, Deleting, FindingEntry, Asking, Changing, Collecting, Over, Calls}
use Rattle.pod_laws.proofs.Names.{before_of, back_of, after_leases, leasing, before_leases, deleting, faulted, at_begin}
use Rattle.pod_laws.proofs.Names.{at_call_before, at_lease, at_call_after, at_cache, at_deletion, advance, turn}
use Rattle.pod_laws.proofs.Names.{leases_in, sets_of, calls_before, kinds_of, wanted, entry_of, host_of, after_entry}
use Rattle.pod_laws.proofs.Names.{reply_to, Entry, LeftAreOfPlugins, by-cache, by-deletion, host-made, adds-links}
use Rattle.pod_laws.proofs.Names.{makes-wanted}
use Rattle.std.specs.List.{cons_option}
use Rattle.kernel_types.proofs.LeasedAddress.{leased-candidate}
use Rattle.plugin_base.proofs.OwnCalls.{share-begin}
use Rattle.cni_verbs.specs.Script.{leased_by}
use Rattle.pod_laws.specs.Moments.{own_entries}
use Rattle.pod_laws.proofs.Histories.{Entries.replies_in, Runs.{AfterEntry, IsRunFact, StartsWith, own-state}}
use Rattle.pod_laws.proofs.Histories.States.{IsAside, IsNoResult, aside-advance, by-aside, by-start, faulted-no_result}
use Rattle.plugin_chain.proofs.WantedShare.{share_with_leases}

-- the addresses that these entries leased, in order
abbrev pub leased_in : List Entry → List Addr
leased_in es = leases_in (replies_in es)

abbrev pub with_leases : NetList → Command → List Addr → Share
with_leases list c given = share_with_leases list (att_of c) c.netns given

abbrev pub wanted_by : NetList → Command → List Addr → Share
wanted_by list c given = wanted list (att_of c) c.netns (mappings_of list c) given

-- a candidate of each set was leased, and the objects are those that they ask for
abbrev pub IsAddedWith : NetList → Command → List Entry → Ending → List Addr → Share → Type 0
IsAddedWith list c es Added given s =
    (leased_in es ≡ given) × AreCandidates (sets_of list) given × (s ≡ wanted_by list c given)
IsAddedWith list c es Yes given s = Unit {0}
IsAddedWith list c es (Skipped skip) given s = Unit {0}
IsAddedWith list c es Versions given s = Unit {0}
IsAddedWith list c es (Refused cause) given s = Unit {0}

-- what a run in this state, after these entries, has of its attachment's objects
abbrev pub Achieved : NetList → Command → List Entry → State → Share → Type 0
Achieved list c es AtBegin s = leased_in es ≡ []
Achieved list c es (BeforeLeases next left) s =
    (made : List Call) × (before_of list c ≡ made ++ next ∷ left) × (s ≡ share_after_calls no_objects made)
    × (leased_in es ≡ [])
Achieved list c es (Leasing next left given) s =
    (past : List RangeSet) × (sets_of list ≡ past ++ next ∷ left) × AreCandidates past given
    × (s ≡ with_leases list c given) × (leased_in es ≡ given)
Achieved list c es (AfterLeases next left given) s =
    (made : List Call) × (back_of list c given ≡ made ++ next ∷ left) × AreCandidates (sets_of list) given
    × (s ≡ share_after_calls (with_leases list c given) made) × (leased_in es ≡ given)
Achieved list c es (ReadingCache ending) s = IsNoResult ending
Achieved list c es (Deleting next left ending) s = IsNoResult ending
Achieved list c es FindingEntry s = Unit {0}
Achieved list c es (Asking next left) s = Unit {0}
Achieved list c es (Changing change) s = Unit {0}
Achieved list c es (Collecting work faults) s = Unit {0}
Achieved list c es (Over ending given) s = IsAddedWith list c es ending given s

-- ---- the addresses so far

leases-push_by : (o : Option Addr) (xs ys zs : List Addr) → xs ≡ ys ++ zs → cons_option o xs ≡ cons_option o ys ++ zs
leases-push_by None xs ys zs h = h
leases-push_by (Some a) xs ys zs h = ap (λ l. a ∷ l) h

pub leases-push : (rs : List Reply) (r : Reply) → leases_in (rs ++ r ∷ []) ≡ leases_in rs ++ leases_in (r ∷ [])
leases-push [] r = refl
leases-push (x ∷ xs) r =
    leases-push_by (leased_by x) (leases_in (xs ++ r ∷ [])) (leases_in xs) (leases_in (r ∷ [])) (leases-push xs r)

pub leased-push : (es : List Entry) (e : Entry) → leased_in (es ++ e ∷ []) ≡ leased_in es ++ leases_in (e.reply ∷ [])
leased-push es e = ap leases_in (map-append (λ (x : Entry). x.reply) es (e ∷ [])) ∙ leases-push (replies_in es) e.reply

-- an entry that leased nothing
pub leased-same : (es : List Entry) (e : Entry) (given : List Addr) → leases_in (e.reply ∷ []) ≡ []
    → leased_in es ≡ given → leased_in (es ++ e ∷ []) ≡ given
leased-same es e given none was = leased-push es e ∙ ap (λ l. leased_in es ++ l) none ∙ append-nil (leased_in es) ∙ was

pub leased-done : (es : List Entry) (e : Entry) (given : List Addr) → e.reply ≡ Done → leased_in es ≡ given
    → leased_in (es ++ e ∷ []) ≡ given
leased-done es e given done was = leased-same es e given (ap (λ r. leases_in (r ∷ [])) done) was

-- ---- where work is left

to-after_leases : (list : NetList) (c : Command) (es : List Entry) (made left : List Call)
    (given : List Addr) (s : Share)
    → back_of list c given ≡ made ++ left → AreCandidates (sets_of list) given
    → s ≡ share_after_calls (with_leases list c given) made → leased_in es ≡ given
    → Achieved list c es (after_leases left given) s
to-after_leases list c es made [] given s back fits is was =
    let all : back_of list c given ≡ made = back ∙ append-nil made in (
      was,
      fits,
      is
          ∙ ap (share_after_calls (with_leases list c given)) (sym all)
          ∙ makes-wanted list (att_of c) c.netns (mappings_of list c) given,
    )
to-after_leases list c es made (x ∷ xs) given s back fits is was = (made, back, fits, is, was)

to-leasing : (list : NetList) (c : Command) (es : List Entry) (past left : List RangeSet)
    (given : List Addr) (s : Share)
    → sets_of list ≡ past ++ left → AreCandidates past given → s ≡ with_leases list c given → leased_in es ≡ given
    → Achieved list c es (leasing list c left given) s
to-leasing list c es past [] given s all fits is was =
    to-after_leases list c es [] (back_of list c given) given s refl
    (subst (λ l. AreCandidates l given) (sym (all ∙ append-nil past)) fits) is was
to-leasing list c es past (x ∷ xs) given s all fits is was = (past, all, fits, is, was)

pub no_leases : (first : First) (att : Att) (netns : List ℕ)
    → share_after_calls no_objects (calls_before first att netns)
    ≡ record (share_after_calls no_objects (calls_before first att netns)) { leases = [] }
no_leases first att netns =
    adds-links first att netns no_objects
    ∙ ap (λ (s : Share). record s { leases = [] }) (sym (adds-links first att netns no_objects))

to-before_leases : (list : NetList) (c : Command) (es : List Entry) (made left : List Call) (s : Share)
    → before_of list c ≡ made ++ left → s ≡ share_after_calls no_objects made → leased_in es ≡ []
    → Achieved list c es (before_leases list c left) s
to-before_leases list c es made [] s all is was =
    to-leasing list c es [] (sets_of list) [] s refl tt
    (is ∙ ap (share_after_calls no_objects) (sym (all ∙ append-nil made)) ∙ no_leases list.first (att_of c) c.netns)
    was
to-before_leases list c es made (x ∷ xs) s all is was = (made, all, is, was)

pub achieved-end : (list : NetList) (c : Command) (es : List Entry) (ending : Ending) (given : List Addr) (s : Share)
    → IsNoResult ending → IsAddedWith list c es ending given s
achieved-end list c es Added given s h = absurd h
achieved-end list c es Yes given s h = tt
achieved-end list c es (Skipped skip) given s h = tt
achieved-end list c es Versions given s h = tt
achieved-end list c es (Refused cause) given s h = tt

not_added-faulted : (list : NetList) (c : Command) (es : List Entry) (number : ℕ) (e : Ending) (s : Share)
    → IsAddedWith list c es (faulted number e) [] s
not_added-faulted list c es number e s = achieved-end list c es (faulted number e) [] s (faulted-no_result number e)

to-deleting : (list : NetList) (c : Command) (es : List Entry) (ks : List Kind) (e : Ending) (s : Share) → IsNoResult e
    → Achieved list c es (deleting ks e) s
to-deleting list c es [] e s h = achieved-end list c es e [] s h
to-deleting list c es (k ∷ ks) e s h = h

-- ---- one entry, by its reply and by what it made of the share where it was done

moves-at_begin : (list : NetList) (c : Command) (es : List Entry) (e : Entry) (number : ℕ) (r : Reply) (s : Share)
    → e.reply ≡ r → leased_in es ≡ [] → (r ≡ Done → s ≡ no_objects)
    → Achieved list c (es ++ e ∷ []) (at_begin list c number r) s
moves-at_begin list c es e number Done s is was h =
    to-before_leases list c (es ++ e ∷ []) [] (before_of list c) s refl (h refl) (leased-done es e [] is was)
moves-at_begin list c es e number _ s is was h = tt

moves-before : (list : NetList) (c : Command) (es : List Entry) (e : Entry) (number : ℕ) (x : Call) (xs : List Call)
    (r : Reply) (s t : Share)
    → e.reply ≡ r → Achieved list c es (BeforeLeases x xs) s → (r ≡ Done → t ≡ share_after_call s x)
    → Achieved list c (es ++ e ∷ []) (at_call_before list c number xs r) t
moves-before list c es e number x xs Done s t is was h =
    let made = was.0 in
    to-before_leases list c (es ++ e ∷ []) (made ++ x ∷ []) xs t (was.1 ∙ sym (append_assoc made (x ∷ []) xs))
    (h refl ∙ ap (λ u. share_after_call u x) was.2 ∙ sym (share_after_calls-append no_objects made (x ∷ [])))
    (leased-done es e [] is was.3)
moves-before list c es e number x xs _ s t is was h = tt

moves-lease : (list : NetList) (c : Command) (es : List Entry) (e : Entry) (number : ℕ) (set : RangeSet)
    (sets : List RangeSet) (given : List Addr) (r : Reply) (s t : Share)
    → e.reply ≡ r → Achieved list c es (Leasing set sets given) s
    → ((a : Addr) → r ≡ Leased a → is_candidate set a ≡ true)
    → ((a : Addr) → r ≡ Leased a → t ≡ record s { leases = s.leases ++ lease_of (att_of c) a ∷ [] })
    → Achieved list c (es ++ e ∷ []) (at_lease list c number sets given r) t
moves-lease list c es e number set sets given (Leased a) s t is was fits h =
    let past = was.0 in
    let candidates =
    all_zipped_more (λ (s : RangeSet) (x : Addr). is_candidate s x ≡ true) past given set a was.2 (fits a refl) in
    let more : map (lease_of (att_of c)) given ++ lease_of (att_of c) a ∷ []
    ≡ map (lease_of (att_of c)) (given ++ a ∷ []) =
    sym (map-append (lease_of (att_of c)) given (a ∷ [])) in
    to-leasing list c (es ++ e ∷ []) (past ++ set ∷ []) sets (given ++ a ∷ []) t
    (was.1 ∙ sym (append_assoc past (set ∷ []) sets)) candidates
    (h a refl
    ∙ ap (λ (u : Share). record u { leases = u.leases ++ lease_of (att_of c) a ∷ [] }) was.3
    ∙ ap (λ l. record (share_after_calls no_objects (before_of list c)) { leases = l }) more)
    (leased-push es e ∙ ap (λ q. leased_in es ++ leases_in (q ∷ [])) is ∙ ap (λ l. l ++ a ∷ []) was.4)
moves-lease list c es e number set sets given _ s t is was fits h = tt

moves-after : (list : NetList) (c : Command) (es : List Entry) (e : Entry) (number : ℕ) (x : Call) (xs : List Call)
    (given : List Addr) (r : Reply) (s t : Share)
    → e.reply ≡ r → Achieved list c es (AfterLeases x xs given) s → (r ≡ Done → t ≡ share_after_call s x)
    → Achieved list c (es ++ e ∷ []) (at_call_after number xs given r) t
moves-after list c es e number x xs given Done s t is was h =
    let made = was.0 in
    to-after_leases list c (es ++ e ∷ []) (made ++ x ∷ []) xs given t
    (was.1 ∙ sym (append_assoc made (x ∷ []) xs)) was.2
    (h refl
    ∙ ap (λ u. share_after_call u x) was.3
    ∙ sym (share_after_calls-append (with_leases list c given) made (x ∷ [])))
    (leased-done es e given is was.4)
moves-after list c es e number x xs given _ s t is was h = tt

moves-cache : (list : NetList) (c : Command) (es : List Entry) (number : ℕ) (ending : Ending) (r : Reply) (t : Share)
    → IsNoResult ending → Achieved list c es (at_cache list number ending r) t
moves-cache list c es number ending r t was =
    by-cache (λ st. Achieved list c es st t) list number ending r (not_added-faulted list c es number ending t)
    (to-deleting list c es (kinds_of list) ending t was)

moves-deletion : (list : NetList) (c : Command) (es : List Entry) (number : ℕ) (k : Kind) (ks : List Kind)
    (ending : Ending) (r : Reply) (t : Share)
    → IsNoResult ending → Achieved list c es (at_deletion number k ks ending r) t
moves-deletion list c es number k ks ending r t was =
    by-deletion (λ st. Achieved list c es st t) number k ks ending r (not_added-faulted list c es number ending t) was
    (to-deleting list c es ks ending t was)

-- ---- runs that make no attachment

achieved-aside : (list : NetList) (c : Command) (es : List Entry) (st : State) (s : Share) → IsAside st
    → Achieved list c es st s
achieved-aside list c es st s =
    by-aside (λ x. Achieved list c es x s) tt (λ next left. tt) (λ change. tt) (λ work faults. tt)
    (λ ending given none. achieved-end list c es ending given s none) st

achieved-next : (list : NetList) (c : Command) (es : List Entry) (number : ℕ) (st : State) (r : Reply) (s : Share)
    → IsAside st → Achieved list c es (advance list c number st r) s
achieved-next list c es number st r s h =
    achieved-aside list c es (advance list c number st r) s (aside-advance list c number st r h)

-- ---- what the call did

-- the host after a call that was done, or that leased
made_host : (k : Host) (n : ℕ) (call : Call) (faulty : Bool) (r : Reply) → (r ≡ Fault → ⊥) → reply_to k call faulty ≡ r
    → (after_entry k (entry_of k n call faulty) ≡ (apply k call).0) × ((apply k call).1 ≡ r)
made_host k n call true r not h = absurd (not (sym h))
made_host k n call false r not h = (host-made k n call, h)

pub own-made : (att : Att) (k : Host) (n : ℕ) (call : Call) (faulty : Bool) → is_plugin_call_of att call ≡ true
    → reply_to k call faulty ≡ Done
    → share_of att (after_entry k (entry_of k n call faulty)) ≡ share_after_call (share_of att k) call
own-made att k n call faulty own h =
    let d = made_host k n call faulty Done (λ e. cc) h in ap (share_of att) d.0 ∙ share-own att k call own d.1

pub begun-none : (att : Att) (netns : List ℕ) (k : Host) (n : ℕ) (faulty : Bool)
    → reply_to k (Begin att netns) faulty ≡ Done
    → share_of att (after_entry k (entry_of k n (Begin att netns) faulty)) ≡ no_objects
begun-none att netns k n faulty h =
    let d = made_host k n (Begin att netns) faulty Done (λ e. cc) h in
    ap (share_of att) d.0 ∙ share-begin att k netns d.1

pub leases-one : (att : Att) (number : ℕ) (set : RangeSet) (k : Host) (n : ℕ) (faulty : Bool) (a : Addr)
    → reply_to k (LeaseNext att number set) faulty ≡ Leased a
    → share_of att (after_entry k (entry_of k n (LeaseNext att number set) faulty))
    ≡ record (share_of att k) { leases = (share_of att k).leases ++ lease_of att a ∷ [] }
leases-one att number set k n faulty a h =
    let d = made_host k n (LeaseNext att number set) faulty (Leased a) (λ e. cc) h in
    ap (share_of att) d.0 ∙ share-lease att k number set a d.1

pub lease-fits : (k : Host) (att : Att) (place : ℕ) (set : RangeSet) (faulty : Bool) (a : Addr)
    → reply_to k (LeaseNext att place set) faulty ≡ Leased a → is_candidate set a ≡ true
lease-fits k att place set true a h = cc
lease-fits k att place set false a h = leased-candidate k att place set a h

-- ---- every run

achieved-own : (list : NetList) (c : Command) (es : List Entry) (st : State) (k : Host) (n : ℕ)
    (faulty : Bool) (call : Call)
    → LeftAreOfPlugins list c st → turn c st ≡ Calls call → Achieved list c es st (share_of (att_of c) k)
    → AfterEntry Achieved list c es st k n faulty call
unfolding turn advance
achieved-own list c es AtBegin k n faulty call left is was =
    subst (AfterEntry Achieved list c es AtBegin k n faulty) (let e : Begin (att_of c) c.netns ≡ call = cc in e)
    (moves-at_begin list c es (entry_of k n (Begin (att_of c) c.netns) faulty) (length es + 1) _ _ refl was
    (begun-none (att_of c) c.netns k n faulty))
achieved-own list c es (BeforeLeases x xs) k n faulty call left is was =
    subst (AfterEntry Achieved list c es (BeforeLeases x xs) k n faulty) (let e : x ≡ call = cc in e)
    (moves-before list c es (entry_of k n x faulty) (length es + 1) x xs _ (share_of (att_of c) k) _ refl was
    (own-made (att_of c) k n x faulty left.0.0.0))
achieved-own list c es (Leasing set sets given) k n faulty call left is was =
    subst (AfterEntry Achieved list c es (Leasing set sets given) k n faulty)
    (let e : LeaseNext (att_of c) (length given) set ≡ call = cc in e)
    (moves-lease list c es (entry_of k n (LeaseNext (att_of c) (length given) set) faulty) (length es + 1) set sets
    given _ (share_of (att_of c) k) _ refl was (lease-fits k (att_of c) (length given) set faulty)
    (leases-one (att_of c) (length given) set k n faulty))
achieved-own list c es (AfterLeases x xs given) k n faulty call left is was =
    subst (AfterEntry Achieved list c es (AfterLeases x xs given) k n faulty) (let e : x ≡ call = cc in e)
    (moves-after list c es (entry_of k n x faulty) (length es + 1) x xs given _ (share_of (att_of c) k) _ refl was
    (own-made (att_of c) k n x faulty left.0.0))
achieved-own list c es (ReadingCache ending) k n faulty call left is was =
    moves-cache list c (es ++ entry_of k n call faulty ∷ []) (length es + 1) ending _ _ was
achieved-own list c es (Deleting kind ks ending) k n faulty call left is was =
    moves-deletion list c (es ++ entry_of k n call faulty ∷ []) (length es + 1) kind ks ending _ _ was
achieved-own list c es (Over ending given) k n faulty call left is was = cc
achieved-own list c es st k n faulty call left is was =
    let e = entry_of k n call faulty in
    achieved-next list c (es ++ e ∷ []) (length es + 1) st e.reply (share_of (att_of c) (after_entry k e)) tt

pub achieved-start : StartsWith Achieved
achieved-start list c s =
    by-start (λ st. Achieved list c [] st s) list c c.verb (λ st aside. achieved-aside list c [] st s aside) refl tt

pub achieved-step : IsRunFact Achieved
achieved-step w n c list call faulty on was =
    let own = own-state w n c list call faulty on in
    achieved-own list c.command (own_entries n w.history) _ (host_of w) n faulty call own.of_plugins own.turn_is was
