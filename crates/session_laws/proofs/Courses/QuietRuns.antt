-- After its leases an ADD is leased nothing more, and where it is refused then, that is how it ends.
use Rattle.session_laws.proofs.Names.{◌≡◌, ℕ, ◌+◌, Bool, true, false, List, [], ◌∷◌, Option, Some, None, refl, sym, ◌∙◌}
use Rattle.session_laws.proofs.Names.{ap, subst, not, find, and_parts, none-some, same_Some, list_all, list_any}
use Rattle.session_laws.proofs.Names.{option_or, option_map, if◌then◌else◌, Addr, by_test, apply, append_unless_taken}
use Rattle.session_laws.proofs.Names.{bridge_or_new, has_link_of, has_master, is_own_at, is_same_addr, is_same_route}
use Rattle.session_laws.proofs.Names.{is_same_setting, master_is_bridge_or_none, new_bridge, without_link, rule_eq}
use Rattle.session_laws.proofs.Names.{has_host_bridge, has_named_ns, has_objects, is_bridge, is_host_link}
use Rattle.session_laws.proofs.Names.{is_host_or_ns, is_own, link_at, Call, Begin, BridgeEnsure, GatewayEnsure}
use Rattle.session_laws.proofs.Names.{ForwardEnsure, VethAdd, MacvlanAdd, LinkSet, AddrAdd, RouteAdd, RuleAppend}
use Rattle.session_laws.proofs.Names.{SettingSet, LeaseNext, CachePut, LinkDel, RuleDel, SettingDel, LeaseDel, CacheDel}
use Rattle.session_laws.proofs.Names.{HasObj, CacheGet, OwnersOf, PoolFree, NsChange, Outside, DropLink, Flush, Kind}
use Rattle.session_laws.proofs.Names.{Reply, Done, NoNs, Taken, Gone, Fault, Host, Link, Tag, Command, deletion, att_of}
use Rattle.session_laws.proofs.Names.{Cause, Ending, Refused, reply_to, State, AfterLeases, ReadingCache, Deleting}
use Rattle.session_laws.proofs.Names.{Over, after_leases, at_call_after, at_deletion, deleting, leased_by, leases_in}
use Rattle.session_laws.proofs.Names.{next_call, finish_of, Made, host_on, replies}
use Rattle.kernel_types.specs.declared.object.Tag.TheVariants as tags
use Rattle.kernel_types.specs.declared.call.Kind.TheVariants as kinds
use Rattle.session_laws.specs.Course.{Course, IsRunFrom, advance, at_cache, state_from, IsOver}
use Rattle.kernel_types.proofs.Lasts.{moves_last}
use Rattle.session_laws.proofs.Answers.Ends.{refusing-faulted}

-- ---- one reply

-- no address is leased by this
abbrev LeasesNone : Host × Reply → Type 0
LeasesNone step = leased_by step.1 ≡ None

append-none : (o : Option Tag) (host next : Host) → LeasesNone (append_unless_taken o host next)
append-none None host next = refl
append-none (Some tag) host next = refl

bridge-none : (host : Host) (o : Option Link) (bridge : Link) → LeasesNone (bridge_or_new host o bridge)
bridge-none host None bridge = refl
bridge-none host (Some link) bridge =
    by_test (λ (r : Reply). leased_by r ≡ None) (is_bridge link.kind) Done (Taken link.tag) (λ _. refl) (λ _. refl)

without-none : (host : Host) (o : Option Link) → LeasesNone (without_link host o)
without-none host None = refl
without-none host (Some link) = refl

either-none : (b : Bool) (x y : Host × Reply) → LeasesNone x → LeasesNone y → LeasesNone (if b then x else y)
either-none true x y first second = first
either-none false x y first second = second

begin-none : (host : Host) (a b : Bool) (tag : Tag)
    → LeasesNone (host, if a then (if b then Taken tag else Done) else NoNs)
begin-none host true true tag = refl
begin-none host true false tag = refl
begin-none host false b tag = refl

-- the kernel replies an address to a lease alone
apply-none : (host : Host) (call : Call) → moves_last call ≡ false → LeasesNone (apply host call)
apply-none host (Begin att netns) still =
    begin-none host (is_host_or_ns host.namespaces netns) (has_objects host att) (tags.Own att)
apply-none host (BridgeEnsure name mtu promisc) still =
    bridge-none host (find (is_host_link name) host.links) (new_bridge name mtu promisc)
apply-none host (GatewayEnsure bridge cidr) still =
    either-none (has_host_bridge host bridge) _ _ (either-none (list_any _ host.addresses) _ _ refl refl) refl
apply-none host (ForwardEnsure family) still = either-none (list_any _ host.settings) _ _ refl refl
apply-none host (VethAdd host_end inner_end) still =
    either-none (has_named_ns host inner_end.ns) _ _
    (either-none (master_is_bridge_or_none host host_end.master) _ _
    (append-none
    (option_map (λ l. l.tag)
    (option_or (link_at host inner_end.ns inner_end.name) (link_at host host_end.ns host_end.name)))
    host _)
    refl)
    refl
apply-none host (MacvlanAdd link) still =
    either-none (has_named_ns host link.ns) _ _
    (either-none (has_master host link.master) _ _
    (append-none (option_map (λ l. l.tag) (link_at host link.ns link.name)) host _) refl)
    refl
apply-none host (LinkSet att key mac mtu tx_qlen promisc allmulti) still =
    either-none (list_any (is_own_at att key) host.links) _ _ refl refl
apply-none host (AddrAdd obj) still =
    either-none (has_link_of host obj.ns obj.link obj.tag) _ _
    (append-none (option_map (λ a. a.tag) (find (is_same_addr obj) host.addresses)) host _) refl
apply-none host (RouteAdd obj) still =
    either-none (has_link_of host obj.ns obj.link obj.tag) _ _
    (append-none (option_map (λ r. r.tag) (find (is_same_route obj) host.routes)) host _) refl
apply-none host (RuleAppend rule) still = either-none (list_any (λ r. rule_eq r rule) host.rules) _ _ refl refl
apply-none host (SettingSet setting) still =
    either-none (has_named_ns host setting.ns) _ _
    (append-none (option_map (λ s. s.tag) (find (is_same_setting setting) host.settings)) host _) refl
apply-none host (LeaseNext att number set) still = absurd cc
apply-none host (CachePut att cached) still = either-none (list_any (λ c. is_own att c.tag) host.cached) _ _ refl refl
apply-none host (LinkDel att) still = without-none host (find (λ l. is_own att l.tag) host.links)
apply-none host (RuleDel att) still = refl
apply-none host (SettingDel att) still = refl
apply-none host (LeaseDel att) still = refl
apply-none host (CacheDel att) still = refl
apply-none host (HasObj probe) still = refl
apply-none host (CacheGet att) still = refl
apply-none host (OwnersOf network kind) still = refl
apply-none host (PoolFree network set) still = refl
apply-none host (NsChange name true) still = either-none (has_named_ns host name) _ _ refl refl
apply-none host (NsChange name false) still = either-none (has_named_ns host name) _ _ refl refl
apply-none host (Outside (DropLink key)) still =
    either-none (has_named_ns host key.ns) _ _ (without-none host (link_at host key.ns key.name)) refl
apply-none host (Outside (Flush table)) still = refl

reply-none : (host : Host) (call : Call) (faulty : Bool) → moves_last call ≡ false
    → leased_by (reply_to host call faulty) ≡ None
reply-none host call true still = refl
reply-none host call false still = apply-none host call still

-- ---- a run

abbrev pub leases_none : Call → Bool
leases_none call = not (moves_last call)

none-moves : (call : Call) → leases_none call ≡ true → moves_last call ≡ false
none-moves (LeaseNext att number set) is = absurd cc
none-moves _ is = refl

-- no lease is left
abbrev pub IsQuiet : State → Type 0
IsQuiet (AfterLeases next left given) = list_all leases_none (next ∷ left) ≡ true
IsQuiet (ReadingCache ending) = Unit {0}
IsQuiet (Deleting next left ending) = Unit {0}
IsQuiet (Over ending given) = Unit {0}
IsQuiet s = ⊥

pub quiet-after_leases : (calls : List Call) (given : List Addr) → list_all leases_none calls ≡ true
    → IsQuiet (after_leases calls given)
quiet-after_leases [] given all = tt
quiet-after_leases (call ∷ calls) given all = all

quiet-deleting : (ks : List Kind) (ending : Ending) → IsQuiet (deleting ks ending)
quiet-deleting [] ending = tt
quiet-deleting (kind ∷ ks) ending = tt

quiet-call : (number : ℕ) (next : Call) (left : List Call) (given : List Addr) (r : Reply)
    → list_all leases_none (next ∷ left) ≡ true → IsQuiet (at_call_after number left given r)
quiet-call number next left given Done all =
    quiet-after_leases left given (and_parts (leases_none next) (list_all leases_none left) all).1
quiet-call number next left given _ all = tt

quiet-cache : (co : Course) (number : ℕ) (ending : Ending) (r : Reply) → IsQuiet (at_cache co number ending r)
quiet-cache co number ending Fault = tt
quiet-cache co number ending _ = quiet-deleting co.kinds ending

quiet-deletion : (number : ℕ) (kind : Kind) (left : List Kind) (ending : Ending) (r : Reply)
    → IsQuiet (at_deletion number kind left ending r)
quiet-deletion number kind left ending (Gone false) = quiet-deleting left ending
quiet-deletion number kind left ending Fault = tt
quiet-deletion number kind left ending _ = tt

quiet-advance : (co : Course) (number : ℕ) (s : State) (r : Reply) → IsQuiet s → IsQuiet (advance co number s r)
unfolding advance
quiet-advance co number (AfterLeases next left given) r quiet = quiet-call number next left given r quiet
quiet-advance co number (ReadingCache ending) r quiet = quiet-cache co number ending r
quiet-advance co number (Deleting next left ending) r quiet = quiet-deletion number next left ending r
quiet-advance co number (Over ending given) r quiet = tt
quiet-advance co number _ r quiet = absurd quiet

deletion-none : (kind : Kind) (c : Command) → moves_last (deletion (att_of c) kind) ≡ false
deletion-none kinds.Links c = refl
deletion-none kinds.Rules c = refl
deletion-none kinds.Settings c = refl
deletion-none kinds.Leases c = refl
deletion-none kinds.Cached c = refl

quiet-next : (c : Command) (s : State) (call : Call) → IsQuiet s → next_call c s ≡ Some call → moves_last call ≡ false
unfolding next_call
quiet-next c (AfterLeases next left given) call quiet is =
    let first = and_parts (leases_none next) (list_all leases_none left) quiet in
    subst (λ (k : Call). moves_last k ≡ false) (same_Some next call is) (none-moves next first.0)
quiet-next c (ReadingCache ending) call quiet is = ap moves_last (sym (same_Some _ call is))
quiet-next c (Deleting next left ending) call quiet is =
    subst (λ (k : Call). moves_last k ≡ false) (same_Some (deletion (att_of c) next) call is) (deletion-none next c)
quiet-next c (Over ending given) call quiet is = absurd (none-some call is)
quiet-next c _ call quiet is = absurd quiet

-- where no lease is left, no address is leased
pub quiet-run : (co : Course) (c : Command) (faulty : ℕ → Bool) (made : ℕ) (s : State) (host : Host) (es : List Made)
    → IsQuiet s → IsRunFrom co c faulty made s host es → leases_in (replies es) ≡ []
quiet-run co c faulty made s host [] quiet run = refl
quiet-run co c faulty made s host (e ∷ es) quiet run =
    let none : leased_by e.reply ≡ None =
    ap leased_by run.1 ∙ reply-none host e.call (faulty made) (quiet-next c s e.call quiet run.0) in
    let rest =
    quiet-run co c faulty (made + 1) (advance co (made + 1) s e.reply) (host_on host e) es
    (quiet-advance co (made + 1) s e.reply quiet) run.2 in
    rw none rest

-- ---- what is taken back for a cause ends so

abbrev IsBackFor : Cause → State → Type 0
IsBackFor cause (ReadingCache ending) = ending ≡ Refused cause
IsBackFor cause (Deleting next left ending) = ending ≡ Refused cause
IsBackFor cause (Over ending given) = ending ≡ Refused cause
IsBackFor cause s = ⊥

back-deleting : (cause : Cause) (ks : List Kind) (ending : Ending) → ending ≡ Refused cause
    → IsBackFor cause (deleting ks ending)
back-deleting cause [] ending is = is
back-deleting cause (kind ∷ ks) ending is = is

back-cache : (cause : Cause) (co : Course) (number : ℕ) (ending : Ending) (r : Reply) → ending ≡ Refused cause
    → IsBackFor cause (at_cache co number ending r)
back-cache cause co number ending Fault is = refusing-faulted cause number ending is
back-cache cause co number ending _ is = back-deleting cause co.kinds ending is

back-deletion : (cause : Cause) (number : ℕ) (kind : Kind) (left : List Kind) (ending : Ending) (r : Reply)
    → ending ≡ Refused cause → IsBackFor cause (at_deletion number kind left ending r)
back-deletion cause number kind left ending (Gone false) is = back-deleting cause left ending is
back-deletion cause number kind left ending Fault is = refusing-faulted cause number ending is
back-deletion cause number kind left ending _ is = is

back-advance : (cause : Cause) (co : Course) (number : ℕ) (s : State) (r : Reply) → IsBackFor cause s
    → IsBackFor cause (advance co number s r)
unfolding advance
back-advance cause co number (ReadingCache ending) r is = back-cache cause co number ending r is
back-advance cause co number (Deleting next left ending) r is = back-deletion cause number next left ending r is
back-advance cause co number (Over ending given) r is = is
back-advance cause co number _ r is = absurd is

back-from : (cause : Cause) (co : Course) (made : ℕ) (s : State) (rs : List Reply) → IsBackFor cause s
    → IsBackFor cause (state_from co made s rs)
back-from cause co made s [] is = is
back-from cause co made s (r ∷ rs) is =
    back-from cause co (made + 1) (advance co (made + 1) s r) rs (back-advance cause co (made + 1) s r is)

over-back : (cause : Cause) (s : State) (ending : Ending) → IsBackFor cause s → IsOver s ending
    → ending ≡ Refused cause
unfolding finish_of
over-back cause (ReadingCache old) ending back over = absurd (none-some ending over)
over-back cause (Deleting next left old) ending back over = absurd (none-some ending over)
over-back cause (Over old given) ending back over = sym (same_Some old ending over) ∙ back
over-back cause _ ending back over = absurd back

pub refused-back : (cause : Cause) (co : Course) (made : ℕ) (rs : List Reply) (t : State) (ending : Ending)
    → state_from co made (ReadingCache (Refused cause)) rs ≡ t → IsOver t ending → ending ≡ Refused cause
refused-back cause co made rs t ending is over =
    over-back cause t ending
    (subst (IsBackFor cause) is (back-from cause co made (ReadingCache (Refused cause)) rs refl)) over
