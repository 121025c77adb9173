-- Every call that is left to a run may be made, whatever the host; a lease and a question about a pool ask for the pool
-- of their set besides.
use Rattle.pod_workers.proofs.Names.{◌≡◌, ℕ, ◌+◌, Bool, true, false, not, List, [], ◌∷◌, ◌++◌, length, Option, Some}
use Rattle.pod_workers.proofs.Names.{None, refl, sym, ◌∙◌, ap, arith, append_assoc, if◌then◌else◌, length_push}
use Rattle.pod_workers.proofs.Names.{none-some, ◌||◌, Addr, RangeSet, NetList, is_of_network, Command, Verb, is_host_ns}
use Rattle.pod_workers.proofs.Names.{Call, NsChange, Outside, Reply, att_of, add_refusal, Question, check_questions}
use Rattle.pod_workers.proofs.Names.{status_questions, State, AtBegin, BeforeLeases, Leasing, AfterLeases, ReadingCache}
use Rattle.pod_workers.proofs.Names.{Deleting, FindingEntry, Asking, Changing, Collecting, Over, before_of, back_of}
use Rattle.pod_workers.proofs.Names.{after_leases, leasing, before_leases, asking, state_after, outside_start}
use Rattle.pod_workers.proofs.Names.{outside_advance, outside_after, after_replies-keeps, sets_of}
use Rattle.net_conf.specs.Names.{is_interface_name}
use Rattle.pod_file.specs.declared.command.Verb.TheVariants as verbs
use Rattle.kernel_types.specs.{Allowed.IsAllowedChange, declared.{call.Change.TheVariants.DropLink, rule.Table.Table}}
use Rattle.kernel_types.proofs.Cases.{none-option_or}
use Rattle.cni_errors.specs.CommandFields.{any_wrong, wrong_for_add, drop_refusal, netns_refusal, none_wrong}
use Rattle.cni_errors.specs.{CommandFields.refusal_by, declared.answer.WrongFields.WrongFields}
use Rattle.cni_verbs.specs.Script.{flush_by, outside_of}
use Rattle.pod_workers.proofs.Hosts.{Asked.{AreQuestionsOf, check-asks, status-asks}, PluginCalls.AllOfPlugins}
use Rattle.pod_workers.proofs.Hosts.{PluginCalls.{of_plugins-back, of_plugins-before}, Replies.{StaysTrue, by-unless}}
use Rattle.pod_workers.proofs.Hosts.Replies.{true-after}

-- ---- the calls that are left to a run

abbrev pub HasPlace : Command → Type 0
HasPlace c = is_host_ns c.netns ≡ false

-- so many sets were leased from, and these are the next
abbrev pub IsRest : NetList → List RangeSet → List Addr → Type 0
IsRest list left given = (past : List RangeSet) × (sets_of list ≡ past ++ left) × (length past ≡ length given)

abbrev pub LeftAreOfPlugins : NetList → Command → State → Type 0
LeftAreOfPlugins list c AtBegin = HasPlace c
LeftAreOfPlugins list c (BeforeLeases next left) = AllOfPlugins (att_of c) (next ∷ left) × HasPlace c
LeftAreOfPlugins list c (Leasing next left given) = IsRest list (next ∷ left) given × HasPlace c
LeftAreOfPlugins list c (AfterLeases next left given) = AllOfPlugins (att_of c) (next ∷ left)
LeftAreOfPlugins list c (ReadingCache ending) = Unit {0}
LeftAreOfPlugins list c (Deleting next left ending) = Unit {0}
LeftAreOfPlugins list c FindingEntry = Unit {0}
LeftAreOfPlugins list c (Asking next left) = AreQuestionsOf list (next ∷ left)
LeftAreOfPlugins list c (Changing change) = ⊥
LeftAreOfPlugins list c (Collecting work faults) = Unit {0}
LeftAreOfPlugins list c (Over ending given) = Unit {0}

left-after_leases : (list : NetList) (c : Command) (left : List Call) (given : List Addr) → AllOfPlugins (att_of c) left
    → LeftAreOfPlugins list c (after_leases left given)
left-after_leases list c [] given h = tt
left-after_leases list c (x ∷ xs) given h = h

left-leasing : (list : NetList) (c : Command) (left : List RangeSet) (given : List Addr) → IsRest list left given
    → HasPlace c → LeftAreOfPlugins list c (leasing list c left given)
left-leasing list c [] given rest place =
    left-after_leases list c (back_of list c given) given (of_plugins-back list (att_of c) c.netns _ given place)
left-leasing list c (s ∷ ss) given rest place = (rest, place)

left-before_leases : (list : NetList) (c : Command) (left : List Call) → AllOfPlugins (att_of c) left → HasPlace c
    → LeftAreOfPlugins list c (before_leases list c left)
left-before_leases list c [] h place = left-leasing list c (sets_of list) [] ([], refl, refl) place
left-before_leases list c (x ∷ xs) h place = (h, place)

one-more : (list : NetList) (next : RangeSet) (left : List RangeSet) (given : List Addr) (addr : Addr)
    → IsRest list (next ∷ left) given → IsRest list left (given ++ addr ∷ [])
one-more list next left given addr rest = (
  rest.0 ++ next ∷ [],
  rest.1 ∙ sym (append_assoc rest.0 (next ∷ []) left),
  length_push rest.0 next ∙ ap (λ n. n + 1) rest.2 ∙ sym (length_push given addr),
)

left-asking : (list : NetList) (c : Command) (questions : List Question) → AreQuestionsOf list questions
    → LeftAreOfPlugins list c (asking questions)
left-asking list c [] h = tt
left-asking list c (q ∷ qs) h = h

of_plugins-stays : (list : NetList) (c : Command) → StaysTrue list c (LeftAreOfPlugins list c)
of_plugins-stays list c = record {
  over = λ ending given. tt;
  caches = λ ending. tt;
  deletes = λ kind left ending. tt;
  begun = λ place.
      left-before_leases list c (before_of list c) (of_plugins-before list.first (att_of c) c.netns place) place;
  before = λ next left h. left-before_leases list c left h.0.1 h.1;
  leased = λ next left given addr h.
      left-leasing list c left (given ++ addr ∷ []) (one-more list next left given addr h.0) h.1;
  after = λ next left given h. left-after_leases list c left given h.1;
  finds = λ cached. left-asking list c (check_questions list c cached) (check-asks list c cached);
  asks = λ next left h. left-asking list c left h.1;
  collects = λ work next faults more h. tt;
}

-- ---- from the start

no-fault : (a b d e : Bool) → (a || (b || (d || e))) ≡ false → b ≡ false
no-fault a b d e h = grind (arith, h)

if-some : {X : Type 0} (b : Bool) (x : X) (o : Option X) → (if b then Some x else o) ≡ None → b ≡ false
if-some true x o h = absurd (none-some x (sym h))
if-some false x o h = refl

names-place : (f : WrongFields) → refusal_by f ≡ None → f.netns ≡ false
names-place f none = no-fault f.container f.netns f.ifname f.args (if-some (any_wrong f) _ _ none)

has-place : (c : Command) → add_refusal c ≡ None → HasPlace c
unfolding add_refusal
has-place c none = names-place (wrong_for_add c) (none-option_or (refusal_by (wrong_for_add c)) _ none).0

-- whatever a run was replied, the calls that are left to it are of its plugins
pub left-are-of_plugins : (list : NetList) (c : Command) (rs : List Reply)
    → LeftAreOfPlugins list c (state_after list c rs)
left-are-of_plugins list c rs =
    true-after (LeftAreOfPlugins list c) list c rs (of_plugins-stays list c)
    (record {
      begins = has-place c;
      finding = tt;
      collecting = λ gc. tt;
      status = left-asking list c (status_questions list c) (status-asks list c);
    })

-- ---- a change from outside

-- it leaves the namespace of the host itself
abbrev pub IsOutside : Call → Type 0
IsOutside (NsChange name add) = is_host_ns name ≡ false
IsOutside (Outside change) = IsAllowedChange change
IsOutside _ = ⊥

-- the one change is left, of a verb that has no network, or nothing
abbrev pub LeftIsOutside : Command → State → Type 0
LeftIsOutside c (Changing change) = IsOutside change × (is_of_network c.verb ≡ false)
LeftIsOutside c (Over ending given) = Unit {0}
LeftIsOutside c _ = ⊥

netns-place : (c : Command) → netns_refusal c ≡ None → HasPlace c
unfolding netns_refusal
netns-place c none = names-place (record none_wrong { netns = is_host_ns c.netns }) none

drop-place : (c : Command) → drop_refusal c ≡ None → HasPlace c
unfolding drop_refusal
drop-place c none =
    names-place (record none_wrong { netns = is_host_ns c.netns; ifname = not (is_interface_name c.ifname) }) none

outside-flush : (c : Command) (o : Option Table) → is_of_network c.verb ≡ false → LeftIsOutside c (flush_by o)
outside-flush c None far = tt
outside-flush c (Some table) far = (tt, far)

outside-of : (c : Command) (v : Verb) → c.verb ≡ v → LeftIsOutside c (outside_of v c)
outside-of c verbs.NsAdd is =
    by-unless (LeftIsOutside c) (netns_refusal c) (Changing (NsChange c.netns true)) (λ cause. tt)
    (λ none. (netns-place c none, ap is_of_network is))
outside-of c verbs.NsDel is =
    by-unless (LeftIsOutside c) (netns_refusal c) (Changing (NsChange c.netns false)) (λ cause. tt)
    (λ none. (netns-place c none, ap is_of_network is))
outside-of c verbs.Drop is =
    by-unless (LeftIsOutside c) (drop_refusal c)
    (Changing (Outside (DropLink (record { ns = c.netns; name = c.ifname })))) (λ cause. tt)
    (λ none. (drop-place c none, ap is_of_network is))
outside-of c verbs.Flush is = outside-flush c c.table (ap is_of_network is)
outside-of c _ is = tt

outside-advance : (c : Command) (number : ℕ) (s : State) (r : Reply) → LeftIsOutside c s
    → LeftIsOutside c (outside_advance number s r)
outside-advance c number (Changing change) r h = tt
outside-advance c number (Over ending given) r h = tt
outside-advance c number _ r h = absurd h

pub left-is-outside : (c : Command) (rs : List Reply) → LeftIsOutside c (outside_after c rs)
left-is-outside c rs =
    after_replies-keeps (LeftIsOutside c) outside_advance 0 (outside_start c) rs (outside-advance c)
    (outside-of c c.verb refl)
