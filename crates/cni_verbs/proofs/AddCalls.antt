-- A run of an ADD that is granted all its calls makes just these, in their order.
use Rattle.std.proofs.Common.{◌≡◌, ℕ, zero, suc, ◌+◌, Bool, true, false, List, [], ◌∷◌, ◌++◌, map, length, take}
use Rattle.std.proofs.Common.{slice_get, Some, None, refl, sym, ◌∙◌, ap, subst, append_assoc, arith}
use Rattle.std.proofs.lemmas.{Bool.and_parts, List.{append-nil, length_push, Elements.filter_map-append}}
use Rattle.std.specs.{List.list_all, Prelude.is_some}
use Rattle.cni_addr.specs.declared.{address.Addr.Addr, range.RangeSet.RangeSet}
use Rattle.host_local.specs.Leases.{lease_calls_from, lease_calls_of}
use Rattle.kernel_types.specs.declared.call.{Call.{Call, TheVariants.LeaseNext}, Reply.{Reply, TheVariants.Done}}
use Rattle.kernel_types.specs.declared.{call.Reply.TheVariants.Leased, object.Att.Att}
use Rattle.net_conf.specs.declared.list.NetList.{NetList}
use Rattle.pod_file.specs.declared.command.Command.{Command}
use Rattle.pod_file.specs.declared.command.Verb.TheVariants as verbs
use Rattle.plugin_base.specs.Calls.{is_plugin_call_of}
use Rattle.cni_verbs.specs.AddCalls.{AddMakesItsCalls, AddMayBeGranted, AreGranted, added, calls_of_add, is_done}
use Rattle.cni_verbs.specs.{AddCalls.is_granted_by, Mappings.mappings_of, Script.{State, AtBegin, BeforeLeases}}
use Rattle.cni_verbs.specs.Script.{Leasing, AfterLeases, Finish, Calls, Finishes, before_of, back_of, after_leases}
use Rattle.cni_verbs.specs.Script.{leasing, before_leases, advance, start_of, start_state, state_from, turn}
use Rattle.cni_verbs.specs.Script.{unless_refused, leased_by, leases_in}
use Rattle.cni_errors.specs.CommandFields.{att_of, add_refusal}
use Rattle.plugin_chain.specs.Wanted.{sets_of}
use Rattle.plugin_chain.proofs.OwnCalls.{own-before, own-back}

-- ---- a run from a state

-- it makes these calls, one after each reply, and then ends so
abbrev Makes : NetList → Command → Finish → ℕ → State → List Call → List Reply → Type 0
Makes list c finish made s [] [] = turn c s ≡ Finishes finish
Makes list c finish made s (x ∷ xs) (r ∷ rs) =
    (turn c s ≡ Calls x) × Makes list c finish (made + 1) (advance list c (made + 1) s r) xs rs
Makes list c finish made s xs rs = ⊥

each-made : (list : NetList) (c : Command) (finish : Finish) (made : ℕ) (s : State) (xs : List Call) (rs : List Reply)
    → Makes list c finish made s xs rs
    → (k : ℕ) (call : Call) → slice_get xs k ≡ Some call → turn c (state_from list c made s (take k rs)) ≡ Calls call
each-made list c finish made s [] [] h k call at = cc
each-made list c finish made s [] (r ∷ rs) h k call at = absurd h
each-made list c finish made s (x ∷ xs) [] h k call at = absurd h
each-made list c finish made s (x ∷ xs) (r ∷ rs) h zero call at = h.0 ∙ cc
each-made list c finish made s (x ∷ xs) (r ∷ rs) h (suc k) call at =
    each-made list c finish (made + 1) (advance list c (made + 1) s r) xs rs h.1 k call at

end-made : (list : NetList) (c : Command) (finish : Finish) (made : ℕ) (s : State) (xs : List Call) (rs : List Reply)
    → Makes list c finish made s xs rs → turn c (state_from list c made s rs) ≡ Finishes finish
end-made list c finish made s [] [] h = h
end-made list c finish made s [] (r ∷ rs) h = absurd h
end-made list c finish made s (x ∷ xs) [] h = absurd h
end-made list c finish made s (x ∷ xs) (r ∷ rs) h =
    end-made list c finish (made + 1) (advance list c (made + 1) s r) xs rs h.1

-- ---- granted calls

abbrev leases_none : Call → Bool
leases_none (LeaseNext att number set) = false
leases_none call = true

done-is : (r : Reply) → is_done r ≡ true → r ≡ Done
done-is Done is = refl
done-is _ is = cc

granted-done : (call : Call) (r : Reply) → leases_none call ≡ true → is_granted_by call r ≡ true → r ≡ Done
granted-done (LeaseNext att number set) r none is = cc
granted-done _ r none is = done-is r is

granted-leased : (r : Reply) → is_some (leased_by r) ≡ true → (addr : Addr) × (r ≡ Leased addr)
granted-leased (Leased addr) is = (addr, refl)
granted-leased _ is = absurd cc

none-leased : (xs : List Call) (rs : List Reply) → list_all leases_none xs ≡ true → AreGranted xs rs → leases_in rs ≡ []
none-leased [] [] none all = refl
none-leased [] (r ∷ rs) none all = absurd all
none-leased (x ∷ xs) [] none all = absurd all
none-leased (x ∷ xs) (r ∷ rs) none all =
    let both = and_parts (leases_none x) (list_all leases_none xs) none in
    ap (λ q. leases_in (q ∷ rs)) (granted-done x r both.0 all.0) ∙ none-leased xs rs both.1 all.1

plugin-leases_none : (att : Att) (call : Call) → is_plugin_call_of att call ≡ true → leases_none call ≡ true
plugin-leases_none att (LeaseNext a number set) own = own
plugin-leases_none att _ own = refl

all-leases_none : (att : Att) (calls : List Call) → list_all (is_plugin_call_of att) calls ≡ true
    → list_all leases_none calls ≡ true
all-leases_none att [] own = refl
all-leases_none att (x ∷ xs) own =
    let both = and_parts (is_plugin_call_of att x) (list_all (is_plugin_call_of att) xs) own in
    grind (arith, plugin-leases_none att x both.0, all-leases_none att xs both.1)

before-leases_none : (list : NetList) (c : Command) → list_all leases_none (before_of list c) ≡ true
before-leases_none list c = all-leases_none (att_of c) (before_of list c) (own-before list.first (att_of c) c.netns)

back-leases_none : (list : NetList) (c : Command) (given : List Addr)
    → list_all leases_none (back_of list c given) ≡ true
back-leases_none list c given =
    all-leases_none (att_of c) (back_of list c given) (own-back list (att_of c) c.netns (mappings_of list c) given)

-- ---- a run, from its end to its start

makes-back : (list : NetList) (c : Command) (given : List Addr) (made : ℕ) (left : List Call) (rs : List Reply)
    → list_all leases_none left ≡ true → AreGranted left rs
    → Makes list c (added given) made (after_leases left given) left rs
unfolding turn advance
makes-back list c given made [] [] none all = refl
makes-back list c given made [] (r ∷ rs) none all = absurd all
makes-back list c given made (x ∷ xs) [] none all = absurd all
makes-back list c given made (x ∷ xs) (r ∷ rs) none all =
    let both = and_parts (leases_none x) (list_all leases_none xs) none in (
      refl,
      subst
          (λ q. Makes list c (added given) (made + 1) (advance list c (made + 1) (AfterLeases x xs given) q) xs rs)
          (sym (granted-done x r both.0 all.0)) (makes-back list c given (made + 1) xs rs both.1 all.1),
    )

-- the calls from the leases on
abbrev from_leases : NetList → Command → List Addr → ℕ → List RangeSet → List Call
from_leases list c total number sets = lease_calls_from (att_of c) number sets ++ back_of list c total

makes-leases : (list : NetList) (c : Command) (total given : List Addr) (made : ℕ) (sets : List RangeSet)
    (rs : List Reply)
    → total ≡ given ++ leases_in rs
    → AreGranted (from_leases list c total (length given) sets) rs
    → Makes list c (added total) made (leasing list c sets given) (from_leases list c total (length given) sets) rs
unfolding turn advance
makes-leases list c total given made [] rs is all =
    let none = back-leases_none list c total in
    let whole : total ≡ given =
    is ∙ ap (λ more. given ++ more) (none-leased (back_of list c total) rs none all) ∙ append-nil given in
    subst (λ g. Makes list c (added total) made (after_leases (back_of list c g) g) (back_of list c total) rs) whole
    (makes-back list c total made (back_of list c total) rs none all)
makes-leases list c total given made (s ∷ ss) [] is all = absurd all
makes-leases list c total given made (s ∷ ss) (r ∷ rs) is all =
    let leased = granted-leased r all.0 in
    let longer = given ++ leased.0 ∷ [] in
    let more : total ≡ longer ++ leases_in rs =
    is ∙ ap (λ q. given ++ leases_in (q ∷ rs)) leased.1 ∙ sym (append_assoc given (leased.0 ∷ []) (leases_in rs)) in
    let rest =
    makes-leases list c total longer (made + 1) ss rs more
    (subst (λ n. AreGranted (from_leases list c total n ss) rs) (sym (length_push given leased.0)) all.1) in (
      refl,
      subst (λ q. Makes list c (added total) (made + 1) (advance list c (made + 1) (Leasing s ss given) q)
          (from_leases list c total (length given + 1) ss) rs)
          (sym leased.1)
          (subst
          (λ n. Makes list c (added total) (made + 1) (leasing list c ss longer) (from_leases list c total n ss) rs)
          (length_push given leased.0) rest),
    )

-- the calls from here on, of which these stand before the leases
abbrev from_before : NetList → Command → List Addr → List Call → List Call
from_before list c total left = left ++ (lease_calls_of (sets_of list) (att_of c) ++ back_of list c total)

makes-before : (list : NetList) (c : Command) (total : List Addr) (made : ℕ) (left : List Call) (rs : List Reply)
    → total ≡ leases_in rs → list_all leases_none left ≡ true
    → AreGranted (from_before list c total left) rs
    → Makes list c (added total) made (before_leases list c left) (from_before list c total left) rs
unfolding turn advance
makes-before list c total made [] rs is none all = makes-leases list c total [] made (sets_of list) rs is all
makes-before list c total made (x ∷ xs) [] is none all = absurd all
makes-before list c total made (x ∷ xs) (r ∷ rs) is none all =
    let both = and_parts (leases_none x) (list_all leases_none xs) none in
    let done = granted-done x r both.0 all.0 in (
      refl,
      subst (λ q. Makes list c (added total) (made + 1) (advance list c (made + 1) (BeforeLeases x xs) q)
          (from_before list c total xs) rs)
          (sym done)
          (makes-before list c total (made + 1) xs rs (is ∙ ap (λ q. leases_in (q ∷ rs)) done) both.1 all.1),
    )

makes-all : (list : NetList) (c : Command) (total : List Addr) (rs : List Reply) → total ≡ leases_in rs
    → AreGranted (calls_of_add list c total) rs → Makes list c (added total) 0 AtBegin (calls_of_add list c total) rs
unfolding turn advance
makes-all list c total [] is all = absurd all
makes-all list c total (r ∷ rs) is all =
    let done : r ≡ Done = done-is r all.0 in (
      refl,
      subst
          (λ q.
          Makes list c (added total) 1 (advance list c 1 AtBegin q) (from_before list c total (before_of list c)) rs)
          (sym done)
          (makes-before list c total 1 (before_of list c) rs (is ∙ ap (λ q. leases_in (q ∷ rs)) done)
          (before-leases_none list c) all.1),
    )

begins : (list : NetList) (c : Command) → c.verb ≡ verbs.Add → add_refusal c ≡ None → start_state list c ≡ AtBegin
begins list c is none = ap (λ v. start_of list v c) is ∙ ap (λ o. unless_refused o AtBegin) none

pub add_makes_its_calls : AddMakesItsCalls
add_makes_its_calls list c rs is none all =
    let given = leases_in rs in
    let calls = calls_of_add list c given in
    let makes : Makes list c (added given) 0 (start_state list c) calls rs =
    subst (λ s. Makes list c (added given) 0 s calls rs) (sym (begins list c is none))
    (makes-all list c given rs refl all) in
    record {
      each = each-made list c (added given) 0 (start_state list c) calls rs makes;
      ends = end-made list c (added given) 0 (start_state list c) calls rs makes;
    }

-- ---- replies that grant all

granted-append : (xs ys : List Call) (rs qs : List Reply) → AreGranted xs rs → AreGranted ys qs
    → AreGranted (xs ++ ys) (rs ++ qs)
granted-append [] ys [] qs h g = g
granted-append [] ys (r ∷ rs) qs h g = absurd h
granted-append (x ∷ xs) ys [] qs h g = absurd h
granted-append (x ∷ xs) ys (r ∷ rs) qs h g = (h.0, granted-append xs ys rs qs h.1 g)

abbrev dones : List Call → List Reply
dones calls = map (λ call. Done) calls

by-done : (call : Call) → leases_none call ≡ true → is_granted_by call Done ≡ true
by-done (LeaseNext att number set) none = cc
by-done _ none = refl

granted-dones : (xs : List Call) → list_all leases_none xs ≡ true → AreGranted xs (dones xs)
granted-dones [] none = tt
granted-dones (x ∷ xs) none =
    let both = and_parts (leases_none x) (list_all leases_none xs) none in
    (by-done x both.0, granted-dones xs both.1)

granted-leases : (att : Att) (number : ℕ) (sets : List RangeSet) (given : List Addr) → length given ≡ length sets
    → AreGranted (lease_calls_from att number sets) (map Leased given)
granted-leases att number [] [] same = tt
granted-leases att number [] (a ∷ as_) same = absurd (omega arith)
granted-leases att number (s ∷ ss) [] same = absurd (omega arith)
granted-leases att number (s ∷ ss) (a ∷ as_) same = (refl, granted-leases att (number + 1) ss as_ (omega arith))

leased-dones : (xs : List Call) → leases_in (dones xs) ≡ []
leased-dones [] = refl
leased-dones (x ∷ xs) = leased-dones xs

leased-all : (given : List Addr) → leases_in (map Leased given) ≡ given
leased-all [] = refl
leased-all (a ∷ as_) = ap (λ more. a ∷ more) (leased-all as_)

pub add_may_be_granted : AddMayBeGranted
add_may_be_granted list c given same =
    let before = before_of list c in
    let back = back_of list c given in
    let leases = lease_calls_of (sets_of list) (att_of c) in
    record {
      replies = Done ∷ (dones before ++ (map Leased given ++ dones back));
      granted = (
        refl,
        granted-append before (leases ++ back) (dones before) (map Leased given ++ dones back)
            (granted-dones before (before-leases_none list c))
            (granted-append leases back (map Leased given) (dones back)
            (granted-leases (att_of c) 0 (sets_of list) given same)
            (granted-dones back (back-leases_none list c given))),
      );
      leased =
          filter_map-append leased_by (dones before) (map Leased given ++ dones back)
          ∙ ap (λ l. l ++ leases_in (map Leased given ++ dones back)) (leased-dones before)
          ∙ filter_map-append leased_by (map Leased given) (dones back)
          ∙ ap (λ l. leases_in (map Leased given) ++ l) (leased-dones back) ∙ append-nil (leases_in (map Leased given))
          ∙ leased-all given;
    }
