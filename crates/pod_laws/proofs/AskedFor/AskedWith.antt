-- What an ADD that goes on asks for, at each of its calls.
use Rattle.pod_laws.proofs.Names.{◌≡◌, ◌≢◌, ℕ, Bool, true, false, List, [], ◌∷◌, ◌++◌, refl, sym, ◌∙◌, ap, subst, inr}
use Rattle.pod_laws.proofs.Names.{append_assoc, Addr, RangeSet, AreCandidates, NetList, Call, Share, share_of}
use Rattle.pod_laws.proofs.Names.{no_objects, share_after_calls, before_of, back_of, leases_in, att_of, sets_of, Placed}
use Rattle.pod_laws.proofs.Names.{World, entry_of, host_of, after_entry, replies_of, after-append, append-nil}
use Rattle.pod_laws.proofs.Names.{all_zipped_more, is_candidate, Command}
use Rattle.pod_laws.specs.{AskedFor.{is_begin_of, AreAskedFor, AreCandidatesSoFar}, Moments.objects_after}
use Rattle.pod_laws.specs.Moments.{own_entries}
use Rattle.pod_laws.proofs.Added.{Achieved.{leased_in, with_leases}, Prefixes.{asked-after_leases, asked-before_leases}}
use Rattle.pod_laws.proofs.{Added.Prefixes.{asked-leasing, none_cached-before}, AskedFor.StillAsked.NextAsked}
use Rattle.pod_laws.proofs.Histories.{Begins.{all-last, last_begun-same, not-begins}, Entries.is_of-own}
use Rattle.pod_laws.proofs.{Histories.{Entries.own_entries-own, Steps.GoesOn}, Refused.Undoing.IsUnrefused}

-- ---- an entry of an ADD that goes on

-- what the attachment has is asked for with these addresses: one candidate a set so far, and of every set where it has
-- a cached result
pub record IsAskedWith (list : NetList) (c : Command) (given : List Addr) (objects : Share) : Type 0 where
  pub so_far : AreCandidatesSoFar (sets_of list) given
  pub all_leased : objects.cached ≢ [] → AreCandidates (sets_of list) given
  pub objects_are : AreAskedFor list c given objects

pub making-now : (w : World) (n : ℕ) (c : Placed) (list : NetList) (call : Call) (faulty : Bool)
    → GoesOn w n c list call faulty → IsUnrefused c.command (own_entries n w.history)
    → is_begin_of (att_of c.command) call ≡ false → (given : List Addr)
    → leased_in (own_entries n w.history ++ entry_of (host_of w) n call faulty ∷ []) ≡ given
    → IsAskedWith list c.command given
    (share_of (att_of c.command) (after_entry (host_of w) (entry_of (host_of w) n call faulty)))
    → NextAsked w n (att_of c.command) faulty call
making-now w n c list call faulty on un not given leased asked =
    let h = w.history in
    let e = entry_of (host_of w) n call faulty in
    let att = att_of c.command in
    let leases : leases_in (replies_of n (h ++ e ∷ [])) ≡ given =
    ap leased_in (own_entries-own n h e (is_of-own n e refl)) ∙ leased in
    let now : IsAskedWith list c.command given (objects_after w.plan att (h ++ e ∷ [])) =
    subst (λ k. IsAskedWith list c.command given (share_of att k))
    (sym (after-append w.plan.pods.opening h e)) asked in
    inr (record {
      place = n;
      by = c;
      list = list;
      there = on.ready.there;
      listed = on.listed;
      verb = un.verb;
      attachment = refl;
      last =
          last_begun-same att h e (not-begins att e not)
          ∙ all-last w on.legal n c on.ready.there on.ready.unanswered un.verb un.begun un.go_on;
      so_far = subst (AreCandidatesSoFar (sets_of list)) (sym leases) now.so_far;
      all_leased = λ some. subst (AreCandidates (sets_of list)) (sym leases) (now.all_leased some);
      objects =
          subst (λ g. AreAskedFor list c.command g (objects_after w.plan att (h ++ e ∷ [])))
          (sym leases) now.objects_are;
    })

-- ---- what is asked for at each call of an ADD

pub with-before_leases : (list : NetList) (c : Command) (made left : List Call) → before_of list c ≡ made ++ left
    → IsAskedWith list c [] (share_after_calls no_objects made)
with-before_leases list c made left part = record {
  so_far = record { past = []; left = sets_of list; are = refl; candidates = tt };
  all_leased = λ some. absurd (some (none_cached-before list c made left part));
  objects_are = asked-before_leases list c made left part;
}

pub with-leasing : (list : NetList) (c : Command) (given : List Addr) → AreCandidatesSoFar (sets_of list) given
    → IsAskedWith list c given (with_leases list c given)
with-leasing list c given so_far = record {
  so_far = so_far;
  all_leased = λ some.
      absurd (some (none_cached-before list c (before_of list c) [] (sym (append-nil (before_of list c)))));
  objects_are = asked-leasing list c given;
}

pub with-after_leases : (list : NetList) (c : Command) (given : List Addr) → AreCandidates (sets_of list) given
    → (made left : List Call) → back_of list c given ≡ made ++ left
    → IsAskedWith list c given (share_after_calls (with_leases list c given) made)
with-after_leases list c given candidates made left part = record {
  so_far = record { past = sets_of list; left = []; are = sym (append-nil (sets_of list)); candidates = candidates };
  all_leased = λ some. candidates;
  objects_are = asked-after_leases list c given made left part;
}

-- one more leased address
pub candidates-more : (sets : List RangeSet) (past left : List RangeSet) (set : RangeSet) (given : List Addr) (a : Addr)
    → sets ≡ past ++ set ∷ left → AreCandidates past given → is_candidate set a ≡ true
    → AreCandidatesSoFar sets (given ++ a ∷ [])
candidates-more sets past left set given a are candidates fits = record {
  past = past ++ set ∷ [];
  left = left;
  are = are ∙ sym (append_assoc past (set ∷ []) left);
  candidates = all_zipped_more (λ (s : RangeSet) (x : Addr). is_candidate s x ≡ true) past given set a candidates fits;
}
