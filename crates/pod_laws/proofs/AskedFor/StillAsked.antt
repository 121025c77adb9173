-- A call that leaves or removes what an attachment has leaves nothing that isn't asked for.
use Rattle.pod_laws.proofs.Names.{◌≡◌, ℕ, ◌+◌, Bool, true, false, List, [], ◌∷◌, ◌++◌, refl, sym, ◌∙◌, ap, subst, inl}
use Rattle.pod_laws.proofs.Names.{inr, arith, eqb_tells, append-nil, AreCandidates, IsSound, is_own, Call, Begin, Kind}
use Rattle.pod_laws.proofs.Names.{Reply, Done, Att, share_of, Command, is_done, leases_in, deletion, sets_of, World}
use Rattle.pod_laws.proofs.Names.{after, done, entry_of, host_of, after_entry, replies_of, reply_to, Entry, Plan}
use Rattle.pod_laws.proofs.Names.{after-append, replies_of-other, done_or_not, share-removes_none, removes-deletion}
use Rattle.pod_laws.proofs.Names.{removes-nothing, OnlyRemoves}
use Rattle.pod_workers.proofs.Worlds.Histories.{replies_of-own}
use Rattle.pod_laws.specs.AskedFor.{begins, AreAskedFor, AreCandidatesSoFar, HasNothingUnasked, IsAskedFor, IsPart}
use Rattle.pod_laws.specs.Moments.{objects_after}
use Rattle.pod_laws.proofs.Added.{Achieved.{begun-none, leases-push}, Prefixes.asked-removes}
use Rattle.pod_laws.proofs.AskedFor.Quiet.{plugin-no_lease, deletion-no_lease, question-no_lease}
use Rattle.pod_laws.proofs.Histories.Begins.{deletion-no_begin, last_begun-same, not-begins, question-no_begin}
use Rattle.pod_laws.proofs.Histories.{States.{is_question, question-leaves}, Steps.on-entry, Turns.AsksOrCollects}
use Rattle.pod_laws.proofs.{Parts.part-drops, Refused.Causes.begin-may}

leases-quiet : (m : ℕ) (h : List Entry) (e : Entry) → leases_in (e.reply ∷ []) ≡ []
    → leases_in (replies_of m (h ++ e ∷ [])) ≡ leases_in (replies_of m h)
leases-quiet m h e none = elim (eqb_tells e.command (m + 1)) [
  | inl t ↦
      ap leases_in (replies_of-own m h e t.1)
      ∙ leases-push (replies_of m h) e.reply
      ∙ ap (λ l. leases_in (replies_of m h) ++ l) none
      ∙ append-nil (leases_in (replies_of m h))
  | inr f ↦ ap leases_in (replies_of-other m h e f.1)
]

-- after an entry that doesn't begin the attachment and leases nothing to its ADD, with objects that are still asked for
pub asked-still : (p : Plan) (h : List Entry) (e : Entry) (att : Att) (a : IsAskedFor p h att) → begins att e ≡ false
    → leases_in (replies_of a.place (h ++ e ∷ [])) ≡ leases_in (replies_of a.place h)
    → IsPart (objects_after p att (h ++ e ∷ [])).cached (objects_after p att h).cached
    → AreAskedFor a.list a.by.command (leases_in (replies_of a.place h)) (objects_after p att (h ++ e ∷ []))
    → IsAskedFor p (h ++ e ∷ []) att
asked-still p h e att a not leases part objects = record {
  place = a.place;
  by = a.by;
  list = a.list;
  there = a.there;
  listed = a.listed;
  verb = a.verb;
  attachment = a.attachment;
  last = last_begun-same att h e not ∙ a.last;
  so_far = subst (AreCandidatesSoFar (sets_of a.list)) (sym leases) a.so_far;
  all_leased = λ some.
      subst (AreCandidates (sets_of a.list)) (sym leases)
      (a.all_leased (λ none. some (subst (IsPart (objects_after p att (h ++ e ∷ [])).cached) none part)));
  objects = subst (λ g. AreAskedFor a.list a.by.command g (objects_after p att (h ++ e ∷ []))) (sym leases) objects;
}

asked-quiet : (p : Plan) (h : List Entry) (e : Entry) (att : Att) → begins att e ≡ false → leases_in (e.reply ∷ []) ≡ []
    → OnlyRemoves (after p.pods.opening h) (after p.pods.opening (h ++ e ∷ [])) → HasNothingUnasked p h att
    → HasNothingUnasked p (h ++ e ∷ []) att
asked-quiet p h e att not no_lease d (inl none) =
    inl (share-removes_none att (after p.pods.opening h) (after p.pods.opening (h ++ e ∷ [])) d none)
asked-quiet p h e att not no_lease d (inr a) =
    let old = after p.pods.opening h in
    let new = after p.pods.opening (h ++ e ∷ []) in
    inr (asked-still p h e att a not (leases-quiet a.place h e no_lease)
    (part-drops (λ c. is_own att c.tag) (λ c. true) old.cached new.cached d.cached)
    (asked-removes a.list a.by.command (leases_in (replies_of a.place h)) att old new d a.objects))

abbrev pub NextAsked : World → ℕ → Att → Bool → Call → Type 0
NextAsked w n att faulty call = HasNothingUnasked w.plan (w.history ++ entry_of (host_of w) n call faulty ∷ []) att

pub quiet-now : (w : World) (n : ℕ) (att : Att) (faulty : Bool) (call : Call)
    → begins att (entry_of (host_of w) n call faulty) ≡ false → leases_in (reply_to (host_of w) call faulty ∷ []) ≡ []
    → OnlyRemoves (host_of w) (after_entry (host_of w) (entry_of (host_of w) n call faulty))
    → HasNothingUnasked w.plan w.history att → NextAsked w n att faulty call
quiet-now w n att faulty call not no_lease d was =
    let e = entry_of (host_of w) n call faulty in
    asked-quiet w.plan w.history e att not no_lease
    (subst (OnlyRemoves (host_of w)) (sym (after-append w.plan.pods.opening w.history e)) d) was

not-done : (r : Reply) → (r ≡ Done → ⊥) → is_done r ≡ false
not-done Done not = absurd (not refl)
not-done _ not = refl

not-begins_done : (att : Att) (e : Entry) → is_done e.reply ≡ false → begins att e ≡ false
not-begins_done att e h = grind (arith, h)

pub begin-now : (w : World) (n : ℕ) (att : Att) (netns : List ℕ) (faulty : Bool)
    → HasNothingUnasked w.plan w.history att
    → NextAsked w n att faulty (Begin att netns)
begin-now w n att netns faulty was =
    let k = host_of w in
    let call = Begin att netns in
    let e = entry_of k n call faulty in
    elim (done_or_not (reply_to k call faulty)) [
      | inl done ↦
          inl (ap (share_of att) (after-append w.plan.pods.opening w.history e) ∙ begun-none att netns k n faulty done)
      | inr not ↦
          quiet-now w n att faulty call (not-begins_done att e (not-done (reply_to k call faulty) not))
          (plugin-no_lease (reply_to k call faulty) (begin-may att netns k faulty))
          (on-entry (λ j. OnlyRemoves k j) k n call faulty (removes-nothing k) (λ f. removes-nothing k)) was
    ]

pub question-now : (w : World) (n : ℕ) (att : Att) (call : Call) (faulty : Bool) → is_question call ≡ true
    → HasNothingUnasked w.plan w.history att → NextAsked w n att faulty call
question-now w n att call faulty asked was =
    let k = host_of w in
    quiet-now w n att faulty call (not-begins att (entry_of k n call faulty) (question-no_begin att call asked))
    (question-no_lease k call faulty asked)
    (on-entry (λ j. OnlyRemoves k j) k n call faulty (removes-nothing k)
    (λ f. subst (OnlyRemoves k) (sym (question-leaves k call asked)) (removes-nothing k)))
    was

-- a deletion, of this attachment or another
pub deletion-now : (w : World) (n : ℕ) (att owner : Att) (faulty : Bool) (kind : Kind) → IsSound (host_of w)
    → HasNothingUnasked w.plan w.history att → NextAsked w n att faulty (deletion owner kind)
deletion-now w n att owner faulty kind sound was =
    let k = host_of w in
    let call = deletion owner kind in
    quiet-now w n att faulty call (not-begins att (entry_of k n call faulty) (deletion-no_begin owner att kind))
    (deletion-no_lease k owner kind faulty)
    (on-entry (λ j. OnlyRemoves k j) k n call faulty (removes-nothing k) (λ f. removes-deletion owner k kind sound))
    was

pub aside-now : (w : World) (n : ℕ) (c : Command) (att : Att) (call : Call) (faulty : Bool) → IsSound (host_of w)
    → AsksOrCollects c call → HasNothingUnasked w.plan w.history att → NextAsked w n att faulty call
aside-now w n c att call faulty sound (inl asked) was = question-now w n att call faulty asked was
aside-now w n c att call faulty sound (inr collected) was =
    subst (NextAsked w n att faulty) collected.deletes
    (deletion-now w n att collected.att faulty collected.kind sound was)
