-- How far the undoing of a refused ADD, or a DEL, has come and why, and how far one entry more takes it.
use Rattle.pod_laws.proofs.Names.{◌≡◌, ◌≢◌, ◌+◌, Bool, true, false, List, [], ◌∷◌, ◌++◌, length, None, refl, ◌∙◌, ap}
use Rattle.pod_laws.proofs.Names.{inl, inr, ◌⊎◌, append_assoc, arith, list_all, Addr, RangeSet, NetList, Command}
use Rattle.pod_laws.proofs.Names.{is_fault, Call, Begin, Kind, Reply, Done, Leased, Gone, Fault, list_all-push, Share}
use Rattle.pod_laws.proofs.Names.{no_objects, att_of, add_refusal, del_refusal, Cause, Ending, Added, Yes, Skipped}
use Rattle.pod_laws.proofs.Names.{Versions, Refused, is_granted, State, AtBegin, BeforeLeases, Leasing, AfterLeases}
use Rattle.pod_laws.proofs.Names.{ReadingCache, Deleting, FindingEntry, Asking, Changing, Collecting, Over, before_of}
use Rattle.pod_laws.proofs.Names.{back_of, after_leases, leasing, before_leases, deleting, faulted, cause_of, at_begin}
use Rattle.pod_laws.proofs.Names.{at_call_before, at_lease, at_call_after, at_cache, at_deletion, sets_of, kinds_of}
use Rattle.pod_laws.proofs.Names.{Entry, HasKindsAlone}
use Rattle.pod_file.specs.declared.command.Verb.TheVariants as verbs
use Rattle.pod_laws.specs.{Deleted.{HasDeleted, IsUndeletedFor}, Moments.has_fault, Refused.{lets_go_on, FirstRefusal}}
use Rattle.pod_laws.specs.Refused.{IsRefusedFor}
use Rattle.pod_laws.proofs.{Histories.{Entries.pushed, States.IsOtherVerb}, Questions.Asking.no_fault-more}
use Rattle.pod_laws.proofs.{Questions.Asking.fault-last, Refused.Causes.Refuses}

-- ---- what led to a state

-- an ADD before its Begin
pub record IsAtBegin (c : Command) (es : List Entry) : Type 0 where
  pub verb : c.verb ≡ verbs.Add
  pub fields : add_refusal c ≡ None
  pub none : es ≡ []

-- an ADD that was begun and not refused
pub record IsUnrefused (c : Command) (es : List Entry) : Type 0 where
  pub verb : c.verb ≡ verbs.Add
  pub fields : add_refusal c ≡ None
  pub go_on : list_all lets_go_on es ≡ true
  pub begun : es ≢ []

-- an ADD that was refused at a later call than Begin
pub record IsRefusing (c : Command) (es : List Entry) (cause : Cause) : Type 0 where
  pub verb : c.verb ≡ verbs.Add
  pub fields : add_refusal c ≡ None
  pub first : FirstRefusal es cause
  pub begun : first.refuses.past ≢ []

-- a DEL that no fault has ended
pub record IsCalm (c : Command) (es : List Entry) : Type 0 where
  pub verb : c.verb ≡ verbs.Del
  pub fields : del_refusal c ≡ None
  pub no_fault : has_fault es ≡ false

-- what led to this ending, ahead of the deletions
abbrev pub Leads : Command → List Entry → Ending → Type 0
Leads c es Added = ⊥
Leads c es Yes = IsCalm c es
Leads c es (Skipped skip) = ⊥
Leads c es Versions = ⊥
Leads c es (Refused cause) = IsRefusing c es cause

-- how the run came to its end
pub record IsAddRefused (c : Command) (es : List Entry) (s : Share) (cause : Cause) : Type 0 where
  pub verb : c.verb ≡ verbs.Add
  pub why : IsRefusedFor c es s cause

pub record IsDelRefused (c : Command) (es : List Entry) (cause : Cause) : Type 0 where
  pub verb : c.verb ≡ verbs.Del
  pub why : IsUndeletedFor c es cause

pub record IsDelDone (c : Command) (es : List Entry) (s : Share) : Type 0 where
  pub verb : c.verb ≡ verbs.Del
  pub gone : HasDeleted c es s

abbrev pub IsOther : Command → Type 0
IsOther c = IsOtherVerb c.verb

abbrev pub Ends : Command → List Entry → Ending → Share → Type 0
Ends c es Added s = IsUnrefused c es
Ends c es Yes s = IsDelDone c es s ⊎ IsOther c
Ends c es (Skipped skip) s = IsOther c
Ends c es Versions s = IsOther c
Ends c es (Refused cause) s = IsAddRefused c es s cause ⊎ (IsDelRefused c es cause ⊎ IsOther c)

abbrev pub Undoing : NetList → Command → List Entry → State → Share → Type 0
Undoing list c es AtBegin s = IsAtBegin c es
Undoing list c es (BeforeLeases next left) s = IsUnrefused c es
Undoing list c es (Leasing next left given) s = IsUnrefused c es
Undoing list c es (AfterLeases next left given) s = IsUnrefused c es
Undoing list c es (ReadingCache ending) s = Leads c es ending
Undoing list c es (Deleting next left ending) s = Leads c es ending × HasKindsAlone (next ∷ left) s
Undoing list c es FindingEntry s = IsOther c
Undoing list c es (Asking next left) s = IsOther c
Undoing list c es (Changing change) s = IsOther c
Undoing list c es (Collecting work faults) s = IsOther c
Undoing list c es (Over ending given) s = Ends c es ending s

-- ---- an ADD that goes on

to-after_leases : (list : NetList) (c : Command) (es : List Entry) (left : List Call) (given : List Addr) (s : Share)
    → IsUnrefused c es → Undoing list c es (after_leases left given) s
to-after_leases list c es [] given s h = h
to-after_leases list c es (x ∷ xs) given s h = h

to-leasing : (list : NetList) (c : Command) (es : List Entry) (left : List RangeSet) (given : List Addr) (s : Share)
    → IsUnrefused c es → Undoing list c es (leasing list c left given) s
to-leasing list c es [] given s h = to-after_leases list c es (back_of list c given) given s h
to-leasing list c es (x ∷ xs) given s h = h

to-before_leases : (list : NetList) (c : Command) (es : List Entry) (left : List Call) (s : Share) → IsUnrefused c es
    → Undoing list c es (before_leases list c left) s
to-before_leases list c es [] s h = to-leasing list c es (sets_of list) [] s h
to-before_leases list c es (x ∷ xs) s h = h

unrefused-more : (c : Command) (es : List Entry) (e : Entry) → IsUnrefused c es → lets_go_on e ≡ true
    → IsUnrefused c (es ++ e ∷ [])
unrefused-more c es e h g =
    record { verb = h.verb; fields = h.fields; go_on = list_all-push lets_go_on es e h.go_on g; begun = pushed es e }

-- ---- the first refusal

refusing-now : (c : Command) (es : List Entry) (e : Entry) (cause : Cause) → IsUnrefused c es
    → Refuses (length es + 1) e.call e.reply cause → IsRefusing c (es ++ e ∷ []) cause
refusing-now c es e cause h why = record {
  verb = h.verb;
  fields = h.fields;
  first = record {
    by = e;
    refuses = record { past = es; later = []; are = refl; pass = h.go_on; fails = why.refuses };
    decides = why.decides;
  };
  begun = h.begun;
}

-- one entry more after it
refusing-more : (c : Command) (es : List Entry) (e : Entry) (cause : Cause) → IsRefusing c es cause
    → IsRefusing c (es ++ e ∷ []) cause
refusing-more c es e cause h =
    let f = h.first.refuses in
    record {
      verb = h.verb;
      fields = h.fields;
      first = record {
        by = h.first.by;
        refuses = record {
          past = f.past;
          later = f.later ++ e ∷ [];
          are = ap (λ l. l ++ e ∷ []) f.are ∙ append_assoc f.past (h.first.by ∷ f.later) (e ∷ []);
          pass = f.pass;
          fails = f.fails;
        };
        decides = h.first.decides;
      };
      begun = h.begun;
    }

-- ---- deletions

leads-more : (c : Command) (es : List Entry) (e : Entry) (ending : Ending) → Leads c es ending
    → is_fault e.reply ≡ false → Leads c (es ++ e ∷ []) ending
leads-more c es e Added h g = h
leads-more c es e (Skipped skip) h g = h
leads-more c es e Versions h g = h
leads-more c es e Yes h g = record { verb = h.verb; fields = h.fields; no_fault = no_fault-more es e h.no_fault g }
leads-more c es e (Refused cause) h g = refusing-more c es e cause h

ends-faulted : (c : Command) (es : List Entry) (e : Entry) (ending : Ending) (s : Share) → Leads c es ending
    → e.reply ≡ Fault → Ends c (es ++ e ∷ []) (faulted (length es + 1) ending) s
unfolding refusing-more
ends-faulted c es e Added s h is = absurd h
ends-faulted c es e (Skipped skip) s h is = absurd h
ends-faulted c es e Versions s h is = absurd h
ends-faulted c es e Yes s h is =
    inr (inl (record {
      verb = h.verb;
      why =
          inr (record {
            fields = h.fields;
            past = es;
            by = e;
            are = refl;
            no_fault = h.no_fault;
            fault = is;
            number = refl;
          });
    }))
ends-faulted c es e (Refused cause) s h is =
    let more = refusing-more c es e cause h in
    inl (record {
      verb = h.verb;
      why =
          inr (inr (record {
            fields = h.fields;
            first = more.first;
            begun = more.begun;
            undone = inr (fault-last h.first.refuses.later e (ap is_fault is));
          }));
    })

ends-gone : (c : Command) (es : List Entry) (ending : Ending) (s : Share) → Leads c es ending → s ≡ no_objects
    → Ends c es ending s
ends-gone c es Added s h none = absurd h
ends-gone c es (Skipped skip) s h none = absurd h
ends-gone c es Versions s h none = absurd h
ends-gone c es Yes s h none =
    inl (record { verb = h.verb; gone = record { unfailed = (h.fields, h.no_fault); gone = none } })
ends-gone c es (Refused cause) s h none =
    inl (record {
      verb = h.verb;
      why = inr (inr (record { fields = h.fields; first = h.first; begun = h.begun; undone = inl none }));
    })

to-deleting : (list : NetList) (c : Command) (es : List Entry) (ks : List Kind) (ending : Ending) (s : Share)
    → Leads c es ending → HasKindsAlone ks s → (HasKindsAlone [] s → s ≡ no_objects)
    → Undoing list c es (deleting ks ending) s
to-deleting list c es [] ending s h w none = ends-gone c es ending s h (none w)
to-deleting list c es (k ∷ ks) ending s h w none = (h, w)

-- ---- one entry, by its reply

pub undo-at_begin : (list : NetList) (c : Command) (e : Entry) (r : Reply) (t : Share) → e.reply ≡ r
    → e.call ≡ Begin (att_of c) c.netns → IsAtBegin c [] → ((r ≡ Done → ⊥) → Refuses 1 e.call e.reply (cause_of 0 1 r))
    → Undoing list c (e ∷ []) (at_begin list c 1 r) t
undo-at_begin list c e Done t is call h why =
    to-before_leases list c (e ∷ []) (before_of list c) t
    (record {
      verb = h.verb;
      fields = h.fields;
      go_on = let g : is_granted e.reply ≡ true = ap is_granted is in grind (arith, g);
      begun = pushed [] e;
    })
undo-at_begin list c e _ t is call h why =
    inl (record {
      verb = h.verb;
      why =
          inr (inl (record {
            fields = h.fields;
            by = e;
            alone = refl;
            begin_call = call;
            decides = (why (λ q. cc)).decides;
          }));
    })

pub undo-before : (list : NetList) (c : Command) (es : List Entry) (e : Entry) (xs : List Call) (r : Reply) (t : Share)
    → e.reply ≡ r → IsUnrefused c es
    → ((r ≡ Done → ⊥) → Refuses (length es + 1) e.call e.reply (cause_of 0 (length es + 1) r))
    → Undoing list c (es ++ e ∷ []) (at_call_before list c (length es + 1) xs r) t
undo-before list c es e xs Done t is h why =
    to-before_leases list c (es ++ e ∷ []) xs t (unrefused-more c es e h (ap is_granted is))
undo-before list c es e xs _ t is h why = refusing-now c es e _ h (why (λ q. cc))

pub undo-lease : (list : NetList) (c : Command) (es : List Entry) (e : Entry) (sets : List RangeSet) (given : List Addr)
    (r : Reply) (t : Share)
    → e.reply ≡ r → IsUnrefused c es
    → (((a : Addr) → r ≡ Leased a → ⊥)
    → Refuses (length es + 1) e.call e.reply (cause_of (length given) (length es + 1) r))
    → Undoing list c (es ++ e ∷ []) (at_lease list c (length es + 1) sets given r) t
undo-lease list c es e sets given (Leased a) t is h why =
    to-leasing list c (es ++ e ∷ []) sets (given ++ a ∷ []) t (unrefused-more c es e h (ap is_granted is))
undo-lease list c es e sets given _ t is h why = refusing-now c es e _ h (why (λ a q. cc))

pub undo-after : (list : NetList) (c : Command) (es : List Entry) (e : Entry) (xs : List Call) (given : List Addr)
    (r : Reply) (t : Share)
    → e.reply ≡ r → IsUnrefused c es
    → ((r ≡ Done → ⊥) → Refuses (length es + 1) e.call e.reply (cause_of 0 (length es + 1) r))
    → Undoing list c (es ++ e ∷ []) (at_call_after (length es + 1) xs given r) t
undo-after list c es e xs given Done t is h why =
    to-after_leases list c (es ++ e ∷ []) xs given t (unrefused-more c es e h (ap is_granted is))
undo-after list c es e xs given _ t is h why = refusing-now c es e _ h (why (λ q. cc))

pub undo-cache : (list : NetList) (c : Command) (es : List Entry) (e : Entry) (ending : Ending) (r : Reply) (t : Share)
    → e.reply ≡ r → Leads c es ending → HasKindsAlone (kinds_of list) t → (HasKindsAlone [] t → t ≡ no_objects)
    → Undoing list c (es ++ e ∷ []) (at_cache list (length es + 1) ending r) t
undo-cache list c es e ending Fault t is h w none = ends-faulted c es e ending t h is
undo-cache list c es e ending _ t is h w none =
    to-deleting list c (es ++ e ∷ []) (kinds_of list) ending t (leads-more c es e ending h (ap is_fault is)) w none

undo-gone : (list : NetList) (c : Command) (es : List Entry) (e : Entry) (k : Kind) (ks : List Kind) (ending : Ending)
    (b : Bool) (t : Share)
    → e.reply ≡ Gone b → Leads c es ending → HasKindsAlone (k ∷ ks) t → (b ≡ false → HasKindsAlone ks t)
    → (HasKindsAlone [] t → t ≡ no_objects)
    → Undoing list c (es ++ e ∷ []) (at_deletion (length es + 1) k ks ending (Gone b)) t
undo-gone list c es e k ks ending true t is h w less none = (leads-more c es e ending h (ap is_fault is), w)
undo-gone list c es e k ks ending false t is h w less none =
    to-deleting list c (es ++ e ∷ []) ks ending t (leads-more c es e ending h (ap is_fault is)) (less refl) none

pub undo-deletion : (list : NetList) (c : Command) (es : List Entry) (e : Entry) (k : Kind) (ks : List Kind)
    (ending : Ending) (r : Reply) (t : Share)
    → e.reply ≡ r → Leads c es ending → HasKindsAlone (k ∷ ks) t → (r ≡ Gone false → HasKindsAlone ks t)
    → (HasKindsAlone [] t → t ≡ no_objects)
    → Undoing list c (es ++ e ∷ []) (at_deletion (length es + 1) k ks ending r) t
undo-deletion list c es e k ks ending (Gone b) t is h w less none =
    undo-gone list c es e k ks ending b t is h w (λ f. less (ap (λ q. Gone q) f)) none
undo-deletion list c es e k ks ending Fault t is h w less none = ends-faulted c es e ending t h is
undo-deletion list c es e k ks ending _ t is h w less none = (leads-more c es e ending h (ap is_fault is), w)
