-- What a DEL leaves.
use Rattle.session_laws.proofs.Names.{◌≡◌, ℕ, List, [], refl, ◌∙◌, ap, subst, inl, inr, Yes, State, ReadingCache, Over}
use Rattle.session_laws.proofs.Names.{faulted, Made, Att, Host, share_of}
use Rattle.gc_sweep.proofs.{OfKinds.HasKindsAlone-none, Removes.within_trans}
use Rattle.session_laws.specs.Laws.{EachDelLeavesOthers, EachDelMakesParts, EachDelOnlyRemoves, EachDelStaysReady}
use Rattle.session_laws.specs.Laws.{EachDeletedIsGone, EachIdleDelLeavesTheHost, IsDel, Run, end_from, finish, own_att}
use Rattle.session_laws.proofs.Courses.{Deleting.{Left, TakesBack, deletes-on, takes-nothing}, Parts.part-removes}
use Rattle.session_laws.proofs.Courses.Runs.{Keeps, along}

-- what holds of a DEL after some of its entries
record IsDeleting (r : Run) (past : List Made) (s : State) (host : Host) : Type 0 where
  left : Left r.course Yes past s (share_of (own_att r) host)
  takes : TakesBack (own_att r) r.start host

-- what is taken back twice
takes-trans : (att : Att) (old mid new : Host) → TakesBack att old mid → TakesBack att mid new → TakesBack att old new
takes-trans att old mid new first then = record {
  sound = then.sound;
  within = within_trans new mid old then.within first.within;
  apart = λ other differ. then.apart other differ ∙ first.apart other differ;
  idle = λ none. then.idle (ap (share_of att) (first.idle none) ∙ none) ∙ first.idle none;
  ready = λ pools ready. then.ready pools (first.ready pools ready);
}

keeps-deleting : (r : Run) → Keeps r.course r.command (IsDeleting r)
keeps-deleting r past number s host call fault next was =
    let step = deletes-on r.course Yes past r.command number s host call fault was.takes.sound next was.left in record {
      left = step.left;
      takes = takes-trans (own_att r) r.start host _ was.takes step.takes;
    }

deleted : (r : Run) → IsDel r → IsDeleting r r.entries (end_from (ReadingCache Yes) r) (finish r)
deleted r del =
    along r.course r.command r.faulty (IsDeleting r) (keeps-deleting r) [] 0 (ReadingCache Yes) r.start r.entries
    del.run (record {
      left = (refl, del.kinds);
      takes = takes-nothing (own_att r) r.start del.sound;
    })

not-faulted : (number : ℕ) → Yes ≡ faulted number Yes → ⊥
not-faulted number is = cc

pub deleted-gone : EachDeletedIsGone
deleted-gone r del given is =
    let was = deleted r del in
    let left : Left r.course Yes r.entries (Over Yes given) (share_of (own_att r) (finish r)) =
    subst (λ s. Left r.course Yes r.entries s (share_of (own_att r) (finish r))) is was.left in
    elim left [
      | inl none ↦ HasKindsAlone-none (own_att r) (finish r) was.takes.sound none.1
      | inr fault ↦ absurd (not-faulted fault.0 fault.1)
    ]

pub deleted-idle : EachIdleDelLeavesTheHost
deleted-idle r del none = (deleted r del).takes.idle none

pub deleted-removes : EachDelOnlyRemoves
deleted-removes r del = (deleted r del).takes.within

pub deleted-parts : EachDelMakesParts
deleted-parts r del = part-removes (own_att r) r.start (finish r) (deleted r del).takes.within.removes

pub deleted-others : EachDelLeavesOthers
deleted-others r del other differ = (deleted r del).takes.apart other differ

pub deleted-ready : EachDelStaysReady
deleted-ready r del pools ready = (deleted r del).takes.ready pools ready
