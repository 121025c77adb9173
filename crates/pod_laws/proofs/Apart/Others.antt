-- Each entry leaves the objects of every other attachment.
use Rattle.pod_laws.proofs.Names.{◌≡◌, true, false, not, sym, ◌∙◌, ap, inl, inr, and_parts, is_gc, is_of_network, Verb}
use Rattle.pod_file.specs.declared.command.Verb.TheVariants as verbs
use Rattle.pod_laws.specs.Apart.{EachEntryLeavesOthers, LeavesOthers, leaves_others}
use Rattle.pod_laws.proofs.Histories.{EachEntry.{DoesByVerb, each-entry_of}, Turns.other-entered}

not-collecting : (v : Verb) → leaves_others v ≡ true → v ≡ verbs.Gc → ⊥
not-collecting v leaves gc = let e : true ≡ false = sym leaves ∙ ap leaves_others gc in cc

leaves-now : DoesByVerb (λ v. leaves_others v ≡ true) LeavesOthers
leaves-now w n c list call faulty on leaves = λ other apart.
    elim (other-entered w n c list call faulty other on apart) [
      | inl gc ↦ absurd (not-collecting c.command.verb leaves gc)
      | inr kept ↦ kept
    ]

of-network : (v : Verb) → leaves_others v ≡ true → is_of_network v ≡ true
of-network v leaves = (and_parts (is_of_network v) (not (is_gc v)) leaves).0

pub each_entry_leaves_others : EachEntryLeavesOthers
each_entry_leaves_others = each-entry_of (λ v. leaves_others v ≡ true) LeavesOthers of-network leaves-now
