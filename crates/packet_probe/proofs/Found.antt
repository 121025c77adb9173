-- What the first rule that matches says.
use Rattle.std.proofs.{Common.{◌≡◌, Bool, true, List, Option, Some, ap, ◌∙◌}, lemmas.Bool.and_parts}
use Rattle.std.specs.{List.list_any, Option.option_copied, Prelude.{◌&&◌, find, is_some}}
use Rattle.cni_addr.proofs.{Lists.{is_some-find, passes-find}, Options.is_some-option_copied}
use Rattle.kernel_types.specs.{Equal.chain_eq, declared.rule.{Chain.Chain, Rule.Rule}}
use Rattle.packet_probe.specs.Fate.{fits_use, fits_way, first_match, leads_into, matches, matches_in}
use Rattle.packet_probe.specs.declared.packet.Packet.{Packet}
use denote.Ref.{Bor}

-- some element passes where a first is found
pub some_found : {X : Type 0} (p : X → Bool) (xs : List X) (o : Option (Bor X)) → option_copied o ≡ find p xs
    → is_some o ≡ list_any p xs
some_found p xs o found = is_some-option_copied o ∙ ap is_some found ∙ is_some-find p xs

-- a rule that speaks of a family leads into it
leads : (a b t way rest : Bool) → ((a && (b && t)) && (way && rest)) ≡ true → t ≡ true
leads a b t way rest h = (and_parts b t (and_parts a (b && t) (and_parts (a && (b && t)) (way && rest) h).0).1).1

-- so does the first that matches
pub first_match-leads_into : (chain : Chain) (rules : List Rule) (p : Packet) (rule : Rule)
    → first_match chain rules p ≡ Some rule → leads_into p.dst.family rule.target ≡ true
first_match-leads_into chain rules p rule found =
    leads _ _ (leads_into p.dst.family rule.target) (fits_way p rule) (fits_use p rule)
    (and_parts (chain_eq rule.chain chain) (matches p rule) (passes-find (matches_in chain p) rules rule found)).1
