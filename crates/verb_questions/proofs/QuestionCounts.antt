-- How many questions there are.
use Rattle.std.proofs.Common.{◌≡◌, ℕ, ◌+◌, ◌<◌, Bool, true, List, [], ◌∷◌, ◌++◌, map, length, refl, sym, ap, ◌∙◌, arith}
use Rattle.std.proofs.lemmas.List.{length-append, length-map}
use Rattle.std.specs.List.{list_any}
use Rattle.cni_addr.specs.declared.range.RangeSet.{RangeSet}
use Rattle.cni_result.specs.declared.cached.Cached.{Cached}
use Rattle.net_conf.specs.declared.{chained.Chained.Chained, list.NetList.NetList}
use Rattle.pod_file.specs.declared.command.Command.{Command}
use Rattle.kernel_types.specs.{Terms.is_link_of, declared.object.{Att.Att, Link.Link, Tag.TheVariants.Own}}
use Rattle.kernel_types.specs.declared.rule.Rule.{Rule}
use Rattle.pod_file.proofs.CommandFacts.{length-scan}
use Rattle.plugin_base.specs.Share.{Share, no_objects}
use Rattle.plugin_base.proofs.PluginCalls.{later-as_many}
use Rattle.cni_errors.specs.{CommandFields.att_of, ObjectQuestions.{link_question, address_question, route_question}}
use Rattle.cni_errors.specs.ObjectQuestions.{rule_question, rule_questions, setting_question, lease_question}
use Rattle.verb_questions.specs.Questions.{share_questions, bridge_questions, cached_share, check_questions}
use Rattle.verb_questions.specs.Questions.{pool_question, pool_questions}
use Rattle.plugin_chain.specs.Wanted.{all_links_after, bridge_of, chained_calls, links_after, links_made}
use Rattle.plugin_chain.proofs.PluginLaws.{chained_laws, first_laws}

-- ---- links

-- a chained plugin makes no link
length-after : (c : Chained) (att : Att) (netns : List ℕ) (links : List Link)
    → length (links_after c att netns links) ≡ length links
length-after c att netns links =
    let s : Share = record no_objects { links = links } in
    let laws = chained_laws c in
    ap (λ (t : Share). length t.links) (sym (laws.adds att netns [] [] s))
    ∙ later-as_many netns s (chained_calls c att netns [] []) (laws.calls att netns [] []).later

length-links : (cs : List Chained) (att : Att) (netns : List ℕ) (links : List Link)
    → length (all_links_after cs att netns links) ≡ length links
length-links [] att netns links = refl
length-links (c ∷ cs) att netns links =
    length-links cs att netns (links_after c att netns links) ∙ length-after c att netns links

some-of : {X : Type 0} (p : X → Bool) (xs : List X) → list_any p xs ≡ true → 0 < length xs
some-of p [] h = cc
some-of p (x ∷ xs) h = omega arith

-- the first plugin makes a link
first-links : (list : NetList) (att : Att) (netns : List ℕ) → 0 < length (links_made list att netns)
first-links list att netns =
    some-of (is_link_of netns att.ifname (Own att)) (links_made list att netns)
    ((first_laws list.first).inner att netns)

-- ---- CHECK

length-rules : (number : ℕ) (rules : List Rule) → length (rule_questions number rules) ≡ length rules
length-rules number rules = length-scan (λ (n : ℕ) (rule : Rule). n + 1) rule_question number rules

pub length-share : (s : Share)
    → length (share_questions s) ≡ length s.links
    + (length s.addresses + (length s.routes + (length s.rules + (length s.settings + length s.leases))))
length-share s =
    let leases = map lease_question s.leases in
    let settings = map setting_question s.settings in
    let rules = rule_questions 1 s.rules in
    let routes = map route_question s.routes in
    let addresses = map address_question s.addresses in
    length-append (map link_question s.links) (addresses ++ (routes ++ (rules ++ (settings ++ leases))))
    ∙ omega (
      arith,
      length-append addresses (routes ++ (rules ++ (settings ++ leases))),
      length-append routes (rules ++ (settings ++ leases)),
      length-append rules (settings ++ leases),
      length-append settings leases,
      length-map s.links link_question,
      length-map s.addresses address_question,
      length-map s.routes route_question,
      length-rules 1 s.rules,
      length-map s.settings setting_question,
      length-map s.leases lease_question,
    )

-- a check asks for a link at least
pub questions-left : (list : NetList) (c : Command) (cached : Cached) → 0 < length (check_questions list c cached)
unfolding check_questions
questions-left list c cached =
    let att = att_of c in
    let s = cached_share list c cached in
    omega (
      arith,
      length-append (bridge_questions (bridge_of list.first) cached.result.interfaces) (share_questions s),
      length-share s,
      length-links list.chained att cached.netns (links_made list att cached.netns),
      first-links list att cached.netns,
    )

-- ---- STATUS

pub length-pools : (network : List ℕ) (number : ℕ) (sets : List RangeSet)
    → length (pool_questions network number sets) ≡ length sets
length-pools network number sets = length-scan (λ (n : ℕ) (set : RangeSet). n + 1) (pool_question network) number sets
