-- Objects are the same by the test just where their keys compare as equal.
use Rattle.std.specs.{Cmp.IsEquivalence, Option.{option_eq, unwrap_or}, Ordering.eq_by_cmp, Prelude.{◌≡◌, ◌+◌, ◌%◌}}
use Rattle.std.specs.{Prelude.{◌^◌, Bool, true, false, ◌&&◌, ℕ, ◌==◌, Option, Some, None, refl}, Str.bytes_eq}
use Rattle.std.proofs.{Common.{◌∙◌, ap, eqb-true, subst, sym, true≢false}, Math.Bool.beq, lemmas.Bool.and_parts}
use Rattle.cni_addr.specs.declared.address.{Addr.Addr, Cidr.Cidr}
use Rattle.kernel_types.specs.Equal.{addr_eq, chain_eq, cidr_eq, proto_eq, rule_eq, table_eq, tag_eq, target_eq}
use Rattle.kernel_types.specs.Keys.{addr_key, is_same_addr, is_same_route, is_same_setting, route_key, setting_key}
use Rattle.kernel_types.specs.contracts.keys.AddrKeyOrd.TheImpl.{cmp-value as addr_key_cmp}
use Rattle.kernel_types.specs.contracts.keys.AddrKeyOrd.TheImpl.Laws.{matches_eq-law as addr_key-tied}
use Rattle.kernel_types.specs.contracts.keys.RouteKeyOrd.TheImpl.{cmp-value as route_key_cmp}
use Rattle.kernel_types.specs.contracts.keys.RouteKeyOrd.TheImpl.Laws.{matches_eq-law as route_key-tied}
use Rattle.kernel_types.specs.contracts.keys.SettingKeyOrd.TheImpl.{cmp-value as setting_key_cmp}
use Rattle.kernel_types.specs.contracts.keys.SettingKeyOrd.TheImpl.Laws.{matches_eq-law as setting_key-tied}
use Rattle.kernel_types.specs.contracts.object.TagPartialEq.TheImpl.{eq-value as tag-value}
use Rattle.kernel_types.specs.contracts.rule.RuleEq.TheImpl.Laws.{laws-law as rule_laws}
use Rattle.kernel_types.specs.contracts.rule.RuleOrd.TheImpl.{cmp-value as rule_cmp, Laws.matches_eq-law as rule-tied}
use Rattle.kernel_types.specs.contracts.rule.RulePartialEq.TheImpl.{eq-value as rule-value}
use Rattle.kernel_types.specs.contracts.rule.TargetPartialEq.TheImpl.{eq-value as target-value}
use Rattle.kernel_types.specs.declared.object.{AddrObj.AddrObj, RouteObj.RouteObj, Setting.Setting, Tag.Tag}
use Rattle.kernel_types.specs.declared.{object.Tag.TheVariants.{Outside, Base, Own}, rule.{Rule.Rule, Target.Target}}
use Rattle.kernel_types.specs.declared.rule.Target.TheVariants.{Accept, Masquerade, Dnat}
use Rattle.plugin_base.specs.EachKey.{bits_or_none, halves, rule_mark}

and-assoc : (a b c : Bool) → (a && b && c) ≡ (a && (b && c))
and-assoc true b c = refl
and-assoc false b c = refl

pub addr-by_key : (new a : AddrObj) → is_same_addr new a ≡ eq_by_cmp addr_key_cmp.it (addr_key a) (addr_key new)
addr-by_key new a =
    and-assoc (bytes_eq a.ns new.ns) (bytes_eq a.link new.link) (addr_eq a.cidr.addr new.cidr.addr)
    ∙ addr_key-tied (addr_key a) (addr_key new)

pub route-by_key : (new r : RouteObj) → is_same_route new r ≡ eq_by_cmp route_key_cmp.it (route_key r) (route_key new)
route-by_key new r =
    and-assoc (bytes_eq r.ns new.ns) (cidr_eq r.dst new.dst) (bytes_eq r.link new.link)
    ∙ route_key-tied (route_key r) (route_key new)

pub setting-by_key : (new s : Setting)
    → is_same_setting new s ≡ eq_by_cmp setting_key_cmp.it (setting_key s) (setting_key new)
setting-by_key new s = setting_key-tied (setting_key s) (setting_key new)

-- ---- rules

targets_equal : (t u : Target) → target_eq t u ≡ target-value.it t u
targets_equal Accept Accept = refl
targets_equal Accept Masquerade = refl
targets_equal Accept (Dnat b q) = refl
targets_equal Masquerade Accept = refl
targets_equal Masquerade Masquerade = refl
targets_equal Masquerade (Dnat b q) = refl
targets_equal (Dnat a p) Accept = refl
targets_equal (Dnat a p) Masquerade = refl
targets_equal (Dnat a p) (Dnat b q) = refl

tags_equal : (t u : Tag) → tag_eq t u ≡ tag-value.it t u
tags_equal Outside Outside = refl
tags_equal Outside Base = refl
tags_equal Outside (Own b) = refl
tags_equal Base Outside = refl
tags_equal Base Base = refl
tags_equal Base (Own b) = refl
tags_equal (Own a) Outside = refl
tags_equal (Own a) Base = refl
tags_equal (Own a) (Own b) =
    and-assoc (bytes_eq a.network b.network) (bytes_eq a.container b.container) (bytes_eq a.ifname b.ifname)

rules_equal : (r s : Rule) → rule_eq r s ≡ rule-value.it r s
rules_equal r s = λ i.
    table_eq r.table s.table
    && (chain_eq r.chain s.chain
    && (option_eq cidr_eq r.src s.src
    && (option_eq cidr_eq r.dst s.dst
    && (beq r.not_dst s.not_dst
    && (option_eq proto_eq r.protocol s.protocol
    && (option_eq (λ p q. p == q) r.dport s.dport
    && (beq r.established s.established
    && (targets_equal r.target s.target i && tags_equal r.tag s.tag i))))))))

pub rule_key-laws : IsEquivalence rule_eq
rule_key-laws = subst IsEquivalence (λ i r s. sym (rules_equal r s) i) rule_laws

pub rule-by_key : (new r : Rule) → rule_eq new r ≡ eq_by_cmp rule_cmp.it r new
rule-by_key new r = rule_key-laws.symm new r ∙ rules_equal r new ∙ rule-tied r new

-- ---- objects of one key have one number before it

pub addrs-mark : (a b : Addr) → addr_eq a b ≡ true → a.bits ≡ b.bits
addrs-mark a b same = eqb-true a.bits b.bits (and_parts _ _ same).1

pub addr-mark : (new a : AddrObj) → is_same_addr new a ≡ true
    → halves a.cidr.addr.bits ≡ halves new.cidr.addr.bits
addr-mark new a same = ap halves (addrs-mark a.cidr.addr new.cidr.addr (and_parts _ _ same).1)

cidrs-mark : (a b : Cidr) → cidr_eq a b ≡ true → a.addr.bits ≡ b.addr.bits
cidrs-mark a b same = addrs-mark a.addr b.addr (and_parts _ _ same).0

pub route-mark : (new r : RouteObj) → is_same_route new r ≡ true
    → halves r.dst.addr.bits ≡ halves new.dst.addr.bits
route-mark new r same = ap halves (cidrs-mark r.dst new.dst (and_parts _ _ (and_parts _ _ same).0).1)

networks-mark : (a b : Option Cidr) → option_eq cidr_eq a b ≡ true → bits_or_none a ≡ bits_or_none b
networks-mark None None same = refl
networks-mark None (Some b) same = absurd (true≢false (sym same))
networks-mark (Some a) None same = absurd (true≢false (sym same))
networks-mark (Some a) (Some b) same = cidrs-mark a b same

ports-mark : (a b : Option ℕ) → option_eq (λ p q. p == q) a b ≡ true → unwrap_or a 0 ≡ unwrap_or b 0
ports-mark None None same = refl
ports-mark None (Some b) same = absurd (true≢false (sym same))
ports-mark (Some a) None same = absurd (true≢false (sym same))
ports-mark (Some a) (Some b) same = eqb-true a b same

marks-equal : (r s : Rule) → rule_eq r s ≡ true → rule_mark r ≡ rule_mark s
marks-equal r s h0 =
    let h1 = and_parts _ _ h0 in
    let h2 = and_parts _ _ h1.1 in
    let h3 = and_parts _ _ h2.1 in
    let h4 = and_parts _ _ h3.1 in
    let h5 = and_parts _ _ h4.1 in
    let h6 = and_parts _ _ h5.1 in
    let h7 = and_parts _ _ h6.1 in
    let src = networks-mark r.src s.src h3.0 in
    let dst = networks-mark r.dst s.dst h4.0 in
    let port = ports-mark r.dport s.dport h7.0 in
    λ i. (halves ((src i + dst i) % 2 ^ 128) + port i) % 2 ^ 64

pub rule-mark : (new r : Rule) → rule_eq new r ≡ true → rule_mark r ≡ rule_mark new
rule-mark new r same = sym (marks-equal new r same)
