-- The cases by which a call is taken apart, and the tags of an attachment.
use Rattle.std.proofs.Common.{◌≡◌, ℕ, Bool, true, false, List, [], ◌∷◌, Option, Some, None, refl, ◌∙◌, ap, arith}
use Rattle.std.proofs.lemmas.Bool.Decides.{nat_tests}
use Rattle.std.specs.{Cmp.Lexicographic.nat_list_eq_equiv, Option.{option_map, option_or}, Prelude.if◌then◌else◌}
use Rattle.std.specs.Str.{bytes_eq}
use Rattle.cni_addr.proofs.Cases.{by_test}
use Rattle.kernel_types.specs.{Apply.Calls.{append_unless_taken, unless_there}, Equal.{att_eq, tag_eq}}
use Rattle.kernel_types.specs.{Sound.is_unowned_kind, Terms.{is_host_ns, is_host_bridge, is_own, is_owned, is_at}}
use Rattle.kernel_types.specs.{Terms.is_veth, Touch.{TouchesOwnAlone, TouchesTag}, declared.call.Reply.Reply}
use Rattle.kernel_types.specs.declared.{call.Reply.TheVariants.Done, object.{Att.Att, Host.Host, Link.Link}}
use Rattle.kernel_types.specs.declared.object.LinkKind.{LinkKind, TheVariants.{Device, Bridge, Veth, Macvlan, Dummy}}
use Rattle.kernel_types.specs.declared.object.{LinkKind.TheVariants.Vlan, Tag.{Tag, TheVariants.{Outside, Base, Own}}}

-- ---- cases

pub by_way : (P : Host × Reply → Type 0) (o : Option Tag) (host next : Host)
    → ((t : Tag) → P (append_unless_taken (Some t) host next)) → (o ≡ None → P (append_unless_taken None host next))
    → P (append_unless_taken o host next)
by_way P None host next h g = g refl
by_way P (Some t) host next h g = h t

-- the host stays where the place isn't there or is taken
pub by_addition : (P : Host → Type 0) (there : Bool) (o : Option Tag) (host next : Host) (reply : Reply) → P host
    → (there ≡ true → o ≡ None → P next) → P (if there then append_unless_taken o host next else (host, reply)).0
by_addition P there o host next reply h g =
    by_test (λ (step : Host × Reply). P step.0) there (append_unless_taken o host next) (host, reply)
    (λ t. by_way (λ step. P step.0) o host next (λ _. h) (g t)) (λ _. h)

-- the host stays where it is there already
pub by_absence : (P : Host → Type 0) (there : Bool) (reply : Reply) (host next : Host) → P host
    → (there ≡ false → P next) → P (unless_there there reply host next).0
by_absence P there reply host next h g =
    by_test (λ (step : Host × Reply). P step.0) there (host, reply) (next, Done) (λ _. h) g

pub none-option_map : {A B : Type 0} (f : A → B) (o : Option A) → option_map f o ≡ None → o ≡ None
none-option_map f None h = refl
none-option_map f (Some x) h = cc

pub none-option_or : {A : Type 0} (o p : Option A) → option_or o p ≡ None → (o ≡ None) × (p ≡ None)
none-option_or None p h = (refl, h)
none-option_or (Some x) p h = cc

-- ---- attachments and tags

pub att_eq-refl : (a : Att) → att_eq a a ≡ true
att_eq-refl a =
    grind (arith, nat_list_eq_equiv.refl a.network, nat_list_eq_equiv.refl a.container, nat_list_eq_equiv.refl a.ifname)

pub tag_eq-refl : (t : Tag) → tag_eq t t ≡ true
tag_eq-refl Outside = refl
tag_eq-refl Base = refl
tag_eq-refl (Own att) = att_eq-refl att

pub tag_eq-own : (att : Att) (t : Tag) → tag_eq t (Own att) ≡ is_own att t
tag_eq-own att Outside = refl
tag_eq-own att Base = refl
tag_eq-own att (Own a) = refl

-- an attachment's object is its own
pub own-own : (att : Att) (t : Tag) → t ≡ Own att → is_own att t ≡ true
own-own att t e = ap (is_own att) e ∙ att_eq-refl att

pub TouchesTag-owned : (t : Tag) (old new : Host) → is_owned t ≡ true
    → ((att : Att) → t ≡ Own att → TouchesOwnAlone att old new) → TouchesTag t old new
TouchesTag-owned Outside old new h w = cc
TouchesTag-owned Base old new h w = cc
TouchesTag-owned (Own att) old new h w = w att refl

-- ---- places

pub is_at-itself : (l : Link) → is_at l.ns l.name l ≡ true
is_at-itself l = grind (arith, nat_list_eq_equiv.refl l.ns, nat_list_eq_equiv.refl l.name)

-- the host's namespace and the empty name are the same
pub host_ns-eq : (ns : List ℕ) → is_host_ns ns ≡ bytes_eq ns []
host_ns-eq [] = refl
host_ns-eq (x ∷ xs) = grind (arith, nat_tests)

-- a bridge of the host stands at its name in the host's namespace
pub host_bridge-at : (ns name : List ℕ) (l : Link) → is_host_ns ns ≡ true → is_host_bridge name l ≡ true
    → is_at ns name l ≡ true
host_bridge-at [] name l host h = grind (arith, h, host_ns-eq l.ns)
host_bridge-at (x ∷ xs) name l host h = grind (arith, host, nat_tests)

pub shared-no_veth : (k : LinkKind) → is_unowned_kind k ≡ true → is_veth k ≡ false
shared-no_veth Device h = refl
shared-no_veth Bridge h = refl
shared-no_veth Veth h = cc
shared-no_veth (Macvlan mode) h = cc
shared-no_veth Dummy h = cc
shared-no_veth (Vlan id) h = cc

pub other_host : (a b : List ℕ) → is_host_ns a ≡ true → is_host_ns b ≡ false → bytes_eq a b ≡ false
other_host [] [] h g = cc
other_host [] (y ∷ ys) h g = refl
other_host (x ∷ xs) b h g = grind (arith, nat_tests)
