-- What was printed of a member is read again.
use Rattle.std.proofs.Common.{◌≡◌, ℕ, ◌^◌, ◌<◌, List, [], ◌∷◌, Option, Some, None, option_map, Ok, refl, rules}
use Rattle.std.specs.{List.AllByRecursion, Prelude.{IfSome, map, Result}}
use Rattle.serde_json.specs.{Data.{Data, array, Members, no_members, member, object}, Find.{as_str, as_array}}
use Rattle.serde_json.specs.View.{items_of}
use Rattle.cni_json.specs.{Each.each, Fields.{field_of, u32_of, object_of}, Members.{text_data, number_data}}
use Rattle.cni_result.proofs.Lookups.{text_member, list_member, object_member}
use Rattle.cni_result.specs.{Dns.{domain_of, dns_of, texts_at, domain_at, dns_members_at}, Fields.{optional, list_of}}
use Rattle.cni_result.specs.{Reading.cidr_of, declared.{refusal.ResultError.ResultError, result.Dns.Dns}}
use Rattle.cni_addr.specs.{CidrText.cidr_of_text, Value.CidrValue}

-- a network that must be there
pub cidr_again : (blamed : List ℕ) (text : List ℕ) (c : CidrValue) → cidr_of_text text ≡ Some c
    → cidr_of blamed (field_of as_str (Some (text_data text))) ≡ Ok c
cidr_again blamed text c is = rw is refl

-- a value that may be absent, printed as a text
pub optional_again : {B : Type 0} (blamed : List ℕ) (read : List ℕ → Option B) (write : B → List ℕ) (o : Option B)
    → IfSome o (λ x. read (write x) ≡ Some x)
    → optional blamed read (field_of as_str (option_map (λ x. text_data (write x)) o)) ≡ Ok o
optional_again blamed read write None is = refl
optional_again blamed read write (Some x) is = rw is refl

-- a number that may be absent
pub number_again : (blamed : List ℕ) (o : Option ℕ) → IfSome o (λ n. n < 2 ^ 32)
    → optional blamed Some (field_of u32_of (option_map number_data o)) ≡ Ok o
number_again blamed None fits = refl
number_again blamed (Some n) fits = search rules

-- the items of a list, each of which is read again
pub each_again : {A E : Type 0} (print : A → Data) (read : Data → Result A E) (xs : List A)
    → AllByRecursion (λ x. read (print x) ≡ Ok x) xs → each read (items_of (map print xs)) ≡ Ok xs
each_again print read [] all = refl
each_again print read (x ∷ xs) all = rw (all.0, each_again print read xs all.1) refl

-- a list that is always printed
pub list_again : {A : Type 0} (blamed : List ℕ) (print : A → Data) (read : Data → Result A ResultError) (xs : List A)
    → AllByRecursion (λ x. read (print x) ≡ Ok x) xs
    → list_of blamed read (field_of as_array (Some (array (items_of (map print xs))))) ≡ Ok xs
list_again blamed print read xs all = each_again print read xs all

-- a list that is left out where empty
pub list_if_again : {A : Type 0} (blamed : List ℕ) (print : A → Data) (read : Data → Result A ResultError) (xs : List A)
    → AllByRecursion (λ x. read (print x) ≡ Ok x) xs
    → list_of blamed read (field_of as_array (list_member print xs)) ≡ Ok xs
list_if_again blamed print read [] all = refl
list_if_again blamed print read (x ∷ xs) all = each_again print read (x ∷ xs) all

-- a domain, left out where empty
pub domain_again : {E : Type 0} (wrong : E) (text : List ℕ)
    → domain_of wrong (field_of as_str (text_member text)) ≡ Ok text
domain_again wrong [] = refl
domain_again wrong (c ∷ text) = refl

-- name resolution, left out where it has no member
pub dns_again : {E : Type 0} (wrong : E) (dns : Dns) (ms : Members) → dns_members_at wrong (object ms) ≡ Ok dns
    → dns_of wrong (field_of object_of (object_member ms)) ≡ Ok dns
unfolding dns_members_at texts_at domain_at
dns_again wrong dns no_members is = is
dns_again wrong dns (member k d ms) is = is

-- what holds of each thing holds of each of a list
pub everywhere : {A : Type 0} (P Q : A → Type 0) (xs : List A) → ((x : A) → P x → Q x) → AllByRecursion P xs
    → AllByRecursion Q xs
everywhere P Q [] step all = tt
everywhere P Q (x ∷ xs) step all = (step x all.0, everywhere P Q xs step all.1)

pub each_of : {A : Type 0} (Q : A → Type 0) (xs : List A) → ((x : A) → Q x) → AllByRecursion Q xs
each_of Q [] holds = tt
each_of Q (x ∷ xs) holds = (holds x, each_of Q xs holds)
