-- An attachment's objects, by their tag.
use Rattle.std.proofs.Common.{◌≡◌, Bool, List, refl, arith}
use Rattle.std.specs.{List.list_any, Prelude.find}
use Rattle.cni_addr.specs.Lists.{without_first}
use Rattle.kernel_types.specs.{Equal.att_eq, Terms.is_own}
use Rattle.kernel_types.specs.{contracts.object.AttPartialEq.TheImpl.eq-value as att_eq-value, declared.object.Att.Att}
use Rattle.kernel_types.specs.declared.object.Tag.{Tag, TheVariants.{Outside, Base, Own}}
use Rattle.object_tables.specs.{Rows.owner_named, Table.is_key}

-- what `==` computes of two attachments
pub att-same : (a b : Att) → att_eq-value.it a b ≡ att_eq a b
att-same a b = grind arith

-- a tag that names the attachment is its own
pub own-is : (eq : Att → Att → Bool) → ((a b : Att) → eq a b ≡ att_eq a b) → (att : Att) (tag : Tag)
    → is_key eq (owner_named tag) att ≡ is_own att tag
own-is eq same att Outside = refl
own-is eq same att Base = refl
own-is eq same att (Own own) = same own att

module _ {T : Type 0} (tag_of : T → Tag) (att : Att) (xs : List T) where
  pub any-own : list_any (λ x. is_key att_eq-value.it (owner_named (tag_of x)) att) xs
      ≡ list_any (λ x. is_own att (tag_of x)) xs
  any-own = λ i. list_any (λ x. own-is att_eq-value.it att-same att (tag_of x) i) xs

  pub first-own : without_first (λ x. is_key att_eq-value.it (owner_named (tag_of x)) att) xs
      ≡ without_first (λ x. is_own att (tag_of x)) xs
  first-own = λ i. without_first (λ x. own-is att_eq-value.it att-same att (tag_of x) i) xs

  pub find-own : find (λ x. is_key att_eq-value.it (owner_named (tag_of x)) att) xs
      ≡ find (λ x. is_own att (tag_of x)) xs
  find-own = λ i. find (λ x. own-is att_eq-value.it att-same att (tag_of x) i) xs
