-- The configuration of name resolution under `dns`, of a result as of a plugin's object (CNI specification 1.1.0,
-- sections 1 and 5). A member that is null is as an absent one, and unnamed members are ignored.
use Rattle.std.specs.Prelude.{ℕ, List, [], codes, Result, Ok, Err}
use Rattle.serde_json.specs.Data.{Data, string, Items}
use Rattle.cni_json.specs.{Each.list_or, Fields.{text_field, list_field, object_field, member_or}, Outcome.◌>>=◌}
use Rattle.cni_json.specs.declared.fields.Field.{Field}
use Rattle.cni_result.specs.declared.result.Dns.{Dns}

abbrev pub text_of : {E : Type 0} → E → Data → Result (List ℕ) E
text_of wrong (string text) = Ok text
text_of wrong d = Err wrong

abbrev pub texts_of : {E : Type 0} → E → Field Items → Result (List (List ℕ)) E
texts_of wrong f = list_or (Err wrong) (text_of wrong) f

-- a list of texts, empty where there is none
unfoldable pub texts_at : {E : Type 0} → E → List ℕ → Data → Result (List (List ℕ)) E
texts_at wrong key d = texts_of wrong (list_field key d)

abbrev pub domain_of : {E : Type 0} → E → Field (List ℕ) → Result (List ℕ) E
domain_of wrong f = member_or (Ok []) (Err wrong) Ok f

-- the domain, empty where there is none
unfoldable pub domain_at : {E : Type 0} → E → Data → Result (List ℕ) E
domain_at wrong d = domain_of wrong (text_field (codes "domain") d)

-- the members of a `dns` object
unfoldable pub dns_members_at : {E : Type 0} → E → Data → Result Dns E
dns_members_at wrong d = do
  nameservers ← texts_at wrong (codes "nameservers") d
  domain ← domain_at wrong d
  searched ← texts_at wrong (codes "search") d
  options ← texts_at wrong (codes "options") d
  Ok (record { nameservers = nameservers; domain = domain; search = searched; options = options })

-- nothing is configured
abbrev pub no_dns : Dns
no_dns = record { nameservers = []; domain = []; search = []; options = [] }

abbrev pub dns_of : {E : Type 0} → E → Field Data → Result Dns E
dns_of wrong f = member_or (Ok no_dns) (Err wrong) (dns_members_at wrong) f

-- the `dns` of an object; whatever is wrong in it, it is refused with this
unfoldable pub dns_of_object : {E : Type 0} → E → Data → Result Dns E
dns_of_object wrong d = dns_of wrong (object_field (codes "dns") d)
