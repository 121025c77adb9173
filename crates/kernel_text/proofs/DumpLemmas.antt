-- No line of a dump has a number outside u64 and i64.
use Rattle.std.proofs.Common.{◌≡◌, ℕ, List, ◌++◌, false, refl, ap, ◌∙◌, append_assoc}
use Rattle.serde_json.specs.{Data.{Data, Members}, Written.{has_float, members_have_float}}
use Rattle.cni_result.proofs.{ResultLemmas.{result_is_whole, mapping_is_whole}, WholeNumbers.puts_are_whole}
use Rattle.kernel_text.specs.Dump.{namespace_data, link_key_data, put_identity, put_attributes, put_relations}
use Rattle.kernel_text.specs.Dump.{link_data, address_data, route_data, put_match, put_chain, rule_data, setting_data}
use Rattle.kernel_text.specs.Dump.{lease_data, cached_data, last_data, lines_of}
use Rattle.kernel_types.specs.declared.object.{AddrObj.AddrObj, CachedObj.CachedObj, Last.Last, Lease.Lease, Link.Link}
use Rattle.kernel_types.specs.declared.object.{LinkKey.LinkKey, NsObj.NsObj, RouteObj.RouteObj, Setting.Setting}
use Rattle.kernel_types.specs.declared.rule.Rule.{Rule}

pub namespace_is_whole : (namespace : NsObj) → has_float (namespace_data namespace) ≡ false
unfolding namespace_data
namespace_is_whole namespace = refl

link_key_is_whole : (key : LinkKey) → has_float (link_key_data key) ≡ false
unfolding link_key_data
link_key_is_whole key = refl

identity_is_whole : (link : Link) (ms : Members) → members_have_float ms ≡ false
    → members_have_float (put_identity link ms) ≡ false
unfolding put_identity
identity_is_whole link ms rest = search puts_are_whole depth 10

attributes_are_whole : (link : Link) (ms : Members) → members_have_float ms ≡ false
    → members_have_float (put_attributes link ms) ≡ false
unfolding put_attributes
attributes_are_whole link ms rest = search puts_are_whole depth 10

relations_are_whole : (link : Link) (ms : Members) → members_have_float ms ≡ false
    → members_have_float (put_relations link ms) ≡ false
unfolding put_relations
relations_are_whole link ms rest = search (puts_are_whole, link_key_is_whole) depth 10

pub link_is_whole : (link : Link) → has_float (link_data link) ≡ false
unfolding link_data
link_is_whole link = search (identity_is_whole, attributes_are_whole, relations_are_whole) depth 5

pub address_is_whole : (address : AddrObj) → has_float (address_data address) ≡ false
unfolding address_data
address_is_whole address = refl

pub route_is_whole : (route : RouteObj) → has_float (route_data route) ≡ false
unfolding route_data
route_is_whole route = search puts_are_whole depth 10

match_is_whole : (rule : Rule) (ms : Members) → members_have_float ms ≡ false
    → members_have_float (put_match rule ms) ≡ false
unfolding put_match
match_is_whole rule ms rest = search puts_are_whole depth 10

chain_is_whole : (rule : Rule) (ms : Members) → members_have_float ms ≡ false
    → members_have_float (put_chain rule ms) ≡ false
unfolding put_chain
chain_is_whole rule ms rest = search puts_are_whole depth 10

pub rule_is_whole : (rule : Rule) → has_float (rule_data rule) ≡ false
unfolding rule_data
rule_is_whole rule = search (match_is_whole, chain_is_whole) depth 5

pub setting_is_whole : (setting : Setting) → has_float (setting_data setting) ≡ false
unfolding setting_data
setting_is_whole setting = refl

pub lease_is_whole : (lease : Lease) → has_float (lease_data lease) ≡ false
unfolding lease_data
lease_is_whole lease = refl

pub cached_is_whole : (entry : CachedObj) → has_float (cached_data entry) ≡ false
unfolding cached_data
cached_is_whole entry = search (puts_are_whole, result_is_whole, mapping_is_whole) depth 10

pub last_is_whole : (last : Last) → has_float (last_data last) ≡ false
unfolding last_data
last_is_whole last = refl

-- no object of a dump has such a number
pub ruleset objects_are_whole = (
  namespace_is_whole,
  link_is_whole,
  address_is_whole,
  route_is_whole,
  rule_is_whole,
  setting_is_whole,
  lease_is_whole,
  cached_is_whole,
  last_is_whole,
)

-- ---- the lists one after another

-- the first list is appended
pub first_list : {A : Type 0} (data_of : A → Data) (old new : List ℕ) (xs ys : List A)
    → new ≡ old ++ lines_of data_of xs → xs ≡ ys → new ≡ old ++ lines_of data_of ys
first_list data_of old new xs ys is same = is ∙ ap (λ l. old ++ lines_of data_of l) same

-- one more list is appended
pub next_list : {A : Type 0} (data_of : A → Data) (old text mid new : List ℕ) (xs ys : List A) → mid ≡ old ++ text
    → new ≡ mid ++ lines_of data_of xs → xs ≡ ys → new ≡ old ++ (text ++ lines_of data_of ys)
next_list data_of old text mid new xs ys before is same =
    is ∙ ap (λ l. mid ++ lines_of data_of l) same ∙ ap (λ l. l ++ lines_of data_of ys) before
    ∙ append_assoc old text (lines_of data_of ys)
