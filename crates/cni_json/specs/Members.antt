-- JSON objects as they are printed: a member that is absent is left out, and keys stand in byte order.
use Rattle.std.specs.Prelude.{ℕ, List, [], ◌∷◌, Bool, true, if◌then◌else◌, Option, Some, None, map}
use Rattle.serde_json.specs.Data.{Data, boolean, number, string, array, object, unsigned, Members, no_members, member}
use Rattle.serde_json.specs.{Data.put, View.{items_of, members_view}}
use Rattle.cni_addr.specs.{AddrText.addr_text, CidrText.cidr_text, MacText.mac_text, Value.{AddrValue, CidrValue}}
use Rattle.cni_addr.specs.declared.mac.Mac.{Mac}
use Rattle.cni_json.specs.declared.members.JsonObject.{JsonObject}

-- what an object that is being built holds, in ascending byte order of the keys
abbrev pub members_of : JsonObject → Members
members_of o = members_view o.members.entries

-- the members of an object, none of any other value
abbrev pub members_in : Data → Members
members_in (object ms) = ms
members_in d = no_members

-- the members whose keys pass the test, in their order
abbrev pub members_where : (List ℕ → Bool) → Members → Members
members_where test no_members = no_members
members_where test (member k d ms) =
    if test k then member k d (members_where test ms) else members_where test ms

-- a text
abbrev pub text_data : List ℕ → Data
text_data text = string text

-- a number that isn't below 0
abbrev pub number_data : ℕ → Data
number_data n = number (unsigned n)

-- an address
abbrev pub addr_data : AddrValue → Data
addr_data a = text_data (addr_text a)

-- a network
abbrev pub cidr_data : CidrValue → Data
cidr_data c = text_data (cidr_text c)

-- a hardware address
abbrev pub mac_data : Mac → Data
mac_data m = text_data (mac_text m)

-- a list, each item as its own data
abbrev pub list_data : {A : Type 0} → (A → Data) → List A → Data
list_data data_of items = array (items_of (map data_of items))

-- the members, then a step that puts more
infixl 10 ◌▷◌
abbrev pub ◌▷◌ : Members → (Members → Members) → Members
ms ▷ step = step ms

-- a member that may be absent
abbrev pub put_if : {A : Type 0} → (A → Data) → List ℕ → Option A → Members → Members
put_if data_of key None ms = ms
put_if data_of key (Some x) ms = put key (data_of x) ms

-- a truth value that is left out where false
abbrev pub put_if_true : List ℕ → Bool → Members → Members
put_if_true key flag ms = if flag then put key (boolean true) ms else ms

-- a text that is left out where empty
abbrev pub put_text_unless_empty : List ℕ → List ℕ → Members → Members
put_text_unless_empty key [] ms = ms
put_text_unless_empty key (c ∷ text) ms = put key (text_data (c ∷ text)) ms

-- a list that is left out where empty
abbrev pub put_list_unless_empty : {A : Type 0} → (A → Data) → List ℕ → List A → Members → Members
put_list_unless_empty data_of key [] ms = ms
put_list_unless_empty data_of key (x ∷ xs) ms = put key (list_data data_of (x ∷ xs)) ms

-- an object that is left out where it has no member
abbrev pub put_object_unless_empty : List ℕ → Members → Members → Members
put_object_unless_empty key no_members ms = ms
put_object_unless_empty key (member k d inner) ms = put key (object (member k d inner)) ms
