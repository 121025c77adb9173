-- What a plugin needs of the options that it is asked with.
use Rattle.std.specs.{List.list_all, Prelude.{◌≡◌, ℕ, ◌&&◌, ◌||◌, Bool, true, false, not, nat_le, nat_eq, List, find}}
use Rattle.std.specs.{Prelude.{slice_index, Option, Some, None, option_map, is_some, decimal, length}, Str.byte}
use Rattle.std.specs.Str.{bytes_eq, Parse.digits_value}
use Rattle.cni_addr.specs.AddrText.{addr_of_text}
use Rattle.kernel_types.specs.Terms.{is_host_ns}
use Rattle.net_conf.specs.Names.{is_interface_name}
use Rattle.plugin_registry.specs.declared.ask.{Ask.Ask, Form.{Form, TheVariants.{Any, IfName, Number, Address}}}
use Rattle.plugin_registry.specs.declared.ask.{Need.Need, Opt.Opt}

-- the value of the first option of this key
abbrev pub value_of : List ℕ → List Opt → Option (List ℕ)
value_of key options = option_map (λ o. o.value) (find (λ o. bytes_eq o.key key) options)

-- the decimal numeral, without a sign or a leading zero, of a number within these bounds
unfoldable pub is_number : ℕ → ℕ → List ℕ → Bool
is_number least most text =
    let n = digits_value 10 text in (nat_le least n && nat_le n most) && bytes_eq text (decimal n)

-- a digit stands first, and 0 stands only alone
abbrev pub begins_plainly : List ℕ → Bool
begins_plainly text =
    (nat_eq (length text) 1 && nat_eq (slice_index text 0) (byte "0"))
    || (nat_le (byte "1") (slice_index text 0) && nat_le (slice_index text 0) (byte "9"))

abbrev pub has_form : Form → List ℕ → Bool
has_form Any text = true
has_form IfName text = is_interface_name text
has_form (Number least most) text = is_number least most text
has_form Address text = is_some (addr_of_text text)

-- an option that is not there is missed only where it must be
abbrev pub is_met_by : Need → Option (List ℕ) → Bool
is_met_by need None = not need.must
is_met_by need (Some value) = has_form need.form value

abbrev pub is_met : List Opt → Need → Bool
is_met options need = is_met_by need (value_of need.key options)

abbrev pub first_unmet : List Need → List Opt → Option Need
first_unmet needs options = find (λ need. not (is_met options need)) needs

-- a plugin of these needs may be asked so: for a container, and with options that meet the needs
pub record IsAskable (needs : List Need) (ask : Ask) : Type 0 where
  pub container : is_host_ns ask.netns ≡ false
  pub options : list_all (is_met ask.options) needs ≡ true
