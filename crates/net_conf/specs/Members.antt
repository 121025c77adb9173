-- Members of a plugin's object, each with its refusal.
use Rattle.std.specs.{Fn.Shared, Prelude.{◌≡◌, ◌==◌, ◌&&◌, ℕ, List, codes, Bool, nat_le, if◌then◌else◌, Result, Ok}}
use Rattle.std.specs.{Prelude.{Option, Some, None, unwrap_or, is_some}, Result.result_map_both}
use Rattle.serde_json.specs.{Data.Data, Find.as_null}
use Rattle.cni_addr.specs.{AddrText.addr_of_text, declared.address.Addr.Addr}
use Rattle.cni_json.specs.{Fields.{bool_field, text_field, u64_field, member_or, needed, tested}, Outcome.◌>>=◌}
use Rattle.cni_json.specs.declared.fields.Field.{Field}
use Rattle.net_conf.specs.{Refusals.invalid, declared.error.ConfError.ConfError}
use denote.Ref.{Bor}

abbrev pub is_null : Data → Bool
is_null d = is_some (as_null d)

-- what is read of a member that may be absent, and is the default then
abbrev pub with_default : {A B : Type 0} → List ℕ → B → (A → Result B ConfError) → Field A → Result B ConfError
with_default blamed default read f = member_or (Ok default) (invalid blamed) read f

-- a value that was found and passes the test; else this key or part is to blame
abbrev pub passing : {A : Type 0} → List ℕ → (A → Bool) → Option A → Result A ConfError
passing blamed test None = invalid blamed
passing blamed test (Some x) = tested (invalid blamed) test x

-- a text that must be there and pass the test
abbrev pub needed_text : List ℕ → (List ℕ → Bool) → Field (List ℕ) → Result (List ℕ) ConfError
needed_text key test f = needed (invalid key) (tested (invalid key) test) f

-- what was read, its value under f
abbrev pub ok_map : {A B : Type 0} → (A → B) → Result A ConfError → Result B ConfError
ok_map f r = result_map_both f (λ e. e) r

-- the truth value under the key, or the default where there is none; else `outer` is to blame
abbrev pub flag_within : List ℕ → List ℕ → Bool → Data → Result Bool ConfError
flag_within outer key default d = with_default outer default Ok (bool_field key d)

-- the truth value under the key
unfoldable pub flag_at : List ℕ → Bool → Data → Result Bool ConfError
flag_at key default d = flag_within key key default d

abbrev pub addr_if_of : List ℕ → (Addr → Bool) → Field (List ℕ) → Result (Option Addr) ConfError
addr_if_of blamed test f = with_default blamed None (λ text. ok_map Some (passing blamed test (addr_of_text text))) f

-- the address under the key, which must pass the test, if one is given; else `blamed` is to blame
unfoldable pub addr_if_at : List ℕ → List ℕ → (Addr → Bool) → Data → Result (Option Addr) ConfError
addr_if_at blamed key test d = addr_if_of blamed test (text_field key d)

-- the function tells which addresses pass the test
pub record IsTest {F : Type 0} (calls : Shared F (Bor Addr × Unit {0}) Bool) (passes : F) (test : Addr → Bool)
    : Type 0 where
  pub tells : (addr : Bor Addr) (b : Bool) → calls.post passes (addr, tt) b → b ≡ test addr.now

-- from the least MTU of IPv4 (RFC 791, section 3.2), whatever families the list has, to the greatest length of a packet
abbrev pub is_mtu : ℕ → Bool
is_mtu n = nat_le 68 n && nat_le n 65535

-- the MTU of links whose own is not given
abbrev pub default_mtu : ℕ
default_mtu = 1500

-- an MTU, where 0 stands for none
abbrev pub mtu_value : ℕ → Result (Option ℕ) ConfError
mtu_value n = if n == 0 then Ok None else if is_mtu n then Ok (Some n) else invalid (codes "mtu")

abbrev pub given_mtu_of : Field ℕ → Result (Option ℕ) ConfError
given_mtu_of f = with_default (codes "mtu") None mtu_value f

-- the MTU that the object gives, if it gives one
unfoldable pub given_mtu_at : Data → Result (Option ℕ) ConfError
given_mtu_at d = given_mtu_of (u64_field (codes "mtu") d)

-- the MTU of the links that a plugin makes
unfoldable pub mtu_at : Data → Result ℕ ConfError
mtu_at d = do
  given ← given_mtu_at d
  Ok (unwrap_or given default_mtu)
