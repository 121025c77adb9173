-- What the configuration of `tuning` keeps that is read.
use Rattle.std.proofs.Common.{◌≡◌, ℕ, Bool, true, false, List, [], codes, Option, Some, None, Result, Ok, Less, nat_cmp}
use Rattle.std.proofs.{Common.{nat_eq, refl, sym, ap, ◌∙◌, subst}, lemmas.{Bool.not-false, List.Elements.All-nil}}
use Rattle.std.proofs.lemmas.{List.Elements.All-cons, Map.Text.is_eq-slice_cmp}
use Rattle.std.specs.{Cmp.Lexicographic.slice_cmp, List.{AllByRecursion, IsDistinct, Sorted.IsStrictlySortedBy}}
use Rattle.std.specs.{Option.ForSome, Ordering.is_eq, Prelude.{All, IfSome, not, map, if◌then◌else◌, ok_or, option_map}}
use Rattle.std.specs.Str.{bytes_eq}
use Rattle.serde_json.specs.Data.{Data, null, boolean, number, string, array, object, Members, no_members, member}
use Rattle.serde_json.specs.Find.{get}
use Rattle.cni_json.specs.{Fields.{member_at, u64_field, u32_field, has_32_bits}, WellFormed.{keys, AreAscending}}
use Rattle.cni_json.specs.{WellFormed.{HasAscendingKeys, KeysAscend}, declared.fields.Field.{Field, TheVariants.Absent}}
use Rattle.cni_json.specs.declared.fields.Field.TheVariants.{WrongKind, Here}
use Rattle.cni_addr.proofs.{Cases.by_test, MacTexts.mac_read_is_spelled}
use Rattle.cni_addr.specs.{MacText.{IsMac, mac_of_text}, declared.mac.Mac.Mac}
use Rattle.cni_json.proofs.{Ascending.{IsBelow, get-everywhere}, Endings.{goes, ok_same, passed}}
use Rattle.cni_json.proofs.WholeNumbers.{member_at-found, u32_of-fits}
use Rattle.net_conf.specs.{Members.{is_null, flag_at, is_mtu, given_mtu_of, given_mtu_at}, Tuning.has_part}
use Rattle.net_conf.specs.Tuning.{is_network_setting, setting_or_refused, read_setting_of, settings_of, sysctl_of}
use Rattle.net_conf.specs.Tuning.{sysctl_at, new_mac_of, new_mac_at, queue_length_of, queue_length_at, tuning_at}
use Rattle.net_conf.specs.{WellFormed.{IsMtu, IsNetworkSetting, IsWellFormedTuning}, declared.chained.Sysctl.Sysctl}
use Rattle.net_conf.specs.declared.{chained.TuningConf.TuningConf, error.ConfError.ConfError}

-- ---- settings

-- a setting keeps its key, which is one of the network
abbrev IsSettingOf : List ℕ → Sysctl → Type 0
IsSettingOf key setting = (setting.key ≡ key) × IsNetworkSetting setting

-- a test's outcome is one of two
pub by_outcome : {A P : Type 0} (b : Bool) (x y : Result A ConfError) (z : Result A ConfError)
    → (if b then x else y) ≡ z → (b ≡ true → x ≡ z → P) → (b ≡ false → y ≡ z → P) → P
by_outcome {A = A} {P = P} b x y z is first second =
    by_test (λ (r : Result A ConfError). r ≡ z → P) b x y first second is

setting_or_refused-ok : (key value : List ℕ) (setting : Sysctl) → setting_or_refused key value ≡ Ok setting
    → IsSettingOf key setting
setting_or_refused-ok key value setting is =
    by_outcome (not (is_network_setting key)) _ _ _ is (λ other same. cc)
    (λ net same. by_outcome (has_part (codes "IFNAME") key) _ _ _ same (λ name refused. cc)
    (λ plain read. subst (IsSettingOf key) (ok_same read) (refl, not-false (is_network_setting key) net)))

read_setting_of-ok : (key : List ℕ) (d : Data) (setting : Sysctl) → read_setting_of key d ≡ Ok setting
    → IsSettingOf key setting
read_setting_of-ok key null setting is = cc
read_setting_of-ok key (boolean b) setting is = cc
read_setting_of-ok key (number n) setting is = cc
read_setting_of-ok key (string value) setting is = setting_or_refused-ok key value setting is
read_setting_of-ok key (array ds) setting is = cc
read_setting_of-ok key (object ms) setting is = cc

abbrev setting_keys : List Sysctl → List (List ℕ)
setting_keys settings = map (λ setting. setting.key) settings

abbrev Differs : List ℕ → List ℕ → Type 0
Differs k l = bytes_eq k l ≡ false

-- what settings keep together
record AreSettings (settings : List Sysctl) : Type 0 where
  network : All IsNetworkSetting settings
  once : IsDistinct bytes_eq (setting_keys settings)

below_differs : (k l : List ℕ) → slice_cmp nat_cmp k l ≡ Less → Differs k l
below_differs k l below = sym (is_eq-slice_cmp k l) ∙ ap is_eq below

-- a key below all members differs from the key of each setting
below_settings : (k : List ℕ) (ms : Members) (settings : List Sysctl) → IsBelow k (keys ms)
    → settings_of ms ≡ Ok settings → AllByRecursion (Differs k) (setting_keys settings)
below_settings k no_members settings below is =
    subst (λ found. AllByRecursion (Differs k) (setting_keys found)) (ok_same is) tt
below_settings k (member l d ms) settings below is =
    by_outcome (is_null d) _ _ _ is (λ null same. below_settings k ms settings below.1 same) (λ there same.
    let one = goes (read_setting_of l d) _ settings same in
    let more = goes (settings_of ms) _ settings one.rest in
    let key = (read_setting_of-ok l d one.value one.first).0 in
    let here : Differs k one.value.key = subst (Differs k) (sym key) (below_differs k l below.0) in
    subst (λ found. AllByRecursion (Differs k) (setting_keys found)) (ok_same more.rest)
    (here, below_settings k ms more.value below.1 more.first))

settings_of-ok : (ms : Members) (settings : List Sysctl) → AreAscending ms → settings_of ms ≡ Ok settings
    → AreSettings settings
unfolding IsDistinct IsStrictlySortedBy
settings_of-ok no_members settings order is =
    subst AreSettings (ok_same is) (record { network = All-nil IsNetworkSetting; once = tt })
settings_of-ok (member k d ms) settings order is =
    by_outcome (is_null d) _ _ _ is (λ null same. settings_of-ok ms settings order.1 same) (λ there same.
    let one = goes (read_setting_of k d) _ settings same in
    let more = goes (settings_of ms) _ settings one.rest in
    let setting = read_setting_of-ok k d one.value one.first in
    let others = settings_of-ok ms more.value order.1 more.first in
    let differs : AllByRecursion (Differs one.value.key) (setting_keys more.value) =
    subst (λ l. AllByRecursion (Differs l) (setting_keys more.value)) (sym setting.0)
    (below_settings k ms more.value order.0 more.first) in
    subst AreSettings (ok_same more.rest) (record {
      network = All-cons IsNetworkSetting one.value more.value setting.1 others.network;
      once = (differs, others.once);
    }))

sysctl_of-ok : (o : Option Data) (settings : List Sysctl) → ((d : Data) → o ≡ Some d → KeysAscend d)
    → sysctl_of o ≡ Ok settings → AreSettings settings
unfolding IsStrictlySortedBy
sysctl_of-ok None settings order is = settings_of-ok no_members settings tt is
sysctl_of-ok (Some null) settings order is = cc
sysctl_of-ok (Some (boolean b)) settings order is = cc
sysctl_of-ok (Some (number n)) settings order is = cc
sysctl_of-ok (Some (string s)) settings order is = cc
sysctl_of-ok (Some (array ds)) settings order is = cc
sysctl_of-ok (Some (object ms)) settings order is = settings_of-ok ms settings (order (object ms) refl).0 is

sysctl_at-ok : (d : Data) (settings : List Sysctl) → KeysAscend d → sysctl_at d ≡ Ok settings → AreSettings settings
unfolding sysctl_at
sysctl_at-ok d settings order is =
    sysctl_of-ok (member_at (codes "sysctl") d) settings (λ e there.
    get-everywhere HasAscendingKeys (codes "sysctl") d e order (member_at-found (get (codes "sysctl") d) e there)) is

-- ---- numbers

mac_or-ok : (o : Option Mac) (e : ConfError) (found : Option Mac) → ForSome o IsMac
    → ok_or (option_map Some o) e ≡ Ok found → IfSome found IsMac
mac_or-ok None e found kept is = cc
mac_or-ok (Some v) e found kept is = subst (λ o. IfSome o IsMac) (ok_same is) (kept v refl)

new_mac_of-ok : (f : Field (List ℕ)) (found : Option Mac) → new_mac_of f ≡ Ok found → IfSome found IsMac
new_mac_of-ok Absent found is = subst (λ o. IfSome o IsMac) (ok_same is) tt
new_mac_of-ok WrongKind found is = cc
new_mac_of-ok (Here text) found is =
    by_outcome (bytes_eq text []) _ _ _ is
    (λ empty same. subst (λ o. IfSome o IsMac) (ok_same same) tt)
    (λ some same. mac_or-ok (mac_of_text text) _ found (λ mac read. (mac_read_is_spelled text mac read).fits) same)

new_mac_at-ok : (d : Data) (found : Option Mac) → new_mac_at d ≡ Ok found → IfSome found IsMac
unfolding new_mac_at
new_mac_at-ok d found is = new_mac_of-ok _ found is

given_mtu_of-ok : (f : Field ℕ) (found : Option ℕ) → given_mtu_of f ≡ Ok found → IfSome found IsMtu
given_mtu_of-ok Absent found is = subst (λ o. IfSome o IsMtu) (ok_same is) tt
given_mtu_of-ok WrongKind found is = cc
given_mtu_of-ok (Here n) found is =
    by_outcome (nat_eq n 0) _ _ _ is
    (λ zero same. subst (λ o. IfSome o IsMtu) (ok_same same) tt)
    (λ some same. let test = passed (is_mtu n) (Some n) found _ same in subst (λ o. IfSome o IsMtu) test.1 test.0)

pub given_mtu_at-ok : (d : Data) (found : Option ℕ) → given_mtu_at d ≡ Ok found → IfSome found IsMtu
unfolding given_mtu_at
given_mtu_at-ok d found is = given_mtu_of-ok (u64_field (codes "mtu") d) found is

abbrev HasWord : ℕ → Type 0
HasWord n = has_32_bits n ≡ true

queue_length_of-ok : (f : Field ℕ) (found : Option ℕ) → ((n : ℕ) → f ≡ Here n → HasWord n)
    → queue_length_of f ≡ Ok found → IfSome found HasWord
queue_length_of-ok Absent found fits is = subst (λ o. IfSome o HasWord) (ok_same is) tt
queue_length_of-ok WrongKind found fits is = cc
queue_length_of-ok (Here n) found fits is = subst (λ o. IfSome o HasWord) (ok_same is) (fits n refl)

queue_length_at-ok : (d : Data) (found : Option ℕ) → queue_length_at d ≡ Ok found → IfSome found HasWord
unfolding queue_length_at
queue_length_at-ok d found is =
    queue_length_of-ok (u32_field (codes "txQLen") d) found (u32_of-fits (get (codes "txQLen") d)) is

pub tuning_at-ok : (d : Data) (conf : TuningConf) → KeysAscend d → tuning_at d ≡ Ok conf → IsWellFormedTuning conf
unfolding tuning_at
tuning_at-ok d conf order is =
    let sysctl = goes (sysctl_at d) _ conf is in
    let mac = goes (new_mac_at d) _ conf sysctl.rest in
    let mtu = goes (given_mtu_at d) _ conf mac.rest in
    let promisc = goes (flag_at (codes "promisc") false d) _ conf mtu.rest in
    let allmulti = goes (flag_at (codes "allmulti") false d) _ conf promisc.rest in
    let queue = goes (queue_length_at d) _ conf allmulti.rest in
    let settings = sysctl_at-ok d sysctl.value order sysctl.first in
    subst IsWellFormedTuning (ok_same queue.rest) (record {
      settings = settings.network;
      keys_once = settings.once;
      mac = new_mac_at-ok d mac.value mac.first;
      mtu = given_mtu_at-ok d mtu.value mtu.first;
      queue_length = queue_length_at-ok d queue.value queue.first;
    })
