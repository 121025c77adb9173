-- What a raw list has to do with the network list of the same bytes.
use Rattle.std.specs.Prelude.{◌≡◌, ℕ, List}
use Rattle.net_conf.specs.{List.list_of, Members.ok_map}
use Rattle.plugin_requests.specs.Raw.{RawView, raw_of}

-- the same bytes are refused for the same cause, and else give the same list
abbrev pub RawListsAreTheirLists : Type 0
RawListsAreTheirLists = (bytes : List ℕ) → list_of bytes ≡ ok_map (λ (raw : RawView). raw.list) (raw_of bytes)
