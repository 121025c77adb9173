-- Objects that are built member by member from whole numbers have whole numbers alone.
use Rattle.std.proofs.{Common.{◌≡◌, ℕ, List, false, Ordering, Less, Equal, Greater, nat_cmp}, lemmas.Bool.or_parts}
use Rattle.std.proofs.lemmas.Bool.{or_from}
use Rattle.std.specs.{Cmp.Lexicographic.slice_cmp, Ordering.match_ordering}
use Rattle.serde_json.specs.{Data.{Data, Members, no_members, member, put}, Written.{has_float, members_have_float}}

no_float-put_at : (o : Ordering) (k l : List ℕ) (d e : Data) (ms : Members) → has_float d ≡ false → has_float e ≡ false
    → members_have_float ms ≡ false → members_have_float (put k d ms) ≡ false
    → members_have_float (match_ordering o (member k d (member l e ms)) (member l d ms) (member l e (put k d ms)))
    ≡ false
no_float-put_at Less k l d e ms new first rest later = or_from _ _ new (or_from _ _ first rest)
no_float-put_at Equal k l d e ms new first rest later = or_from _ _ new rest
no_float-put_at Greater k l d e ms new first rest later = or_from _ _ first later

-- members with whole numbers, and one more
pub members_have_float-put : (k : List ℕ) (d : Data) (ms : Members) → has_float d ≡ false
    → members_have_float ms ≡ false → members_have_float (put k d ms) ≡ false
members_have_float-put k d no_members new h = or_from _ _ new h
members_have_float-put k d (member l e ms) new h =
    let parts = or_parts (has_float e) _ h in
    no_float-put_at (slice_cmp nat_cmp k l) k l d e ms new parts.0 parts.1 (members_have_float-put k d ms new parts.1)
