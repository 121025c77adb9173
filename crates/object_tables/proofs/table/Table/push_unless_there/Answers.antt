use Rattle.std.proofs.Common.{◌≡◌, ◌++◌, ◌∷◌, [], ◌∙◌, ap, refl, sym, Some, None, true, false, not, length, set, rules}
use Rattle.std.specs.{List.list_any, Str.bytes_eq}
use Rattle.object_tables.specs.{Places.rows_of, Table.{has_key, has_same_key}}
use Rattle.object_tables.proofs.{Candidates.Finds-kept, Noted.{no_row, index-noted, key-noted, there-noted}}
use Rattle.object_tables.proofs.{Noted.trails-noted, Places.{rows_of-push_none, rows_of-push, set-pushed}}
use Rattle.object_tables.proofs.table.Table.push_unless_there.Goals as goal

pub invariant_of-self-in_err-note_unless_there : goal.invariant_of-self-in_err-note_unless_there
invariant_of-self-in_err-note_unless_there g c =
    let is : c.push.new.self.items ≡ c.self.inside.places.items ++ None ∷ [] = search rules in
    rw is (
      Finds-kept None c.self.invariant.0 c.in_err-note_unless_there.ensures.err (λ q. refl),
      Finds-kept None c.self.invariant.1 (λ q. refl) (λ q. refl),
      Finds-kept None c.self.invariant.2 (λ q. refl) (λ q. refl),
      Finds-kept None c.self.invariant.3 (λ q. refl) (λ q. refl),
      Finds-kept None c.self.invariant.4 (λ q. refl) (λ q. refl),
    )

pub returns-in_err-note_unless_there-clause-err : goal.returns-in_err-note_unless_there-clause-err
returns-in_err-note_unless_there-clause-err g c =
    let is : c.push.new.self.items ≡ c.self.inside.places.items ++ None ∷ [] = search rules in
    let same : rows_of c.push.new.self.items ≡ c.args.self.now =
    ap rows_of is ∙ rows_of-push_none c.self.inside.places.items ∙ c.self.view_is in
    search rules

pub invariant_of-self-in_err-note_place : goal.invariant_of-self-in_err-note_place
invariant_of-self-in_err-note_place g c =
    let is : c.push.new.self.items ≡ c.self.inside.places.items ++ None ∷ [] = search rules in
    let key : c.in_ok-key.key ≡ g.T.Row.key_of c.args.row = search rules in
    let end : c.len-place.result ≡ length c.self.inside.places.items = search rules in
    let told : c.in_ok-note_unless_there.field-0 ≡ true = search rules in
    let ready : c.deref.result.now ≡ c.self.inside.places.items ++ None ∷ [] = search rules in
    rw is (
      key-noted g.K.PartialEq.eq g.T.Row.key_of c.self.inside.places.items c.deref.result.now c.self.inside.by_key
          c.self.invariant.0 ready c.args.row c.in_ok-key.key key g.met.K.Eq.laws c.note_unless_there.new.index
          c.len-place.result None c.in_ok-note_unless_there.field-0 end told c.in_ok-note_unless_there.ensures.new
          c.in_ok-note_unless_there.ensures.ok (no_row g.K.PartialEq.eq g.T.Row.key_of c.args.row),
      Finds-kept None c.self.invariant.1 c.in_err-note_place.ensures.err (λ q. refl),
      Finds-kept None c.self.invariant.2 (λ q. refl) (λ q. refl),
      Finds-kept None c.self.invariant.3 (λ q. refl) (λ q. refl),
      Finds-kept None c.self.invariant.4 (λ q. refl) (λ q. refl),
    )

pub returns-in_err-note_place-clause-err : goal.returns-in_err-note_place-clause-err
returns-in_err-note_place-clause-err g c =
    let is : c.push.new.self.items ≡ c.self.inside.places.items ++ None ∷ [] = search rules in
    let same : rows_of c.push.new.self.items ≡ c.args.self.now =
    ap rows_of is ∙ rows_of-push_none c.self.inside.places.items ∙ c.self.view_is in
    search rules

pub invariant_of-self-in_err-note_group : goal.invariant_of-self-in_err-note_group
invariant_of-self-in_err-note_group g c =
    let is : c.push.new.self.items ≡ c.self.inside.places.items ++ None ∷ [] = search rules in
    let key : c.in_ok-key.key ≡ g.T.Row.key_of c.args.row = search rules in
    let alias : c.in_ok-alias.alias ≡ g.T.Row.alias_of c.args.row = search rules in
    let end : c.len-place.result ≡ length c.self.inside.places.items = search rules in
    let told : c.in_ok-note_unless_there.field-0 ≡ true = search rules in
    let ready : c.deref.result.now ≡ c.self.inside.places.items ++ None ∷ [] = search rules in
    rw is (
      key-noted g.K.PartialEq.eq g.T.Row.key_of c.self.inside.places.items c.deref.result.now c.self.inside.by_key
          c.self.invariant.0 ready c.args.row c.in_ok-key.key key g.met.K.Eq.laws c.note_unless_there.new.index
          c.len-place.result None c.in_ok-note_unless_there.field-0 end told c.in_ok-note_unless_there.ensures.new
          c.in_ok-note_unless_there.ensures.ok (no_row g.K.PartialEq.eq g.T.Row.key_of c.args.row),
      index-noted g.L.PartialEq.eq g.met.L.Eq.laws g.T.Row.alias_of c.self.inside.places.items c.self.inside.by_alias
          c.note_place.new.index c.args.row c.in_ok-alias.alias c.len-place.result None
          c.self.invariant.1 alias end c.in_ok-note_place.ensures.ok
          (λ own e.
          ap (list_any (has_key g.L.PartialEq.eq g.T.Row.alias_of own)) c.self.view_is ∙ c.requires.alias own e)
          (no_row g.L.PartialEq.eq g.T.Row.alias_of c.args.row),
      Finds-kept None c.self.invariant.2 c.in_err-note_group.ensures.err (λ q. refl),
      Finds-kept None c.self.invariant.3 (λ q. refl) (λ q. refl),
      Finds-kept None c.self.invariant.4 (λ q. refl) (λ q. refl),
    )

pub returns-in_err-note_group-clause-err : goal.returns-in_err-note_group-clause-err
returns-in_err-note_group-clause-err g c =
    let is : c.push.new.self.items ≡ c.self.inside.places.items ++ None ∷ [] = search rules in
    let same : rows_of c.push.new.self.items ≡ c.args.self.now =
    ap rows_of is ∙ rows_of-push_none c.self.inside.places.items ∙ c.self.view_is in
    search rules

pub invariant_of-self-in_err-note_group-2 : goal.invariant_of-self-in_err-note_group-2
invariant_of-self-in_err-note_group-2 g c =
    let is : c.push.new.self.items ≡ c.self.inside.places.items ++ None ∷ [] = search rules in
    let key : c.in_ok-key.key ≡ g.T.Row.key_of c.args.row = search rules in
    let alias : c.in_ok-alias.alias ≡ g.T.Row.alias_of c.args.row = search rules in
    let owner : c.in_ok-owner.owner ≡ g.T.Row.owner_of c.args.row = search rules in
    let end : c.len-place.result ≡ length c.self.inside.places.items = search rules in
    let told : c.in_ok-note_unless_there.field-0 ≡ true = search rules in
    let ready : c.deref.result.now ≡ c.self.inside.places.items ++ None ∷ [] = search rules in
    rw is (
      key-noted g.K.PartialEq.eq g.T.Row.key_of c.self.inside.places.items c.deref.result.now c.self.inside.by_key
          c.self.invariant.0 ready c.args.row c.in_ok-key.key key g.met.K.Eq.laws c.note_unless_there.new.index
          c.len-place.result None c.in_ok-note_unless_there.field-0 end told c.in_ok-note_unless_there.ensures.new
          c.in_ok-note_unless_there.ensures.ok (no_row g.K.PartialEq.eq g.T.Row.key_of c.args.row),
      index-noted g.L.PartialEq.eq g.met.L.Eq.laws g.T.Row.alias_of c.self.inside.places.items c.self.inside.by_alias
          c.note_place.new.index c.args.row c.in_ok-alias.alias c.len-place.result None
          c.self.invariant.1 alias end c.in_ok-note_place.ensures.ok
          (λ own e.
          ap (list_any (has_key g.L.PartialEq.eq g.T.Row.alias_of own)) c.self.view_is ∙ c.requires.alias own e)
          (no_row g.L.PartialEq.eq g.T.Row.alias_of c.args.row),
      trails-noted g.O.PartialEq.eq g.T.Row.owner_of c.self.inside.places.items c.self.inside.trails
          c.note_group.new.trails c.args.row c.in_ok-owner.owner c.len-place.result None
          c.self.invariant.2 owner end c.in_ok-note_group.ensures.ok
          (no_row g.O.PartialEq.eq g.T.Row.owner_of c.args.row),
      Finds-kept None c.self.invariant.3 c.in_err-note_group-2.ensures.err (λ q. refl),
      Finds-kept None c.self.invariant.4 (λ q. refl) (λ q. refl),
    )

pub returns-in_err-note_group-2-clause-err : goal.returns-in_err-note_group-2-clause-err
returns-in_err-note_group-2-clause-err g c =
    let is : c.push.new.self.items ≡ c.self.inside.places.items ++ None ∷ [] = search rules in
    let same : rows_of c.push.new.self.items ≡ c.args.self.now =
    ap rows_of is ∙ rows_of-push_none c.self.inside.places.items ∙ c.self.view_is in
    search rules

pub invariant_of-self-in_err-note_group-3 : goal.invariant_of-self-in_err-note_group-3
invariant_of-self-in_err-note_group-3 g c =
    let is : c.push.new.self.items ≡ c.self.inside.places.items ++ None ∷ [] = search rules in
    let key : c.in_ok-key.key ≡ g.T.Row.key_of c.args.row = search rules in
    let alias : c.in_ok-alias.alias ≡ g.T.Row.alias_of c.args.row = search rules in
    let owner : c.in_ok-owner.owner ≡ g.T.Row.owner_of c.args.row = search rules in
    let network : c.in_ok-network.network ≡ g.T.Row.network_of c.args.row = search rules in
    let end : c.len-place.result ≡ length c.self.inside.places.items = search rules in
    let told : c.in_ok-note_unless_there.field-0 ≡ true = search rules in
    let ready : c.deref.result.now ≡ c.self.inside.places.items ++ None ∷ [] = search rules in
    rw is (
      key-noted g.K.PartialEq.eq g.T.Row.key_of c.self.inside.places.items c.deref.result.now c.self.inside.by_key
          c.self.invariant.0 ready c.args.row c.in_ok-key.key key g.met.K.Eq.laws c.note_unless_there.new.index
          c.len-place.result None c.in_ok-note_unless_there.field-0 end told c.in_ok-note_unless_there.ensures.new
          c.in_ok-note_unless_there.ensures.ok (no_row g.K.PartialEq.eq g.T.Row.key_of c.args.row),
      index-noted g.L.PartialEq.eq g.met.L.Eq.laws g.T.Row.alias_of c.self.inside.places.items c.self.inside.by_alias
          c.note_place.new.index c.args.row c.in_ok-alias.alias c.len-place.result None
          c.self.invariant.1 alias end c.in_ok-note_place.ensures.ok
          (λ own e.
          ap (list_any (has_key g.L.PartialEq.eq g.T.Row.alias_of own)) c.self.view_is ∙ c.requires.alias own e)
          (no_row g.L.PartialEq.eq g.T.Row.alias_of c.args.row),
      trails-noted g.O.PartialEq.eq g.T.Row.owner_of c.self.inside.places.items c.self.inside.trails
          c.note_group.new.trails c.args.row c.in_ok-owner.owner c.len-place.result None
          c.self.invariant.2 owner end c.in_ok-note_group.ensures.ok
          (no_row g.O.PartialEq.eq g.T.Row.owner_of c.args.row),
      trails-noted bytes_eq g.T.Row.network_of c.self.inside.places.items c.self.inside.networks
          c.note_group-2.new.trails c.args.row c.in_ok-network.network c.len-place.result None
          c.self.invariant.3 network end c.in_ok-note_group-2.ensures.ok
          (no_row bytes_eq g.T.Row.network_of c.args.row),
      Finds-kept None c.self.invariant.4 c.in_err-note_group-3.ensures.err (λ q. refl),
    )

pub returns-in_err-note_group-3-clause-err : goal.returns-in_err-note_group-3-clause-err
returns-in_err-note_group-3-clause-err g c =
    let is : c.push.new.self.items ≡ c.self.inside.places.items ++ None ∷ [] = search rules in
    let same : rows_of c.push.new.self.items ≡ c.args.self.now =
    ap rows_of is ∙ rows_of-push_none c.self.inside.places.items ∙ c.self.view_is in
    search rules

pub invariant_of-self-2 : goal.invariant_of-self-2
invariant_of-self-2 g c =
    let is : c.push.new.self.items ≡ c.self.inside.places.items ++ None ∷ [] = search rules in
    let key : c.in_ok-key.key ≡ g.T.Row.key_of c.args.row = search rules in
    let alias : c.in_ok-alias.alias ≡ g.T.Row.alias_of c.args.row = search rules in
    let owner : c.in_ok-owner.owner ≡ g.T.Row.owner_of c.args.row = search rules in
    let network : c.in_ok-network.network ≡ g.T.Row.network_of c.args.row = search rules in
    let site : c.in_ok-site.site ≡ g.T.Row.site_of c.args.row = search rules in
    let end : c.len-place.result ≡ length c.self.inside.places.items = search rules in
    let told : c.in_ok-note_unless_there.field-0 ≡ true = search rules in
    let ready : c.deref.result.now ≡ c.self.inside.places.items ++ None ∷ [] = search rules in
    let filled : set c.push.new.self.items c.len-place.result (Some c.args.row)
    ≡ c.self.inside.places.items ++ Some c.args.row ∷ [] =
    ap (λ l. set l c.len-place.result (Some c.args.row)) is
    ∙ ap (λ n. set (c.self.inside.places.items ++ None ∷ []) n (Some c.args.row)) end
    ∙ set-pushed c.self.inside.places.items (Some c.args.row) in
    rw filled (
      key-noted g.K.PartialEq.eq g.T.Row.key_of c.self.inside.places.items c.deref.result.now c.self.inside.by_key
          c.self.invariant.0 ready c.args.row c.in_ok-key.key key g.met.K.Eq.laws c.note_unless_there.new.index
          c.len-place.result (Some c.args.row) c.in_ok-note_unless_there.field-0 end told
          c.in_ok-note_unless_there.ensures.new c.in_ok-note_unless_there.ensures.ok (λ q h. h),
      index-noted g.L.PartialEq.eq g.met.L.Eq.laws g.T.Row.alias_of c.self.inside.places.items c.self.inside.by_alias
          c.note_place.new.index c.args.row c.in_ok-alias.alias c.len-place.result (Some c.args.row)
          c.self.invariant.1 alias end c.in_ok-note_place.ensures.ok
          (λ own e.
          ap (list_any (has_key g.L.PartialEq.eq g.T.Row.alias_of own)) c.self.view_is ∙ c.requires.alias own e)
          (λ q h. h),
      trails-noted g.O.PartialEq.eq g.T.Row.owner_of c.self.inside.places.items c.self.inside.trails
          c.note_group.new.trails c.args.row c.in_ok-owner.owner c.len-place.result (Some c.args.row)
          c.self.invariant.2 owner end c.in_ok-note_group.ensures.ok (λ q h. h),
      trails-noted bytes_eq g.T.Row.network_of c.self.inside.places.items c.self.inside.networks
          c.note_group-2.new.trails c.args.row c.in_ok-network.network c.len-place.result (Some c.args.row)
          c.self.invariant.3 network end c.in_ok-note_group-2.ensures.ok (λ q h. h),
      trails-noted g.P.PartialEq.eq g.T.Row.site_of c.self.inside.places.items c.self.inside.sites
          c.note_group-3.new.trails c.args.row c.in_ok-site.site c.len-place.result (Some c.args.row)
          c.self.invariant.4 site end c.in_ok-note_group-3.ensures.ok (λ q h. h),
    )

pub returns-clause-ok : goal.returns-clause-ok
returns-clause-ok g c =
    let is : c.push.new.self.items ≡ c.self.inside.places.items ++ None ∷ [] = search rules in
    let end : c.len-place.result ≡ length c.self.inside.places.items = search rules in
    ap rows_of (ap (λ l. set l c.len-place.result (Some c.args.row)) is
    ∙ ap (λ n. set (c.self.inside.places.items ++ None ∷ []) n (Some c.args.row)) end
    ∙ set-pushed c.self.inside.places.items (Some c.args.row))
    ∙ rows_of-push c.self.inside.places.items c.args.row ∙ ap (λ l. l ++ c.args.row ∷ []) c.self.view_is

pub returns-then-not-branch-clause-new : goal.returns-then-not-branch-clause-new
returns-then-not-branch-clause-new g c =
    let key : c.in_ok-key.key ≡ g.T.Row.key_of c.args.row = search rules in
    let told : c.in_ok-note_unless_there.field-0 ≡ false = search rules in
    let ready : c.deref.result.now ≡ c.self.inside.places.items ++ None ∷ [] = search rules in
    sym told
    ∙ c.in_ok-note_unless_there.ensures.new
    ∙ ap not (there-noted g.K.PartialEq.eq g.T.Row.key_of c.self.inside.places.items c.deref.result.now
    c.self.inside.by_key c.self.invariant.0 ready c.args.row c.in_ok-key.key key)
    ∙ ap (λ l. not (list_any (has_same_key g.K.PartialEq.eq g.T.Row.key_of c.args.row) l)) c.self.view_is

pub returns-clause-new : goal.returns-clause-new
returns-clause-new g c =
    let key : c.in_ok-key.key ≡ g.T.Row.key_of c.args.row = search rules in
    let told : c.in_ok-note_unless_there.field-0 ≡ true = search rules in
    let ready : c.deref.result.now ≡ c.self.inside.places.items ++ None ∷ [] = search rules in
    sym told
    ∙ c.in_ok-note_unless_there.ensures.new
    ∙ ap not (there-noted g.K.PartialEq.eq g.T.Row.key_of c.self.inside.places.items c.deref.result.now
    c.self.inside.by_key c.self.invariant.0 ready c.args.row c.in_ok-key.key key)
    ∙ ap (λ l. not (list_any (has_same_key g.K.PartialEq.eq g.T.Row.key_of c.args.row) l)) c.self.view_is
