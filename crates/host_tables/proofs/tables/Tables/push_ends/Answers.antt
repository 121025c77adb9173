use Rattle.std.proofs.Common.{◌≡◌, ◌∙◌, ◌++◌, ◌∷◌, [], ap, false, rules}
use Rattle.std.specs.List.{list_any}
use Rattle.kernel_types.specs.{Terms.{is_at, is_host_ns}, declared.object.{Host.Host, Link.Link}}
use Rattle.host_tables.proofs.Free.{ends-added, first-back, link-alias_free, link-key_free, place-free, second-free}
use Rattle.host_tables.proofs.tables.Tables.push_ends.Goals as goal

pub push-requires-clause-key : goal.push-requires-clause-key
push-requires-clause-key c =
    link-key_free c.self.inside.links c.in_ok-copy.field-0
    (place-free c.args.self.now c.args.host_end.now c.self.inside.links c.in_ok-copy.field-0 c.requires.host_free
    (ap (λ (host : Host). host.links) c.self.view_is) c.in_ok-copy.ensures)

pub push-requires-clause-alias : goal.push-requires-clause-alias
push-requires-clause-alias c =
    link-alias_free c.self.inside.links c.in_ok-copy.field-0
    (place-free c.args.self.now c.args.host_end.now c.self.inside.links c.in_ok-copy.field-0 c.requires.host_free
    (ap (λ (host : Host). host.links) c.self.view_is) c.in_ok-copy.ensures)

pub push-requires-2-clause-key : goal.push-requires-2-clause-key
push-requires-2-clause-key c =
    let second = c.in_ok-second.second in
    let pushed : c.push.new.self ≡ c.self.inside.links ++ c.in_ok-copy.field-0 ∷ [] = search rules in
    let free : list_any (is_at second.ns second.name) c.self.inside.links ≡ false =
    place-free c.args.self.now c.args.inner_end.now c.self.inside.links second c.requires.inner_free
    (ap (λ (host : Host). host.links) c.self.view_is) c.in_ok-second.ensures in
    link-key_free c.push.new.self second
    (second-free c.self.inside.links c.push.new.self c.in_ok-copy.field-0 second pushed
    (ap (λ (l : Link). is_host_ns l.ns) c.in_ok-copy.ensures ∙ c.requires.pair.outer)
    (ap (λ (l : Link). is_host_ns l.ns) c.in_ok-second.ensures ∙ c.requires.pair.inner) free)

pub returns-in-Err-clause-err : goal.returns-in-Err-clause-err
returns-in-Err-clause-err c =
    let pushed : c.push.new.self ≡ c.self.inside.links ++ c.in_ok-copy.field-0 ∷ [] = search rules in
    let later : c.push-2.new.self ≡ c.push.new.self = search rules in
    let free : list_any (is_at c.in_ok-copy.field-0.ns c.in_ok-copy.field-0.name) c.self.inside.links ≡ false =
    place-free c.args.self.now c.args.host_end.now c.self.inside.links c.in_ok-copy.field-0 c.requires.host_free
    (ap (λ (host : Host). host.links) c.self.view_is) c.in_ok-copy.ensures in
    let back : c.take.new.self ≡ c.self.inside.links =
    first-back c.in_ok-key.key c.self.inside.links c.push.new.self c.push-2.new.self c.take.new.self
    c.in_ok-copy.field-0 c.args.host_end.now pushed later c.take.ensures.rest c.in_ok-key.ensures
    c.in_ok-copy.ensures free in
    rw back c.self.view_is

pub returns-clause-ok : goal.returns-clause-ok
returns-clause-ok c =
    let pushed : c.push.new.self ≡ c.self.inside.links ++ c.in_ok-copy.field-0 ∷ [] = search rules in
    let later : c.push-2.new.self ≡ c.push.new.self ++ c.in_ok-second.second ∷ [] = search rules in
    ends-added _ c.args.self.now c.push-2.new.self c.push.new.self c.in_ok-copy.field-0 c.in_ok-second.second
    c.args.host_end.now c.args.inner_end.now c.self.view_is pushed later c.in_ok-copy.ensures c.in_ok-second.ensures
