use Rattle.std.proofs.Common.{rules, ◌≡◌}
use Rattle.cni_io.specs.Memory.{stored_with}
use Rattle.cni_io.proofs.Stored.{bytes_of-stored_with, bytes_of-stored_with_other, HasEachNameOnce-stored_with}
use Rattle.cni_io.proofs.mem_files.MemFiles.add.Goals as goal

pub returns-clause-file : goal.returns-clause-file
returns-clause-file c =
    let items : c.push.new.self.items ≡ stored_with c.args.self.now.stored c.args.name c.args.bytes.items =
    search rules in
    rw items (bytes_of-stored_with c.args.self.now.stored c.args.name c.args.bytes.items)

pub returns-clause-others : goal.returns-clause-others
returns-clause-others c other differs =
    let items : c.push.new.self.items ≡ stored_with c.args.self.now.stored c.args.name c.args.bytes.items =
    search rules in
    rw items (bytes_of-stored_with_other c.args.self.now.stored c.args.name c.args.bytes.items other differs)

pub returns-clause-once : goal.returns-clause-once
returns-clause-once c =
    let items : c.push.new.self.items ≡ stored_with c.self.inside.files.items c.args.name c.args.bytes.items =
    search rules in
    rw items (HasEachNameOnce-stored_with c.self.inside.files.items c.args.name c.args.bytes.items c.self.invariant.1)

pub invariant_of-self-2 : goal.invariant_of-self-2
invariant_of-self-2 c =
    let items : c.push.new.self.items ≡ stored_with c.self.inside.files.items c.args.name c.args.bytes.items =
    search rules in (
      c.self.invariant.0,
      rw items
          (HasEachNameOnce-stored_with c.self.inside.files.items c.args.name c.args.bytes.items c.self.invariant.1),
    )
