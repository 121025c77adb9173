use Rattle.std.proofs.Common.{◌≡◌, map, take}
use Rattle.pod_file.specs.Generator.{attachment_of}
use Rattle.pod_file.proofs.generator.attachments_of.Given as goal

-- the attachments so far
abbrev pub invariant-loop-container : goal.invariant-loop-container
invariant-loop-container l = l.attachments.items ≡ map attachment_of (take l.container-index l.containers)
