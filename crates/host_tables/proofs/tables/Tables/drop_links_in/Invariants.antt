use Rattle.std.proofs.Common.{◌≡◌, length}
use Rattle.kernel_types.specs.{Apply.Calls.{goes_with_ns, without_links}, Sound.IsSound}
use Rattle.host_tables.proofs.tables.Tables.drop_links_in.Given as goal

-- the host so far is sound, and without what goes with the namespace it is what it was at first without that
abbrev pub invariant-loop-link : goal.invariant-loop-link
invariant-loop-link l =
    (without_links (goes_with_ns l.name) l.self ≡ without_links (goes_with_ns l.name) l.fn.self) × IsSound l.self

abbrev pub decreases-loop-link : goal.decreases-loop-link
decreases-loop-link l = length l.self.links
