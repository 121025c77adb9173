-- Plans, workers and worlds.
pub use Rattle.pod_workers.proofs.Ends.{CallsLeft.calls_left, StepsLeft.{host-made, IsNoCollection}}
pub use Rattle.pod_workers.proofs.Hosts.{GoesWell.if-listed, OfPlugins.{LeftAreOfPlugins, left-are-of_plugins}}
pub use Rattle.pod_workers.proofs.Hosts.{OfPlugins.{LeftIsOutside, left-is-outside}, Replies.{by-cache, by-deletion}}
pub use Rattle.pod_workers.proofs.Hosts.Replies.{by-unless_early, by-either, by-unless, by-unless_old}
pub use Rattle.pod_workers.proofs.{Hosts.Sound.{sound_host, fine}, InOrder.Order.{other_number, ready_is, apart}}
pub use Rattle.pod_workers.proofs.{InOrder.Order.alone_apart, Lists.{Each.each-at, Elements.{find-first, first_of}}}
pub use Rattle.pod_workers.proofs.Lists.Splits.{split_nil, split_snoc, none-or-some, cons_parts}
pub use Rattle.pod_workers.proofs.{Plans.Listed.listed_network, Worlds.AnswersDue.answer_is_due}
pub use Rattle.pod_workers.proofs.Worlds.Histories.{after-append, replies_of-other, entry_or_none, has_reply}
pub use Rattle.pod_workers.proofs.Worlds.Prefixes.{each_prefix}
pub use Rattle.pod_workers.specs.{Facts.IsScripts, Legal.Legal, Plans.{Placed, commands_of, IsWellFormed, list_named}}
pub use Rattle.pod_workers.specs.World.{entry_of, host_of, after_entry, reply_to, World, after, replies_of, done}
pub use Rattle.pod_workers.specs.{World.{own_replies, made_in, IsReady}, declared.plan.{Entry.Entry, Plan.Plan}}
unfoldable pub use Rattle.pod_workers.specs.Plans.{list_for}
