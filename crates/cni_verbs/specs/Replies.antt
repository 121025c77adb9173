-- What a call is replied, by the kernel or as a fault, and the host after it.
use Rattle.std.specs.Prelude.{Bool, true, false, if◌then◌else◌}
use Rattle.kernel_types.specs.{Apply.apply, Replies.is_fault, declared.call.{Call.Call, Reply.Reply}}
use Rattle.kernel_types.specs.declared.{call.Reply.TheVariants.{Done, Leased, Fault}, object.Host.Host}

-- the reply to a call: the kernel's, or `Fault`
abbrev pub reply_to : Host → Call → Bool → Reply
reply_to host call faulty = if faulty then Fault else (apply host call).1

-- the host after a call that was given this reply; a fault leaves it
abbrev pub host_after : Host → Call → Reply → Host
host_after host call reply = if is_fault reply then host else (apply host call).0

-- a reply after which an ADD goes on
abbrev pub is_granted : Reply → Bool
is_granted Done = true
is_granted (Leased addr) = true
is_granted reply = false
