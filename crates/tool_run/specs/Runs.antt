-- What is true of a run as a whole.
use Rattle.std.specs.Prelude.{◌≡◌, ℕ, List, Some, IfSome}
use Rattle.packet_laws.specs.Packets.{PacketsGoAsCached}
use Rattle.pod_laws.specs.Guaranteed.{IsGuaranteed}
use Rattle.pod_workers.specs.Order.{IsInFileOrder}
use Rattle.session_laws.specs.{EachTask.EachTaskHolds, Holds.Suite}
use Rattle.tool_words.specs.{Words.words_given, declared.words.Words.Words}
use Rattle.tool_plan.specs.Seen.{FilesSeen}
use Rattle.tool_run.specs.{Seen.SinkSeen, Statuses.{Ends, IsDetermined, Left}}

-- the words are taken, and ask for one thread
abbrev pub AskForOneThread : List (List ℕ) → Type 0
AskForOneThread words = (by : Words) × (words_given words ≡ Some by) × (by.threads ≡ 1)

-- The run ends in one of the ways there are. Its book has the guarantee, and where its host is complete each packet
-- goes as the cached results say. Where one thread makes all rounds, the commands go in the order of the file, and
-- words and files determine what is written and the status. Of its session each task holds what the session's law says,
-- by this suite of plugins.
pub record IsRunOf (words : List (List ℕ)) (files : FilesSeen) (sink : SinkSeen) (OneThread : Type 0) (suite : Suite)
    (status : ℕ) (left : Left) : Type 0 where
  pub ends : Ends words files sink status left
  pub guaranteed : IfSome left.book IsGuaranteed
  pub packets : IfSome left.book PacketsGoAsCached
  pub order : OneThread → IfSome left.book IsInFileOrder
  pub tasks : IfSome left.session (EachTaskHolds suite)
  pub determined : OneThread → IsDetermined words files sink status
