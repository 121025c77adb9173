-- How a run ends, from what it was to report, and what follows of it.
use Rattle.std.proofs.Common.{◌≡◌, ℕ, List, refl, sym, subst, inl, inr, Option, Some, None, Result, Ok, Err, IfOk}
use Rattle.std.proofs.Common.{IfSome}
use Rattle.packet_laws.specs.Packets.{EveryPacketGoesAsCached, PacketsGoAsCached}
use Rattle.pod_laws.specs.Guaranteed.{EveryLegalHistoryIsGuaranteed, IsGuaranteed}
use Rattle.pod_text.specs.{Statuses.status_of, declared.asked.Asked.Asked}
use Rattle.pod_workers.specs.{Legal.Legal, Order.{IsInFileOrder, OneOutcome}, World.World, declared.plan.Plan.Plan}
use Rattle.tool_words.specs.declared.source.Source.TheVariants.{Session}
use Rattle.tool_plan.specs.{Lines.usage_line, Seen.FilesSeen, declared.plan.NoPlan.NoPlan}
use Rattle.tool_plan.specs.declared.plan.NoPlan.TheVariants as no_plan
use Rattle.tool_run.specs.{Reports.{HoldsBySuite, IsSettledInOrder, Reported, Reports, Settles, left_in}, Runs.IsRunOf}
use Rattle.tool_run.specs.{Seen.SinkSeen, Statuses.{Ends, Left, book_left, nothing_left, of_session, session_left}}
use Rattle.tool_run.specs.Statuses.{IsCarriedOut, IsReport, cut_short, of_book, of_failed_read, of_refusal, of_usage}
use Rattle.tool_run.specs.{Statuses.{out_of_memory, reported}, declared.{settle.Settled.Settled, top.Ended.Ended}}
use Rattle.session_laws.specs.{EachTask.EachTaskHolds, Holds.Suite}
use Rattle.session_text.specs.SessionText.{status_of_session}
use Rattle.tool_run.specs.declared.settle.Settled.TheVariants as settled
use Rattle.tool_run.proofs.Determined.{determined}

-- ---- from what was to be reported to how it ends

-- the report was written, or the sink gave up
written : (words : List (List ℕ)) (files : FilesSeen) (sink : SinkSeen) (status meant : ℕ)
    (left : Left) (bytes : List ℕ)
    → ((s : ℕ) → s ≡ meant → IsReport words files s left bytes) → Reports sink bytes meant status
    → Ends words files sink status left
written words files sink status meant left bytes report how = elim how [
  | inl w ↦ reported bytes (report status w.0) w.1
  | inr g ↦ cut_short bytes meant (report meant refl) g.0 g.1 g.2
]

pub ends : {K : Type 0} (words : List (List ℕ)) (files : FilesSeen) (sink : SinkSeen)
    (r : Result (Settled K) NoPlan) (o : Ended K)
    → Settles words files r → Reported sink r o → Ends words files sink o.status (left_in o)
ends words files sink (Ok (settled.Plan made)) o settles rep =
    written words files sink o.status (status_of made.book.answers) (left_in o) made.text.items
    (λ s is. of_book made.book settles.0 is rep.0 settles.1 settles.2) rep.1
ends words files sink (Ok (settled.Session ran)) o settles rep =
    written words files sink o.status (status_of_session ran.session) (left_in o) ran.text.items
    (λ s is. of_session ran.session settles.0 is rep.0 settles.1 settles.2) rep.1
ends words files sink (Err no_plan.Usage) o settles rep =
    written words files sink o.status 2 (left_in o) usage_line
    (λ s is. of_usage is rep.0 (record { not_taken = settles; says = refl })) rep.1
ends words files sink (Err (no_plan.Line text)) o settles rep =
    written words files sink o.status 3 (left_in o) text.items (λ s is. of_refusal is rep.0 settles) rep.1
ends words files sink (Err (no_plan.Unread text)) o settles rep =
    written words files sink o.status 4 (left_in o) text.items (λ s is. of_failed_read is rep.0 settles) rep.1
ends words files sink (Err no_plan.NoMemory) o settles rep = out_of_memory rep.1.0 rep.0 rep.1.1

-- what is left has its commands in the order of the file, where it is a book
ordered-left : (left also : Left) → left ≡ also → IfSome also.book IsInFileOrder → IfSome left.book IsInFileOrder
ordered-left left also same kept = subst (λ (l : Left). IfSome l.book IsInFileOrder) (sym same) kept

pub ordered : {K : Type 0} (sink : SinkSeen) (r : Result (Settled K) NoPlan) (o : Ended K)
    → Reported sink r o → IfOk r (IsSettledInOrder {K = K}) → IfSome o.book IsInFileOrder
ordered sink (Ok (settled.Plan made)) o rep kept = ordered-left (left_in o) (book_left made.book) rep.0 kept
ordered sink (Ok (settled.Session ran)) o rep kept = ordered-left (left_in o) (session_left ran.session) rep.0 tt
ordered sink (Err none) o rep kept = ordered-left (left_in o) nothing_left rep.0 tt

held-left : (suite : Suite) (left also : Left) → left ≡ also → IfSome also.session (EachTaskHolds suite)
    → IfSome left.session (EachTaskHolds suite)
held-left suite left also same kept = subst (λ (l : Left). IfSome l.session (EachTaskHolds suite)) (sym same) kept

-- of what is left each task holds what the law says, where it is a session
pub held : {K : Type 0} (suite : Suite) (sink : SinkSeen) (r : Result (Settled K) NoPlan) (o : Ended K)
    → Reported sink r o → IfOk r (HoldsBySuite {K = K} suite) → IfSome o.session (EachTaskHolds suite)
held suite sink (Ok (settled.Plan made)) o rep kept = held-left suite (left_in o) (book_left made.book) rep.0 tt
held suite sink (Ok (settled.Session ran)) o rep kept =
    held-left suite (left_in o) (session_left ran.session) rep.0 kept
held suite sink (Err none) o rep kept = held-left suite (left_in o) nothing_left rep.0 tt

-- ---- the book

-- the book was carried out, and is to be printed in some way
abbrev IsMade : List (List ℕ) → FilesSeen → World → Type 0
IsMade words files book = (asked : Asked) × IsCarriedOut words files book asked

if_book : (words : List (List ℕ)) (files : FilesSeen) (status : ℕ) (left : Left) (bytes : List ℕ)
    → IsReport words files status left bytes → IfSome left.book (IsMade words files)
if_book words files status left bytes (of_usage st none given) =
    subst (λ (l : Left). IfSome l.book (IsMade words files)) (sym none) tt
if_book words files status left bytes (of_refusal st none refusal) =
    subst (λ (l : Left). IfSome l.book (IsMade words files)) (sym none) tt
if_book words files status left bytes (of_failed_read st none unread) =
    subst (λ (l : Left). IfSome l.book (IsMade words files)) (sym none) tt
if_book words files status left bytes (of_book b asked st some carried text) =
    subst (λ (l : Left). IfSome l.book (IsMade words files)) (sym some) (asked, carried)
if_book words files status left bytes (of_session s asked st some ran text) =
    subst (λ (l : Left). IfSome l.book (IsMade words files)) (sym some) tt

if_made : (words : List (List ℕ)) (files : FilesSeen) (sink : SinkSeen) (status : ℕ) (left : Left)
    → Ends words files sink status left → IfSome left.book (IsMade words files)
if_made words files sink status left (reported bytes report wrote) = if_book words files status left bytes report
if_made words files sink status left (cut_short bytes meant report st fault front) =
    if_book words files meant left bytes report
if_made words files sink status left (out_of_memory st none nothing) =
    subst (λ (l : Left). IfSome l.book (IsMade words files)) (sym none) tt

legal-made : (words : List (List ℕ)) (files : FilesSeen) (P : World → Type 0) (book : Option World)
    → ((w : World) → Legal w → P w) → IfSome book (IsMade words files) → IfSome book P
legal-made words files P None law made = tt
legal-made words files P (Some b) law made = law b made.1.legal

guaranteed : (words : List (List ℕ)) (files : FilesSeen) (sink : SinkSeen) (status : ℕ) (left : Left)
    → EveryLegalHistoryIsGuaranteed → Ends words files sink status left → IfSome left.book IsGuaranteed
guaranteed words files sink status left law how =
    legal-made words files IsGuaranteed left.book law (if_made words files sink status left how)

packets_go : (words : List (List ℕ)) (files : FilesSeen) (sink : SinkSeen) (status : ℕ) (left : Left)
    → EveryPacketGoesAsCached → Ends words files sink status left → IfSome left.book PacketsGoAsCached
packets_go words files sink status left law how =
    legal-made words files PacketsGoAsCached left.book law (if_made words files sink status left how)

-- ---- the run

pub is_run : (words : List (List ℕ)) (files : FilesSeen) (sink : SinkSeen) (OneThread : Type 0) (suite : Suite)
    (status : ℕ) (left : Left)
    → EveryLegalHistoryIsGuaranteed → EveryPacketGoesAsCached → OneOutcome
    → (OneThread → IfSome left.book IsInFileOrder) → IfSome left.session (EachTaskHolds suite)
    → Ends words files sink status left
    → IsRunOf words files sink OneThread suite status left
is_run words files sink OneThread suite status left law of_packets one order tasks how = record {
  ends = how;
  guaranteed = guaranteed words files sink status left law how;
  packets = packets_go words files sink status left of_packets how;
  order = order;
  tasks = tasks;
  determined = λ alone. determined words files sink status left one (order alone) how;
}
