-- The errors of refusals, and what a verb answers that has no result of its own (CNI specification, section 5, "Error";
-- codes from 100 on are this project's own).
use Rattle.std.specs.{Fmt.decimal, List.join_by, Prelude.{ℕ, Bool, List, [], ◌∷◌, ◌++◌, map, codes, if◌then◌else◌}}
use Rattle.serde_json.specs.{Data.string, Written.compact_text}
use Rattle.cni_addr.specs.{AddrText.addr_text, CidrText.cidr_text, declared.address.Cidr.Cidr}
use Rattle.cni_result.specs.{Versions.version_text, declared.{error.CniError.CniError, version.Version.Version}}
use Rattle.pod_file.specs.{Commands.verb_text, declared.command.Command.Command}
use Rattle.kernel_text.specs.Texts.{attachment_text, tag_text, chain_text}
use Rattle.kernel_types.specs.{Terms.is_host_ns, Texts.table_text}
use Rattle.cni_errors.specs.{CommandFields.att_of, ErrorKinds.{error_kind_code, error_kind_title, message_about}}
use Rattle.cni_errors.specs.{ErrorKinds.message_of_field, declared.answer.{Answer.Answer, Cause.Cause}}
use Rattle.cni_errors.specs.declared.answer.Cause.TheVariants.{BadFields, IpArgument, BadMapping, NoNamespace}
use Rattle.cni_errors.specs.declared.answer.Cause.TheVariants.{NameTaken, PoolEmpty, NoMaster, Fault, Faults, TooOld}
use Rattle.cni_errors.specs.declared.answer.Cause.TheVariants.{Unknown, NoFreeAddress, MasterAbsent, NothingThere}
use Rattle.cni_errors.specs.declared.answer.{Cause.TheVariants.Missing, Ending.{Ending, TheVariants.{Added, Yes}}}
use Rattle.cni_errors.specs.declared.answer.{Ending.TheVariants.{Skipped, Versions, Refused}, Missed.Missed}
use Rattle.cni_errors.specs.declared.{answer.WrongFields.WrongFields, error_kind.ErrorKind.ErrorKind}
use Rattle.cni_errors.specs.declared.answer.Answer.TheVariants as answers
use Rattle.cni_errors.specs.declared.answer.Missed.TheVariants as missed
use Rattle.cni_errors.specs.declared.error_kind.ErrorKind.TheVariants as kinds

abbrev pub kind_of : Cause → ErrorKind
kind_of (BadFields wrong) = kinds.InvalidVariables
kind_of (IpArgument value) = kinds.UnsupportedField
kind_of BadMapping = kinds.InvalidList
kind_of NoNamespace = kinds.NamespaceMissing
kind_of (NameTaken tag) = kinds.NameTaken
kind_of (PoolEmpty set) = kinds.PoolEmpty
kind_of NoMaster = kinds.InvalidList
kind_of (Fault call) = kinds.KernelFault
kind_of (Faults calls) = kinds.KernelFault
kind_of (TooOld version) = kinds.IncompatibleVersion
kind_of Unknown = kinds.ContainerUnknown
kind_of (NoFreeAddress set) = kinds.NotAvailable
kind_of (MasterAbsent name) = kinds.NotAvailable
kind_of NothingThere = kinds.NothingThere
kind_of (Missing what) = kinds.CheckFailed

abbrev pub code_of : Cause → ℕ
code_of cause = error_kind_code (kind_of cause)

-- ---- messages

abbrev pub named_if : Bool → List ℕ → List (List ℕ)
named_if fault name = if fault then name ∷ [] else []

-- the environment variables of the fields that are outside their grammar
abbrev pub variables_of : WrongFields → List (List ℕ)
variables_of wrong =
    named_if wrong.container (codes "CNI_CONTAINERID")
    ++ named_if wrong.netns (codes "CNI_NETNS")
    ++ named_if wrong.ifname (codes "CNI_IFNAME")
    ++ named_if wrong.args (codes "CNI_ARGS")

abbrev pub joined_by_comma : List (List ℕ) → List ℕ
joined_by_comma texts = join_by (λ text. text) (codes ", ") texts

abbrev pub message_of : Cause → List ℕ
message_of (BadFields wrong) = message_about kinds.InvalidVariables (joined_by_comma (variables_of wrong))
message_of (IpArgument value) = message_of_field (codes "IP") (compact_text (string value))
message_of BadMapping = message_about kinds.InvalidList (codes "portMappings")
message_of NoMaster = message_about kinds.InvalidList (codes "master")
message_of (TooOld version) = message_about kinds.IncompatibleVersion (version_text version)
message_of cause = error_kind_title (kind_of cause)

-- ---- details

-- a namespace; the host's has no name
abbrev pub place_text : List ℕ → List ℕ
place_text ns = if is_host_ns ns then codes "-" else ns

abbrev pub call_text : ℕ → List ℕ
call_text number = codes "call " ++ decimal number

abbrev pub set_text : ℕ → List ℕ
set_text set = codes "set " ++ decimal set

-- two texts with a space between them
abbrev pub spaced : List ℕ → List ℕ → List ℕ
spaced word text = word ++ (codes " " ++ text)

-- what has a name of its own in a namespace, behind the name of its kind of object
abbrev pub named_text : List ℕ → List ℕ → List ℕ → List ℕ
named_text word ns name = spaced word (spaced (place_text ns) name)

-- what a link has of a network, behind the name of its kind of object
abbrev pub on_link_text : List ℕ → List ℕ → List ℕ → Cidr → List ℕ
on_link_text word ns link cidr = named_text word ns (spaced link (cidr_text cidr))

-- an object by its key, a rule by its place
abbrev pub missed_text : Missed → List ℕ
missed_text (missed.Bridge name) = spaced (codes "bridge") name
missed_text (missed.Link l) = named_text (codes "link") l.ns l.name
missed_text (missed.Address a) = on_link_text (codes "address") a.ns a.link a.cidr
missed_text (missed.Route r) = on_link_text (codes "route") r.ns r.link r.dst
missed_text (missed.Rule r number) =
    codes "rule " ++ table_text r.table ++ codes " " ++ chain_text r.chain ++ codes " " ++ decimal number
missed_text (missed.Setting s) = named_text (codes "setting") s.ns s.key
missed_text (missed.Lease l) = spaced (codes "lease") (addr_text l.addr)

abbrev pub details_of : Command → Cause → List ℕ
details_of c (BadFields wrong) = []
details_of c (IpArgument value) = []
details_of c BadMapping = []
details_of c NoNamespace = c.netns
details_of c (NameTaken tag) = tag_text tag
details_of c (PoolEmpty set) = set_text set
details_of c NoMaster = []
details_of c (Fault call) = call_text call
details_of c (Faults calls) = joined_by_comma (map call_text calls)
details_of c (TooOld version) = verb_text c.verb
details_of c Unknown = attachment_text (att_of c)
details_of c (NoFreeAddress set) = set_text set
details_of c (MasterAbsent name) = spaced (codes "master") name
details_of c NothingThere = c.ifname
details_of c (Missing what) = missed_text what

unfoldable pub error_of : Version → Command → Cause → CniError
error_of version c cause =
    record { version = version; code = code_of cause; msg = message_of cause; details = details_of c cause }

-- ---- answers

-- the answer to an ending without a result of its own, in this version
abbrev pub plain_answer : Version → Command → Ending → Answer
plain_answer version c Added = answers.Yes
plain_answer version c Yes = answers.Yes
plain_answer version c (Skipped skip) = answers.Skipped skip
plain_answer version c Versions = answers.Versions version
plain_answer version c (Refused cause) = answers.Refused (error_of version c cause)
