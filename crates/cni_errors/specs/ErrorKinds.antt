-- What an error says by its kind (CNI specification, section 5, "Error"): its code, and the title that its message
-- begins with. The titles are this project's own, and so are the codes from 100 on.
use Rattle.std.specs.Prelude.{ℕ, List, [], ◌++◌, codes}
use Rattle.cni_result.specs.declared.{error.CniError.CniError, version.Version.TheVariants.V1_1}
use Rattle.cni_errors.specs.declared.error_kind.ErrorKind.{ErrorKind, TheVariants.IncompatibleVersion}
use Rattle.cni_errors.specs.declared.error_kind.ErrorKind.TheVariants.{UnsupportedField, ContainerUnknown}
use Rattle.cni_errors.specs.declared.error_kind.ErrorKind.TheVariants.{InvalidVariables, DecodingFailed, InvalidList}
use Rattle.cni_errors.specs.declared.error_kind.ErrorKind.TheVariants.{InvalidPodFile, InvalidPacketFile, NotAvailable}
use Rattle.cni_errors.specs.declared.error_kind.ErrorKind.TheVariants.{NamespaceMissing, NameTaken, PoolEmpty}
use Rattle.cni_errors.specs.declared.error_kind.ErrorKind.TheVariants.{KernelFault, OutOfMemory, NothingThere}
use Rattle.cni_errors.specs.declared.error_kind.ErrorKind.TheVariants.{CheckFailed}

abbrev pub error_kind_code : ErrorKind → ℕ
error_kind_code IncompatibleVersion = 1
error_kind_code UnsupportedField = 2
error_kind_code ContainerUnknown = 3
error_kind_code InvalidVariables = 4
error_kind_code DecodingFailed = 6
error_kind_code InvalidList = 7
error_kind_code InvalidPodFile = 7
error_kind_code InvalidPacketFile = 7
error_kind_code NotAvailable = 50
error_kind_code NamespaceMissing = 100
error_kind_code NameTaken = 101
error_kind_code PoolEmpty = 102
error_kind_code KernelFault = 103
error_kind_code OutOfMemory = 104
error_kind_code NothingThere = 105
error_kind_code CheckFailed = 110

abbrev pub error_kind_title : ErrorKind → List ℕ
error_kind_title IncompatibleVersion = codes "incompatible CNI version"
error_kind_title UnsupportedField = codes "unsupported field"
error_kind_title ContainerUnknown = codes "container unknown"
error_kind_title InvalidVariables = codes "invalid environment variables"
error_kind_title DecodingFailed = codes "decoding failed"
error_kind_title InvalidList = codes "invalid network configuration"
error_kind_title InvalidPodFile = codes "invalid pod file"
error_kind_title InvalidPacketFile = codes "invalid packet file"
error_kind_title NotAvailable = codes "not available"
error_kind_title NamespaceMissing = codes "namespace missing"
error_kind_title NameTaken = codes "name taken"
error_kind_title PoolEmpty = codes "pool empty"
error_kind_title KernelFault = codes "kernel fault"
error_kind_title OutOfMemory = codes "out of memory"
error_kind_title NothingThere = codes "nothing there"
error_kind_title CheckFailed = codes "check failed"

-- ---- messages

-- the title, and what it is about
abbrev pub message_about : ErrorKind → List ℕ → List ℕ
message_about kind what = error_kind_title kind ++ codes ": " ++ what

-- a field that is not acted on, by its key and its value
abbrev pub message_of_field : List ℕ → List ℕ → List ℕ
message_of_field key value = error_kind_title UnsupportedField ++ (codes " " ++ (key ++ (codes ": " ++ value)))

-- ---- errors without details

-- one that belongs to no list, in the newest version
abbrev pub plain_error : ErrorKind → List ℕ → CniError
plain_error kind msg = record { version = V1_1; code = error_kind_code kind; msg = msg; details = [] }

-- one that says no more than its title
abbrev pub titled_error : ErrorKind → CniError
titled_error kind = plain_error kind (error_kind_title kind)

-- the error of what was refused memory
abbrev pub memory_error : CniError
memory_error = titled_error OutOfMemory
