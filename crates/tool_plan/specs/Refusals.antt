-- Why a file or a plan is refused, as an error (CNI specification, section 5, "Error"). The texts are this project's
-- own.
use Rattle.std.specs.Prelude.{ℕ, List, [], ◌++◌, codes, decimal, slice_index_or}
use Rattle.cni_result.specs.declared.error.CniError.{CniError}
use Rattle.cni_errors.specs.ErrorKinds.{message_about, message_of_field, plain_error, titled_error, memory_error}
use Rattle.cni_errors.specs.declared.error_kind.ErrorKind.{ErrorKind}
use Rattle.cni_errors.specs.declared.error_kind.ErrorKind.TheVariants as kinds
use Rattle.net_conf.specs.declared.error.ConfError.{ConfError}
use Rattle.net_conf.specs.declared.error.ConfError.TheVariants as conf
use Rattle.packet_probe.specs.declared.error.PacketsError.{PacketsError}
use Rattle.packet_probe.specs.declared.error.PacketsError.TheVariants as packets
use Rattle.pod_file.specs.declared.error.PodError.{PodError}
use Rattle.pod_file.specs.declared.error.PodError.TheVariants as pods
use Rattle.pod_workers.specs.declared.plan.PlanError.{PlanError}
use Rattle.pod_workers.specs.declared.plan.PlanError.TheVariants as plans

-- an error of this kind about this
abbrev pub error_about : ErrorKind → List ℕ → CniError
error_about kind what = plain_error kind (message_about kind what)

abbrev pub invalid_list : List ℕ → CniError
invalid_list why = error_about kinds.InvalidList why

abbrev pub invalid_pods : List ℕ → CniError
invalid_pods why = error_about kinds.InvalidPodFile why

abbrev pub invalid_packets : List ℕ → CniError
invalid_packets why = error_about kinds.InvalidPacketFile why

abbrev pub list_error : ConfError → CniError
list_error (conf.Version found) = error_about kinds.IncompatibleVersion found
list_error (conf.Unsupported key value) = plain_error kinds.UnsupportedField (message_of_field key value)
list_error conf.Decode = titled_error kinds.DecodingFailed
list_error (conf.Invalid why) = invalid_list why
list_error conf.NoMemory = memory_error

abbrev pub pods_error : PodError → CniError
pods_error pods.Decode = titled_error kinds.DecodingFailed
pods_error pods.Number = invalid_pods (codes "number")
pods_error (pods.Shape path) = invalid_pods path
pods_error (pods.Alone round) = invalid_pods (codes "rounds[" ++ (decimal round ++ codes "] is not alone"))
pods_error pods.NoMemory = memory_error

abbrev pub packets_error : PacketsError → CniError
packets_error packets.Decode = titled_error kinds.DecodingFailed
packets_error packets.Number = invalid_packets (codes "number")
packets_error packets.List = invalid_packets (codes "list")
packets_error (packets.Packet at) = invalid_packets (codes "packets[" ++ (decimal at ++ codes "]"))
packets_error packets.NoMemory = memory_error

abbrev pub plan_error : PlanError → CniError
plan_error (plans.SameName place) = invalid_list (codes "name")
plan_error (plans.NoNetwork number) = invalid_pods (codes "no network for command " ++ decimal number)

-- the file that is to blame where this pod file and these lists make no plan
abbrev pub blamed_file : List ℕ → List (List ℕ) → PlanError → List ℕ
blamed_file file names (plans.SameName place) = slice_index_or names place []
blamed_file file names (plans.NoNetwork number) = file
