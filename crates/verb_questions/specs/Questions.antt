-- What CHECK and STATUS ask of the kernel, and what a denial means (CNI specification, section 3, "Checking attachment"
-- and "Status").
use Rattle.std.specs.Prelude.{ℕ, ◌+◌, List, [], ◌∷◌, ◌++◌, map, scan, Option, Some, None}
use Rattle.cni_addr.specs.declared.{address.Addr.Addr, mac.Mac.Mac, range.RangeSet.RangeSet}
use Rattle.cni_result.specs.declared.{cached.Cached.Cached, result.{AddResult.AddResult, Interface.Interface}}
use Rattle.net_conf.specs.declared.list.NetList.{NetList}
use Rattle.pod_file.specs.declared.command.Command.{Command}
use Rattle.kernel_types.specs.declared.call.{Call.TheVariants.{HasObj, PoolFree}, Probe.TheVariants.{BridgeAt, Master}}
use Rattle.plugin_base.specs.Share.{Share}
use Rattle.cni_errors.specs.{CommandFields.att_of, ObjectQuestions.{link_question, address_question, route_question}}
use Rattle.cni_errors.specs.ObjectQuestions.{rule_questions, setting_question, lease_question}
use Rattle.cni_errors.specs.declared.answer.Cause.TheVariants.{NoFreeAddress, MasterAbsent, Missing}
use Rattle.cni_errors.specs.declared.answer.Question.{Question}
use Rattle.plugin_chain.specs.Wanted.{bridge_of, master_of, sets_of, wanted}
use Rattle.cni_errors.specs.declared.answer.Missed.TheVariants as missed

-- ---- CHECK: the bridge, and each object that the list makes with what the cached result says

abbrev pub share_questions : Share → List Question
share_questions s =
    map link_question s.links
    ++ (map address_question s.addresses
    ++ (map route_question s.routes
    ++ (rule_questions 1 s.rules ++ (map setting_question s.settings ++ map lease_question s.leases))))

abbrev pub bridge_by_mac : List ℕ → Option Mac → List Question
bridge_by_mac name None = []
bridge_by_mac name (Some mac) = record { call = HasObj (BridgeAt name mac); lack = Missing (missed.Bridge name) } ∷ []

abbrev pub first_interface : List Interface → List Question
first_interface [] = []
first_interface (i ∷ is) = bridge_by_mac i.name i.mac

-- the bridge, if there is one, which the result names first
abbrev pub bridge_questions : Option (List ℕ) → List Interface → List Question
bridge_questions None interfaces = []
bridge_questions (Some bridge) interfaces = first_interface interfaces

-- the addresses of a result
abbrev pub addresses_of_result : AddResult → List Addr
addresses_of_result r = map (λ ip. ip.address.addr) r.ips

-- what the list makes for the attachment with the namespace, the mappings and the addresses of the cached result
abbrev pub cached_share : NetList → Command → Cached → Share
cached_share list c cached = wanted list (att_of c) cached.netns cached.mappings (addresses_of_result cached.result)

unfoldable pub check_questions : NetList → Command → Cached → List Question
check_questions list c cached =
    bridge_questions (bridge_of list.first) cached.result.interfaces ++ share_questions (cached_share list c cached)

-- ---- STATUS: a free address in each range set, and the master

abbrev pub pool_question : List ℕ → ℕ → RangeSet → Question
pool_question network number set = record { call = PoolFree network set; lack = NoFreeAddress number }

abbrev pub pool_questions : List ℕ → ℕ → List RangeSet → List Question
pool_questions network number sets = scan (λ n set. n + 1) (pool_question network) number sets

abbrev pub master_questions : Option (List ℕ) → List Question
master_questions None = []
master_questions (Some master) = record { call = HasObj (Master master); lack = MasterAbsent master } ∷ []

unfoldable pub status_questions : NetList → Command → List Question
status_questions list c = pool_questions c.network 0 (sets_of list) ++ master_questions (master_of list.first)
