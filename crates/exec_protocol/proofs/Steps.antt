-- How the refusal of a part passes through the steps of a request.
use Rattle.std.proofs.Common.{◌≡◌, Result, refl, ap}
use Rattle.cni_json.specs.Outcome.{RefusesAs}
use Rattle.cni_result.specs.Refusals as results
use Rattle.cni_result.specs.declared.refusal.ResultError.{ResultError}
use Rattle.cni_result.specs.declared.refusal.ResultError.TheVariants as prev
use Rattle.net_conf.specs.Refusals as confs
use Rattle.net_conf.specs.declared.error.ConfError.{ConfError}
use Rattle.net_conf.specs.declared.error.ConfError.TheVariants as conf
use Rattle.exec_protocol.specs.Refusals.{is_out_of_memory, TellsNoMemoryOnce, conf_refusal, prev_refusal, of_conf}
use Rattle.exec_protocol.specs.{Refusals.of_prev, declared.error.RequestError.RequestError}

conf-passed : {A : Type 0} (c : ConfError) (r : Result A ConfError) → RefusesAs confs.is_out_of_memory c r
    → RefusesAs is_out_of_memory (conf_refusal c) (of_conf r)
conf-passed (conf.Version found) r is = ap of_conf is
conf-passed (conf.Unsupported key value) r is = ap of_conf is
conf-passed conf.Decode r is = ap of_conf is
conf-passed (conf.Invalid why) r is = ap of_conf is
conf-passed conf.NoMemory r is = tt

prev-passed : {A : Type 0} (c : ResultError) (r : Result A ResultError) → RefusesAs results.is_out_of_memory c r
    → RefusesAs is_out_of_memory (prev_refusal c) (of_prev r)
prev-passed prev.Decode r is = ap of_prev is
prev-passed (prev.Version found) r is = ap of_prev is
prev-passed (prev.Invalid key) r is = ap of_prev is
prev-passed prev.NoMemory r is = tt

-- a refusal of the configuration is one of the request
pub RefusesAs-conf : {A : Type 0} (c : ConfError) (e : RequestError) (r : Result A ConfError)
    → RefusesAs confs.is_out_of_memory c r → e ≡ conf_refusal c → RefusesAs is_out_of_memory e (of_conf r)
RefusesAs-conf c e r refuses is = rw is (conf-passed c r refuses)

-- and so is one of the result before
pub RefusesAs-prev : {A : Type 0} (c : ResultError) (e : RequestError) (r : Result A ResultError)
    → RefusesAs results.is_out_of_memory c r → e ≡ prev_refusal c → RefusesAs is_out_of_memory e (of_prev r)
RefusesAs-prev c e r refuses is = rw is (prev-passed c r refuses)

conf-once : (c : ConfError) → TellsNoMemoryOnce (conf_refusal c)
conf-once (conf.Version found) = refl
conf-once (conf.Unsupported key value) = refl
conf-once conf.Decode = refl
conf-once (conf.Invalid why) = refl
conf-once conf.NoMemory = tt

prev-once : (c : ResultError) → TellsNoMemoryOnce (prev_refusal c)
prev-once prev.Decode = refl
prev-once (prev.Version found) = refl
prev-once (prev.Invalid key) = refl
prev-once prev.NoMemory = tt

pub TellsNoMemoryOnce-conf : (c : ConfError) (e : RequestError) → e ≡ conf_refusal c → TellsNoMemoryOnce e
TellsNoMemoryOnce-conf c e is = rw is (conf-once c)

pub TellsNoMemoryOnce-prev : (c : ResultError) (e : RequestError) → e ≡ prev_refusal c → TellsNoMemoryOnce e
TellsNoMemoryOnce-prev c e is = rw is (prev-once c)

pub ruleset refusals = (RefusesAs-conf, RefusesAs-prev, TellsNoMemoryOnce-conf, TellsNoMemoryOnce-prev)
