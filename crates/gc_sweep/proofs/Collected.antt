-- Each call of a GC lowers the calls that are left to it.
use Rattle.gc_sweep.proofs.Names.{◌≡◌, ℕ, ◌+◌, ◌*◌, ◌<◌, ◌≤◌, Bool, true, false, List, [], ◌∷◌, map, length, Option}
use Rattle.gc_sweep.proofs.Names.{Some, None, refl, sym, subst, arith, mul-le-mul_right, not, length-map, same_Some}
use Rattle.gc_sweep.proofs.Names.{none-some, cons_option, filter_map, list_any, filter, find, one_if, apply, goes_with}
use Rattle.gc_sweep.proofs.Names.{owner_in, tags_of, without_link, att_eq, is_own, Call, OwnersOf, Kind, Reply, Fault}
use Rattle.gc_sweep.proofs.Names.{Gone, Att, CachedObj, Host, Lease, Link, Setting, Tag, Rule, each_key_once}
use Rattle.gc_sweep.proofs.Names.{goes_with-itself, call_of_work, Gc, Job, AskCached, Delete, Step, Sweep, after_step}
use Rattle.gc_sweep.proofs.Names.{is_valid, job_of, step_call, work_after, deletion}
use Rattle.cni_addr.proofs.Lists.{length-filter_le}
use Rattle.kernel_types.specs.declared.call.Kind.TheVariants as kinds
use Rattle.plugin_base.proofs.KeyLists.{length-each_key_once}
use Rattle.gc_sweep.proofs.{Calls.{jobs_weight-after, jobs_weight-map}, Lists.{length-found, length-without_first}}
use Rattle.gc_sweep.proofs.Weights.{collection_left, jobs_weight, objects_in, sweeps_weight}

-- ---- no more owners than objects

fewer-cons : (o : Option Att) (xs : List Att) → length (cons_option o xs) ≤ 1 + length xs
fewer-cons None xs = omega arith
fewer-cons (Some x) xs = omega arith

fewer-owners : (network : List ℕ) (ts : List Tag) → length (filter_map (owner_in network) ts) ≤ length ts
fewer-owners network [] = omega arith
fewer-owners network (t ∷ ts) =
    let rest = fewer-owners network ts in
    let one = fewer-cons (owner_in network t) (filter_map (owner_in network) ts) in
    omega arith

tags-fit : (host : Host) (kind : Kind) → length (tags_of host kind) ≤ objects_in host
tags-fit host kinds.Links = let m = length-map host.links (λ (l : Link). l.tag) in omega arith
tags-fit host kinds.Rules = let m = length-map host.rules (λ (r : Rule). r.tag) in omega arith
tags-fit host kinds.Settings = let m = length-map host.settings (λ (s : Setting). s.tag) in omega arith
tags-fit host kinds.Leases = let m = length-map host.leases (λ (l : Lease). l.tag) in omega arith
tags-fit host kinds.Cached = let m = length-map host.cached (λ (c : CachedObj). c.tag) in omega arith

-- ---- a deletion takes an object, or says that there is none

record Shrinks (host : Host) (step : Host × Reply) : Type 0 where
  gone : Bool
  reply : step.1 ≡ Gone gone
  fewer : objects_in step.0 + one_if gone ≤ objects_in host

links-shrink : (att : Att) (host : Host) (o : Option Link) → find (λ l. is_own att l.tag) host.links ≡ o
    → Shrinks host (without_link host o)
links-shrink att host None is = record { gone = false; reply = refl; fewer = omega arith }
links-shrink att host (Some l) is = record {
  gone = true;
  reply = refl;
  fewer =
      let c = length-found (λ m. is_own att m.tag) (goes_with l.ns l.name) host.links l is (goes_with-itself l) in
      omega arith;
}

deletion-shrinks : (att : Att) (kind : Kind) (host : Host) → Shrinks host (apply host (deletion att kind))
deletion-shrinks att kinds.Links host = links-shrink att host (find (λ l. is_own att l.tag) host.links) refl
deletion-shrinks att kinds.Rules host = record {
  gone = list_any (λ r. is_own att r.tag) host.rules;
  reply = refl;
  fewer = let c = length-without_first (λ r. is_own att r.tag) host.rules in omega arith;
}
deletion-shrinks att kinds.Settings host = record {
  gone = list_any (λ s. is_own att s.tag) host.settings;
  reply = refl;
  fewer = let c = length-without_first (λ s. is_own att s.tag) host.settings in omega arith;
}
deletion-shrinks att kinds.Leases host = record {
  gone = list_any (λ l. is_own att l.tag) host.leases;
  reply = refl;
  fewer = let c = length-without_first (λ l. is_own att l.tag) host.leases in omega arith;
}
deletion-shrinks att kinds.Cached host = record {
  gone = list_any (λ c. is_own att c.tag) host.cached;
  reply = refl;
  fewer = let n = length-without_first (λ c. is_own att c.tag) host.cached in omega arith;
}

-- ---- the work

-- fewer objects, less to do
fewer-sweeps : (few many : ℕ) (ss : List Sweep) → few ≤ many → sweeps_weight few ss ≤ sweeps_weight many ss
fewer-sweeps few many [] less = omega arith
fewer-sweeps few many (s ∷ ss) less =
    let rest = fewer-sweeps few many ss less in
    let one : few * (1 + length s.more) ≤ many * (1 + length s.more) = mul-le-mul_right (1 + length s.more) less in
    omega arith

-- ---- each call

abbrev FallsBy : Gc → List Job → List Sweep → Host → Reply → Host → Type 0
FallsBy gc js ss host r k =
    collection_left (work_after gc js ss r) k < collection_left (record { jobs = js; sweeps = ss }) host

owners-fall : (gc : Gc) (s : Sweep) (ss : List Sweep) (host : Host)
    → FallsBy gc [] (s ∷ ss) host (apply host (OwnersOf gc.network s.kind)).1
    (apply host (OwnersOf gc.network s.kind)).0
owners-fall gc s ss host =
    let all = filter_map (owner_in gc.network) (tags_of host s.kind) in
    let owners = each_key_once att_eq all in
    let stale = filter (λ a. not (is_valid gc.valid a)) owners in
    let a = length-filter_le (λ x. not (is_valid gc.valid x)) owners in
    let b = length-each_key_once att_eq all in
    let c = fewer-owners gc.network (tags_of host s.kind) in
    let d = tags-fit host s.kind in
    let few : length stale ≤ objects_in host = omega arith in
    let jobs : jobs_weight (map (job_of s) stale) ≡ length stale * (1 + length s.more) = jobs_weight-map s stale in
    let most : length stale * (1 + length s.more) ≤ objects_in host * (1 + length s.more) =
    mul-le-mul_right (1 + length s.more) few in
    omega arith

gone-falls : (gc : Gc) (att : Att) (kind : Kind) (more : List Step) (js : List Job) (ss : List Sweep)
    (host k : Host) (gone : Bool)
    → objects_in k + one_if gone ≤ objects_in host
    → FallsBy gc (record { att = att; step = Delete kind; more = more } ∷ js) ss host (Gone gone) k
gone-falls gc att kind more js ss host k true fewer =
    let rest = fewer-sweeps (objects_in k) (objects_in host) ss (omega arith) in omega arith
gone-falls gc att kind more js ss host k false fewer =
    let rest = fewer-sweeps (objects_in k) (objects_in host) ss (omega arith) in
    let left : jobs_weight (after_step att more js) ≡ length more + jobs_weight js = jobs_weight-after att more js in
    omega arith

step-falls : (gc : Gc) (att : Att) (step : Step) (more : List Step) (js : List Job) (ss : List Sweep) (host : Host)
    → FallsBy gc (record { att = att; step = step; more = more } ∷ js) ss host (apply host (step_call att step)).1
    (apply host (step_call att step)).0
step-falls gc att AskCached more js ss host =
    let left : jobs_weight (after_step att more js) ≡ length more + jobs_weight js = jobs_weight-after att more js in
    omega arith
step-falls gc att (Delete kind) more js ss host =
    let d = deletion-shrinks att kind host in
    subst (λ r.
    FallsBy gc (record { att = att; step = Delete kind; more = more } ∷ js) ss host r
    (apply host (deletion att kind)).0)
    (sym d.reply)
    (gone-falls gc att kind more js ss host (apply host (deletion att kind)).0 d.gone d.fewer)

abbrev CallFalls : Gc → List Job → List Sweep → Host → Call → Type 0
CallFalls gc js ss host call = FallsBy gc js ss host (apply host call).1 (apply host call).0

-- the kernel's reply lowers what is left to a GC
pub work-falls : (gc : Gc) (js : List Job) (ss : List Sweep) (host : Host) (call : Call)
    → call_of_work gc.network js ss ≡ Some call
    → collection_left (work_after gc js ss (apply host call).1) (apply host call).0
    < collection_left (record { jobs = js; sweeps = ss }) host
work-falls gc [] [] host call is = absurd (none-some call is)
work-falls gc [] (s ∷ ss) host call is =
    subst (CallFalls gc [] (s ∷ ss) host) (same_Some (OwnersOf gc.network s.kind) call is) (owners-fall gc s ss host)
work-falls gc (j ∷ js) ss host call is =
    subst (CallFalls gc (j ∷ js) ss host) (same_Some (step_call j.att j.step) call is)
    (step-falls gc j.att j.step j.more js ss host)

-- and so does a fault
pub fault-falls : (gc : Gc) (js : List Job) (ss : List Sweep) (host : Host) (call : Call)
    → call_of_work gc.network js ss ≡ Some call
    → collection_left (work_after gc js ss Fault) host < collection_left (record { jobs = js; sweeps = ss }) host
fault-falls gc [] [] host call is = absurd (none-some call is)
fault-falls gc [] (s ∷ ss) host call is = omega arith
fault-falls gc (j ∷ js) ss host call is = omega arith
