-- Each call of a GC lowers a weight, so there are few.
use Rattle.gc_sweep.proofs.Names.{◌≡◌, ℕ, ◌+◌, ◌*◌, ◌<◌, ◌≤◌, Bool, true, false, not, cond, ap, List, [], ◌∷◌, ◌++◌}
use Rattle.gc_sweep.proofs.Names.{length, Some, None, refl, sym, ◌∙◌, subst, inl, inr, arith, mul-le-mul_right, map}
use Rattle.gc_sweep.proofs.Names.{length-map, same_Some, none-some, list_any, list_all, filter_map, cons_option, filter}
use Rattle.gc_sweep.proofs.Names.{◌||◌, bytes_eq, each_key_once, without_first, tags_of, owner_in, att_eq, IsSound}
use Rattle.gc_sweep.proofs.Names.{is_own, Call, OwnersOf, Kind, Links, Rules, Settings, Leases, Cached, Reply, Gone}
use Rattle.gc_sweep.proofs.Names.{AddrObj, Att, CachedObj, Host, Lease, Link, RouteObj, Setting, Tag, Outside, Base}
use Rattle.gc_sweep.proofs.Names.{Own, Rule, att_eq-refl, att_eq-laws, by_bool, list_all-both, list_all-each_key_once}
use Rattle.gc_sweep.proofs.Names.{ValidAtt, host_after, reply_to, call_of_work, gc_of, Gc, Step, AskCached, Delete}
use Rattle.gc_sweep.proofs.Names.{Sweep, Job, is_valid, step_call, job_of, after_step, work_after, deletion, kinds_of}
use Rattle.gc_sweep.proofs.Names.{list_all-none}
use Rattle.std.proofs.{Common.{suc-mul, mul-add, le_refl}, lemmas.List.Folds.list_all-append}
use Rattle.cni_addr.specs.Lists.{distinct}
use Rattle.kernel_types.proofs.{Isolation.att_eq-same, ListLemmas.{distinct-filter, list_all-filter}}
use Rattle.plugin_base.proofs.KeyLists.{distinct-each_key_once}
use Rattle.gc_sweep.specs.{Bound.{stale_owners, all_tags, objects_by, GcBound}, Keep.{goes, IsWithin}, Trace.Made}
use Rattle.gc_sweep.specs.Trace.{host_on}
use Rattle.gc_sweep.proofs.{Covered.{WorkKept, Next, work_step, work_start}, Deletions.deletes, Kept.tags_within}
use Rattle.gc_sweep.proofs.{Lists.{count_append, length-without_first, list_all-drops}, Machine.{Point, start_point}}
use Rattle.gc_sweep.proofs.{Machine.{point_after, IsTrail}, Owners.{is_stale, goes_own, own_goes, owners_cover}}
use Rattle.gc_sweep.proofs.{Owners.{owners_stale, has_att}, Runs.{trail, early_or, early_makes_none}}
use Rattle.gc_sweep.proofs.Weights.{jobs_weight, total, weight}

-- ---- no more distinct owners than there are

list_any-without_other : {X : Type 0} (p q : X → Bool) → ((y : X) → q y ≡ true → p y ≡ false) → (ys : List X)
    → list_any p ys ≡ true → list_any p (without_first q ys) ≡ true
list_any-without_other p q w [] h = h
list_any-without_other p q w (y ∷ ys) h = grind (arith, h, w y, list_any-without_other p q w ys)

apart_same : (x a y : Att) → not (att_eq x a) ≡ true → att_eq x y ≡ true → att_eq a y ≡ false
apart_same x a y differ xy =
    by_bool (att_eq a y)
    (λ ay.
    let e : a ≡ x = att_eq-same a y ay ∙ sym (att_eq-same x y xy) in
    let same : att_eq x a ≡ true = rw e (att_eq-refl x) in grind (arith, differ, same))
    (λ e. e)

pigeon : (xs ys : List Att) → distinct att_eq xs ≡ true → list_all (λ a. list_any (att_eq a) ys) xs ≡ true
    → length xs ≤ length ys
pigeon [] ys d h = omega arith
pigeon (x ∷ xs) ys d h =
    let here : list_any (att_eq x) ys ≡ true = grind (arith, h) in
    let shorter = rw here at (length-without_first (att_eq x) ys) in
    let others = list_all-none (att_eq x) xs (grind (arith, d)) in
    let later : list_all (λ a. list_any (att_eq a) (without_first (att_eq x) ys)) xs ≡ true =
    list_all-both (λ a. not (att_eq x a)) (λ a. list_any (att_eq a) ys)
    (λ a. list_any (att_eq a) (without_first (att_eq x) ys))
    (λ a differ there. list_any-without_other (att_eq a) (att_eq x) (λ y xy. apart_same x a y differ xy) ys there)
    xs others (grind (arith, h)) in
    let rest = pigeon xs (without_first (att_eq x) ys) (grind (arith, d)) later in
    omega arith

abbrev is_in : List ℕ → List ValidAtt → List Att → Tag → Bool
is_in network valid ys t = not (goes network valid t) || has_att ys t

in_case : (b : Bool) (a : Att) (p : Tag → Bool) (xs : List Att) → p (Own a) ≡ true → list_all (λ x. p (Own x)) xs ≡ true
    → list_all (λ x. p (Own x)) (cons_option (cond b (Some a) None) xs) ≡ true
in_case true a p xs e h = grind (arith, e, h)
in_case false a p xs e h = h

tags_owners : (network : List ℕ) (p : Tag → Bool) (ts : List Tag) → list_all p ts ≡ true
    → list_all (λ x. p (Own x)) (filter_map (owner_in network) ts) ≡ true
tags_owners network p [] h = refl
tags_owners network p (Outside ∷ ts) h = tags_owners network p ts (grind (arith, h))
tags_owners network p (Base ∷ ts) h = tags_owners network p ts (grind (arith, h))
tags_owners network p (Own a ∷ ts) h =
    in_case (bytes_eq a.network network) a p (filter_map (owner_in network) ts) (grind (arith, h))
    (tags_owners network p ts (grind (arith, h)))

-- where each tag that goes has its owner among those of the second list
fewer_owners : (network : List ℕ) (valid : List ValidAtt) (few many : List Tag)
    → ((p : Tag → Bool) → list_all p many ≡ true → list_all p few ≡ true)
    → length (stale_owners network valid few) ≤ length (stale_owners network valid many)
fewer_owners network valid few many sub =
    let ys = stale_owners network valid many in
    let named : list_all (λ x. is_in network valid ys (Own x)) (filter_map (owner_in network) few) ≡ true =
    tags_owners network (is_in network valid ys) few
    (sub (is_in network valid ys) (owners_cover network valid many)) in
    let first =
    list_all-each_key_once (λ x. is_in network valid ys (Own x)) att_eq (filter_map (owner_in network) few) named in
    let kept =
    list_all-filter (λ x. is_in network valid ys (Own x)) (λ a. not (is_valid valid a))
    (each_key_once att_eq (filter_map (owner_in network) few)) first in
    pigeon (stale_owners network valid few) ys
    (distinct-filter att_eq (λ a. not (is_valid valid a)) _
    (distinct-each_key_once att_eq att_eq-laws.symm (filter_map (owner_in network) few)))
    (list_all-both (is_stale network valid) (λ x. is_in network valid ys (Own x)) (λ a. list_any (att_eq a) ys)
    (λ a s i. grind (arith, s, i, goes_own network valid a)) (stale_owners network valid few)
    (owners_stale network valid few) kept)

all_of_kind : (p : Tag → Bool) (h : Host) (kind : Kind) → list_all p (all_tags h) ≡ true
    → list_all p (tags_of h kind) ≡ true
all_of_kind p h Links a = grind (arith, a, list_all-append {X = Tag})
all_of_kind p h Rules a = grind (arith, a, list_all-append {X = Tag})
all_of_kind p h Settings a = grind (arith, a, list_all-append {X = Tag})
all_of_kind p h Leases a = grind (arith, a, list_all-append {X = Tag})
all_of_kind p h Cached a = grind (arith, a, list_all-append {X = Tag})

pub owners_at_start : (gc : Gc) (h k : Host) (kind : Kind) → IsWithin k h
    → length (stale_owners gc.network gc.valid (tags_of k kind))
    ≤ length (stale_owners gc.network gc.valid (all_tags h))
owners_at_start gc h k kind w =
    fewer_owners gc.network gc.valid (tags_of k kind) (all_tags h) (λ p a.
    list_all-drops p (λ t. true) (tags_of h kind) (tags_of k kind) (tags_within k h kind w)
    (all_of_kind p h kind a))

-- ---- each call lowers the weight

pub jobs_weight-map : (s : Sweep) (xs : List Att) → jobs_weight (map (job_of s) xs) ≡ length xs * (1 + length s.more)
jobs_weight-map s [] = omega arith
jobs_weight-map s (x ∷ xs) =
    let rest = jobs_weight-map s xs in let one = suc-mul (length xs) (1 + length s.more) in omega arith

pub jobs_weight-after : (att : Att) (more : List Step) (js : List Job)
    → jobs_weight (after_step att more js) ≡ length more + jobs_weight js
jobs_weight-after att [] js = omega arith
jobs_weight-after att (s ∷ more) js = omega arith

abbrev pub Falls : Gc → ℕ → (Tag → Bool) → List Job → List Sweep → Host → Call → Reply → Type 0
Falls gc m p js ss k call r =
    weight m p (work_after gc js ss r).jobs (work_after gc js ss r).sweeps (host_after k call r) < weight m p js ss k

ask_falls : (gc : Gc) (m : ℕ) (p : Tag → Bool) (s : Sweep) (ss : List Sweep) (k : Host) (faulty : Bool)
    → length (stale_owners gc.network gc.valid (tags_of k s.kind)) ≤ m
    → Falls gc m p [] (s ∷ ss) k (OwnersOf gc.network s.kind) (reply_to k (OwnersOf gc.network s.kind) faulty)
ask_falls gc m p s ss k true few = omega arith
ask_falls gc m p s ss k false few =
    let owners = stale_owners gc.network gc.valid (tags_of k s.kind) in
    let jobs = jobs_weight-map s owners in
    let most : length owners * (1 + length s.more) ≤ m * (1 + length s.more) =
    mul-le-mul_right (1 + length s.more) few in
    omega arith

drop_falls : (gc : Gc) (m : ℕ) (p : Tag → Bool) (att : Att) (d : Kind) (more : List Step) (js : List Job)
    (ss : List Sweep) (k : Host)
    → ((t : Tag) → is_own att t ≡ true → p t ≡ true) → IsSound k
    → (b : Bool) → list_any (is_own att) (tags_of k d) ≡ b
    → Falls gc m p (record { att = att; step = Delete d; more = more } ∷ js) ss k (deletion att d) (Gone b)
drop_falls gc m p att d more js ss k w sound true is = let f = (deletes att d k sound).fewer p w is in omega arith
drop_falls gc m p att d more js ss k w sound false is =
    let left = jobs_weight-after att more js in
    let P : Host → Type 0 = λ x.
    weight m p (after_step att more js) ss x
    < weight m p (record { att = att; step = Delete d; more = more } ∷ js) ss k in
    subst P (sym ((deletes att d k sound).none is)) (omega arith)

step_falls : (gc : Gc) (m : ℕ) (p : Tag → Bool) (att : Att) (step : Step) (more : List Step) (js : List Job)
    (ss : List Sweep) (k : Host) (faulty : Bool)
    → ((t : Tag) → is_own att t ≡ true → p t ≡ true) → IsSound k
    → Falls gc m p (record { att = att; step = step; more = more } ∷ js) ss k (step_call att step)
    (reply_to k (step_call att step) faulty)
step_falls gc m p att step more js ss k true w sound = omega arith
step_falls gc m p att AskCached more js ss k false w sound = let left = jobs_weight-after att more js in omega arith
step_falls gc m p att (Delete d) more js ss k false w sound =
    let P : Reply → Type 0 = λ r.
    Falls gc m p (record { att = att; step = Delete d; more = more } ∷ js) ss k (deletion att d) r in
    subst P (sym (deletes att d k sound).reply)
    (drop_falls gc m p att d more js ss k w sound (list_any (is_own att) (tags_of k d)) refl)

-- the objects of each owner that is left pass
abbrev pub AllPass : (Tag → Bool) → List Job → Type 0
AllPass p [] = Unit {0}
AllPass p (j ∷ js) = ((t : Tag) → is_own j.att t ≡ true → p t ≡ true) × AllPass p js

pub work_falls : (gc : Gc) (m : ℕ) (p : Tag → Bool) (js : List Job) (ss : List Sweep) (k : Host)
    (call : Call) (faulty : Bool)
    → call_of_work gc.network js ss ≡ Some call → IsSound k → AllPass p js
    → ((kind : Kind) → length (stale_owners gc.network gc.valid (tags_of k kind)) ≤ m)
    → Falls gc m p js ss k call (reply_to k call faulty)
work_falls gc m p [] [] k call faulty is sound w few = absurd (none-some call is)
work_falls gc m p [] (s ∷ ss) k call faulty is sound w few =
    subst (λ c. Falls gc m p [] (s ∷ ss) k c (reply_to k c faulty)) (same_Some (OwnersOf gc.network s.kind) call is)
    (ask_falls gc m p s ss k faulty (few s.kind))
work_falls gc m p (j ∷ js) ss k call faulty is sound w few =
    subst (λ c. Falls gc m p (j ∷ js) ss k c (reply_to k c faulty)) (same_Some (step_call j.att j.step) call is)
    (step_falls gc m p j.att j.step j.more js ss k faulty w.0 sound)

pub stale_pass : (gc : Gc) (js : List Job) → list_all (λ (j : Job). is_stale gc.network gc.valid j.att) js ≡ true
    → AllPass (goes gc.network gc.valid) js
stale_pass gc [] h = tt
stale_pass gc (j ∷ js) h = (own_goes gc.network gc.valid j.att (grind (arith, h)), stale_pass gc js (grind (arith, h)))

-- the weight bounds the calls that are left
pub run_bound : (gc : Gc) (h : Host) (es : List Made) (s : Point) (k : Host) (rest : List Made)
    → WorkKept gc h es s.work.jobs s.work.sweeps k → IsTrail gc s k rest
    → length rest
    ≤ weight (length (stale_owners gc.network gc.valid (all_tags h))) (goes gc.network gc.valid)
    s.work.jobs s.work.sweeps k
run_bound gc h es s k [] v run = omega arith
run_bound gc h es s k (e ∷ rest) v run =
    let m = length (stale_owners gc.network gc.valid (all_tags h)) in
    let p = goes gc.network gc.valid in
    let P : Reply → Type 0 = λ r. Next gc h es s.work.jobs s.work.sweeps k e.call r in
    let next : Next gc h es s.work.jobs s.work.sweeps k e.call e.reply =
    subst P (sym run.1.1) (work_step gc h es s.work.jobs s.work.sweeps k e.call run.1.0 run.0 v) in
    let later = run_bound gc h (es ++ e ∷ []) (point_after gc s e.reply) (host_on k e) rest next run.2 in
    let falls : Falls gc m p s.work.jobs s.work.sweeps k e.call e.reply =
    subst (Falls gc m p s.work.jobs s.work.sweeps k e.call) (sym run.1.1)
    (work_falls gc m p s.work.jobs s.work.sweeps k e.call run.1.0 run.0 v.stays.sound
    (stale_pass gc s.work.jobs v.stale) (λ kind. owners_at_start gc h k kind v.stays.within)) in
    omega arith

-- ---- all calls

count_map : {X : Type 0} (test : Tag → Bool) (tag : X → Tag) (xs : List X)
    → length (filter test (map tag xs)) ≡ length (filter (λ x. test (tag x)) xs)
count_map test tag [] = refl
count_map test tag (x ∷ xs) = grind (arith, count_map test tag xs)

count_more : (test : Tag → Bool) (n : ℕ) (xs ys : List Tag) → n ≤ length (filter test xs)
    → n + length (filter test ys) ≤ length (filter test (xs ++ ys))
count_more test n xs ys le = let sum = count_append test xs ys in omega arith

count_over : (test : Tag → Bool) (n : ℕ) (xs ys : List Tag) → n ≤ length (filter test xs)
    → n ≤ length (filter test (xs ++ ys))
count_over test n xs ys le = let sum = count_append test xs ys in omega arith

some_of_all : (test : Tag → Bool) (a b c d e f g : List Tag)
    → length (filter test a) + length (filter test d) + length (filter test e) + length (filter test f)
    + length (filter test g)
    ≤ length (filter test (a ++ b ++ c ++ d ++ e ++ f ++ g))
some_of_all test a b c d e f g =
    count_more test _ (a ++ b ++ c ++ d ++ e ++ f) g
    (count_more test _ (a ++ b ++ c ++ d ++ e) f
    (count_more test _ (a ++ b ++ c ++ d) e
    (count_more test _ (a ++ b ++ c) d
    (count_over test _ (a ++ b) c (count_over test _ a b (le_refl (length (filter test a))))))))

same_sum : (a b c d e v w x y z n : ℕ) → v ≡ a → w ≡ b → x ≡ c → y ≡ d → z ≡ e → v + w + x + y + z ≤ n
    → a + b + c + d + e ≤ n
same_sum a b c d e v w x y z n h1 h2 h3 h4 h5 le = omega arith

total_most : (test : Tag → Bool) (h : Host) → total test h ≤ objects_by test h
total_most test h =
    same_sum _ _ _ _ _ _ _ _ _ _ _
    (count_map test (λ (l : Link). l.tag) h.links)
    (count_map test (λ (r : Rule). r.tag) h.rules)
    (count_map test (λ (s : Setting). s.tag) h.settings)
    (count_map test (λ (l : Lease). l.tag) h.leases)
    (count_map test (λ (c : CachedObj). c.tag) h.cached)
    (some_of_all test (map (λ (l : Link). l.tag) h.links) (map (λ (a : AddrObj). a.tag) h.addresses)
    (map (λ (r : RouteObj). r.tag) h.routes) (map (λ (r : Rule). r.tag) h.rules)
    (map (λ (s : Setting). s.tag) h.settings) (map (λ (l : Lease). l.tag) h.leases)
    (map (λ (c : CachedObj). c.tag) h.cached))

bound_collected : (gc : Gc) (h : Host) (es : List Made) → IsSound h → IsTrail gc (start_point gc) h es
    → length es
    ≤ 6 + length (stale_owners gc.network gc.valid (all_tags h)) * (length gc.kinds + 6)
    + objects_by (goes gc.network gc.valid) h
bound_collected gc h es sound run =
    let m = length (stale_owners gc.network gc.valid (all_tags h)) in
    let b = run_bound gc h [] (start_point gc) h es (work_start gc h sound) run in
    let most = total_most (goes gc.network gc.valid) h in
    let c : length (map Delete gc.kinds) ≡ length gc.kinds = length-map gc.kinds Delete in
    let all : m * (1 + length (map Delete gc.kinds)) ≡ m * (length gc.kinds + 1) = ap (λ n. m * n) (omega arith) in
    let sum : length gc.kinds + 6 ≡ (length gc.kinds + 1) + 5 = omega arith in
    let split : m * (length gc.kinds + 6) ≡ m * (length gc.kinds + 1) + m * 5 =
    ap (λ n. m * n) sum ∙ mul-add m (length gc.kinds + 1) 5 in
    let five : m * 1 + m * 1 + m * 1 + m * 1 + m * 1 ≡ m * 5 = omega arith in
    omega arith

none_made : (m k n : ℕ) (es : List Made) → es ≡ [] → length es ≤ 6 + m * k + n
none_made m k n es none = rw none (omega arith)

pub gc_bound : GcBound
gc_bound list c host es gc sound run = elim (early_or list c gc) [
  | inl collected ↦ bound_collected (gc_of list c) host es sound (trail list c host es gc collected run)
  | inr early ↦
      none_made (length (stale_owners c.network c.valid (all_tags host))) (length (kinds_of list) + 6)
      (objects_by (goes c.network c.valid) host) es (early_makes_none list c host es early run)
]
