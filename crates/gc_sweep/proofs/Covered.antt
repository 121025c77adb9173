-- What is left of a kind is still to be swept, or was blamed.
use Rattle.gc_sweep.proofs.Names.{◌≡◌, ℕ, Bool, true, false, not, List, [], ◌∷◌, ◌++◌, Some, refl, sym, ◌∙◌, subst}
use Rattle.gc_sweep.proofs.Names.{arith, map, same_Some, none-some, list_any, list_all, ◌&&◌, ◌||◌, apply, tags_of}
use Rattle.gc_sweep.proofs.Names.{IsSound, is_own, Call, OwnersOf, Kind, Links, Rules, Settings, Leases, Cached, Reply}
use Rattle.gc_sweep.proofs.Names.{Gone, Fault, Att, Host, Tag, list_all-weaker, list_any-map, list_all-map, by_bool}
use Rattle.gc_sweep.proofs.Names.{list_all-both, ValidAtt, host_after, reply_to, call_of_work, Gc, Step, AskCached}
use Rattle.gc_sweep.proofs.Names.{Delete, Sweep, Job, step_call, job_of, after_step, work_after, deletion}
use Rattle.gc_sweep.proofs.Names.{list_all-none}
use Rattle.cni_addr.proofs.Lists.{list_all-always}
use Rattle.kernel_types.specs.{Codes.kind_eq, declared.call.Call.TheVariants.CacheGet}
use Rattle.cni_verbs.specs.Sweep.{all_sweeps}
use Rattle.gc_sweep.specs.{Bound.stale_owners, Keep.{stays, goes}, Sweep.is_excused, Trace.{Made, is_about, blames}}
use Rattle.gc_sweep.specs.Trace.{is_blamed}
use Rattle.gc_sweep.proofs.{Deletions.deletes, Kept.{Stays, stays_start, stays_deleted, tags_within}}
use Rattle.gc_sweep.proofs.{Lists.{list_all-drops, list_any-snoc}, Owners.{is_stale, owners_cover, owners_stale}}
use Rattle.gc_sweep.proofs.Owners.{has_att}

-- ---- the sweeps and jobs that are still to come to a kind

abbrev pub asks : Kind → List Sweep → Bool
asks kind ss = list_any (λ (s : Sweep). kind_eq s.kind kind) ss

-- nothing but this kind's deletion is left
abbrev pub is_sole : Kind → Step → List Step → Bool
is_sole kind (Delete k) [] = kind_eq k kind
is_sole kind (Delete k) (s ∷ more) = false
is_sole kind AskCached more = false

abbrev pub does : Kind → Tag → Job → Bool
does kind t j = is_own j.att t && is_sole kind j.step j.more

abbrev pub has_job : Kind → Tag → List Job → Bool
has_job kind t js = list_any (does kind t) js

abbrev pub is_covered : Gc → List Made → List Job → List Sweep → Kind → Tag → Bool
is_covered gc es js ss kind t = is_excused gc.network gc.valid es kind t || (asks kind ss || has_job kind t js)

-- each sweep deletes its own kind alone, or a later one does
abbrev pub are_well : List Sweep → Bool
are_well [] = true
are_well (s ∷ ss) = (asks s.kind ss || is_sole s.kind s.step s.more) && are_well ss

-- ---- one more entry

or_step : (x b b' c c' d : Bool) → b' ≡ (b || d) → (c ≡ true → (c' || d) ≡ true) → ((x || b) || c) ≡ true
    → ((x || b') || c') ≡ true
or_step true b b' c c' d e w h = refl
or_step false true b' c c' d e w h = rw e refl
or_step false false b' c c' d e w h = let y = w h in rw e (grind (arith, y))

carry : (gc : Gc) (es : List Made) (e : Made) (js js' : List Job) (ss ss' : List Sweep) (kind : Kind) (t : Tag)
    → ((asks kind ss || has_job kind t js) ≡ true → ((asks kind ss' || has_job kind t js') || blames kind t e) ≡ true)
    → is_covered gc es js ss kind t ≡ true → is_covered gc (es ++ e ∷ []) js' ss' kind t ≡ true
carry gc es e js js' ss ss' kind t w h =
    or_step (stays gc.network gc.valid t) (is_blamed es kind t) (is_blamed (es ++ e ∷ []) kind t)
    (asks kind ss || has_job kind t js) (asks kind ss' || has_job kind t js') (blames kind t e)
    (list_any-snoc (blames kind t) es e) w h

carry_all : (gc : Gc) (es : List Made) (e : Made) (js js' : List Job) (ss ss' : List Sweep)
    (kind : Kind) (ts : List Tag)
    → ((t : Tag) → (asks kind ss || has_job kind t js) ≡ true
    → ((asks kind ss' || has_job kind t js') || blames kind t e) ≡ true)
    → list_all (is_covered gc es js ss kind) ts ≡ true → list_all (is_covered gc (es ++ e ∷ []) js' ss' kind) ts ≡ true
carry_all gc es e js js' ss ss' kind ts w h =
    list_all-weaker (is_covered gc es js ss kind) (is_covered gc (es ++ e ∷ []) js' ss' kind)
    (λ t. carry gc es e js js' ss ss' kind t (w t)) ts h

-- ---- kinds

pub kind_same : (a b : Kind) → kind_eq a b ≡ true → a ≡ b
kind_same Links Links h = refl
kind_same Links Rules h = cc
kind_same Links Settings h = cc
kind_same Links Leases h = cc
kind_same Links Cached h = cc
kind_same Rules Links h = cc
kind_same Rules Rules h = refl
kind_same Rules Settings h = cc
kind_same Rules Leases h = cc
kind_same Rules Cached h = cc
kind_same Settings Links h = cc
kind_same Settings Rules h = cc
kind_same Settings Settings h = refl
kind_same Settings Leases h = cc
kind_same Settings Cached h = cc
kind_same Leases Links h = cc
kind_same Leases Rules h = cc
kind_same Leases Settings h = cc
kind_same Leases Leases h = refl
kind_same Leases Cached h = cc
kind_same Cached Links h = cc
kind_same Cached Rules h = cc
kind_same Cached Settings h = cc
kind_same Cached Leases h = cc
kind_same Cached Cached h = refl

about_deletion : (kind : Kind) (t : Tag) (a : Att) (k : Kind)
    → is_about kind t (deletion a k) ≡ (kind_eq k kind && is_own a t)
about_deletion kind t a Links = refl
about_deletion kind t a Rules = refl
about_deletion kind t a Settings = refl
about_deletion kind t a Leases = refl
about_deletion kind t a Cached = refl

-- ---- the work, the host and the entries so far

pub record WorkKept (gc : Gc) (h : Host) (es : List Made) (js : List Job) (ss : List Sweep) (k : Host) : Type 0 where
  pub stays : Stays gc h k
  pub covered : (kind : Kind) → list_all (is_covered gc es js ss kind) (tags_of k kind) ≡ true
  pub stale : list_all (λ (j : Job). is_stale gc.network gc.valid j.att) js ≡ true
  pub well : are_well ss ≡ true

-- after a call with this reply
abbrev pub Next : Gc → Host → List Made → List Job → List Sweep → Host → Call → Reply → Type 0
Next gc h es js ss k call r =
    WorkKept gc h (es ++ record { call = call; reply = r } ∷ []) (work_after gc js ss r).jobs
    (work_after gc js ss r).sweeps (host_after k call r)

-- ---- asking for owners

ask_fault : (gc : Gc) (h : Host) (es : List Made) (s : Sweep) (ss : List Sweep) (k : Host)
    → WorkKept gc h es [] (s ∷ ss) k → Next gc h es [] (s ∷ ss) k (OwnersOf gc.network s.kind) Fault
ask_fault gc h es s ss k v = record {
  stays = v.stays;
  covered = λ kind.
      carry_all gc es (record { call = OwnersOf gc.network s.kind; reply = Fault }) [] [] (s ∷ ss) ss kind
      (tags_of k kind) (λ t w. grind (arith, w)) (v.covered kind);
  stale = refl;
  well = let w = v.well in grind (arith, w);
}

sole_all : (kind : Kind) (t : Tag) (s : Sweep) (xs : List Att) → is_sole kind s.step s.more ≡ true
    → list_any (λ a. does kind t (job_of s a)) xs ≡ has_att xs t
sole_all kind t s [] h = refl
sole_all kind t s (x ∷ xs) h = grind (arith, h, sole_all kind t s xs h)

-- the owners of a kind that is deleted alone
cover_owners : (gc : Gc) (es : List Made) (e : Made) (s : Sweep) (ss : List Sweep) (k : Host)
    → is_sole s.kind s.step s.more ≡ true
    → list_all
    (is_covered gc (es ++ e ∷ []) (map (job_of s) (stale_owners gc.network gc.valid (tags_of k s.kind))) ss s.kind)
    (tags_of k s.kind)
    ≡ true
cover_owners gc es e s ss k sole =
    let owners = stale_owners gc.network gc.valid (tags_of k s.kind) in
    list_all-weaker (λ t. not (goes gc.network gc.valid t) || has_att owners t)
    (is_covered gc (es ++ e ∷ []) (map (job_of s) owners) ss s.kind)
    (λ t w.
    let j : has_job s.kind t (map (job_of s) owners) ≡ has_att owners t =
    list_any-map (does s.kind t) (job_of s) owners ∙ sole_all s.kind t s owners sole in
    grind (arith, w, j))
    (tags_of k s.kind) (owners_cover gc.network gc.valid (tags_of k s.kind))

ask_covered : (gc : Gc) (h : Host) (es : List Made) (e : Made) (s : Sweep) (ss : List Sweep) (k : Host)
    → WorkKept gc h es [] (s ∷ ss) k → (kind : Kind)
    → list_all
    (is_covered gc (es ++ e ∷ []) (map (job_of s) (stale_owners gc.network gc.valid (tags_of k s.kind))) ss kind)
    (tags_of k kind)
    ≡ true
ask_covered gc h es e s ss k v kind =
    let js = map (job_of s) (stale_owners gc.network gc.valid (tags_of k s.kind)) in
    by_bool (kind_eq s.kind kind)
    (λ same. let is : s.kind ≡ kind = kind_same s.kind kind same in
    let P : Kind → Type 0 = λ x. list_all (is_covered gc (es ++ e ∷ []) js ss x) (tags_of k x) ≡ true in
    subst P is (by_bool (asks s.kind ss)
    (λ later.
    carry_all gc es e [] js (s ∷ ss) ss s.kind (tags_of k s.kind) (λ t w. grind (arith, later)) (v.covered s.kind))
    (λ never. let w = v.well in cover_owners gc es e s ss k (grind (arith, w, never)))))
    (λ other.
    carry_all gc es e [] js (s ∷ ss) ss kind (tags_of k kind) (λ t w. grind (arith, w, other)) (v.covered kind))

ask_owners : (gc : Gc) (h : Host) (es : List Made) (s : Sweep) (ss : List Sweep) (k : Host)
    → WorkKept gc h es [] (s ∷ ss) k
    → Next gc h es [] (s ∷ ss) k (OwnersOf gc.network s.kind) (apply k (OwnersOf gc.network s.kind)).1
ask_owners gc h es s ss k v = record {
  stays = v.stays;
  covered =
      ask_covered gc h es
      (record { call = OwnersOf gc.network s.kind; reply = (apply k (OwnersOf gc.network s.kind)).1 }) s ss k v;
  stale =
      list_all-map (λ (j : Job). is_stale gc.network gc.valid j.att) (job_of s)
      (stale_owners gc.network gc.valid (tags_of k s.kind))
      ∙ owners_stale gc.network gc.valid (tags_of k s.kind);
  well = let w = v.well in grind (arith, w);
}

-- ---- the steps of an owner

-- what follows a step still does what was to be done beside it
done_more : (kind : Kind) (t : Tag) (att : Att) (more : List Step) (js : List Job) → has_job kind t js ≡ true
    → has_job kind t (after_step att more js) ≡ true
done_more kind t att [] js h = h
done_more kind t att (s ∷ more) js h = grind (arith, h)

pub done_stale : (network : List ℕ) (valid : List ValidAtt) (att : Att) (more : List Step) (js : List Job)
    → is_stale network valid att ≡ true → list_all (λ (j : Job). is_stale network valid j.att) js ≡ true
    → list_all (λ (j : Job). is_stale network valid j.att) (after_step att more js) ≡ true
done_stale network valid att [] js h g = g
done_stale network valid att (s ∷ more) js h g = grind (arith, h, g)

abbrev job : Att → Step → List Step → Job
job att step more = record { att = att; step = step; more = more }

look_fault : (gc : Gc) (h : Host) (es : List Made) (att : Att) (more : List Step) (js : List Job)
    (ss : List Sweep) (k : Host)
    → WorkKept gc h es (job att AskCached more ∷ js) ss k
    → Next gc h es (job att AskCached more ∷ js) ss k (CacheGet att) Fault
look_fault gc h es att more js ss k v = record {
  stays = v.stays;
  covered = λ kind.
      carry_all gc es (record { call = CacheGet att; reply = Fault }) (job att AskCached more ∷ js) js ss ss kind
      (tags_of k kind) (λ t w. grind (arith, w)) (v.covered kind);
  stale = let w = v.stale in grind (arith, w);
  well = v.well;
}

look_entry : (gc : Gc) (h : Host) (es : List Made) (att : Att) (more : List Step) (js : List Job)
    (ss : List Sweep) (k : Host)
    → WorkKept gc h es (job att AskCached more ∷ js) ss k
    → Next gc h es (job att AskCached more ∷ js) ss k (CacheGet att) (apply k (CacheGet att)).1
look_entry gc h es att more js ss k v = record {
  stays = v.stays;
  covered = λ kind.
      carry_all gc es (record { call = CacheGet att; reply = (apply k (CacheGet att)).1 }) (job att AskCached more ∷ js)
      (after_step att more js) ss ss kind (tags_of k kind) (λ t w. grind (arith, w, done_more kind t att more js))
      (v.covered kind);
  stale = let w = v.stale in done_stale gc.network gc.valid att more js (grind (arith, w)) (grind (arith, w));
  well = v.well;
}

sole_drop : (kind : Kind) (d : Kind) (more : List Step) → is_sole kind (Delete d) more ≡ true → kind_eq d kind ≡ true
sole_drop kind d [] h = h
sole_drop kind d (s ∷ more) h = cc

drop_fault : (gc : Gc) (h : Host) (es : List Made) (att : Att) (d : Kind) (more : List Step) (js : List Job)
    (ss : List Sweep) (k : Host)
    → WorkKept gc h es (job att (Delete d) more ∷ js) ss k
    → Next gc h es (job att (Delete d) more ∷ js) ss k (deletion att d) Fault
drop_fault gc h es att d more js ss k v = record {
  stays = v.stays;
  covered = λ kind.
      carry_all gc es (record { call = deletion att d; reply = Fault }) (job att (Delete d) more ∷ js) js ss ss
      kind (tags_of k kind)
      (λ t w. grind (arith, w, sole_drop kind d more, about_deletion kind t att d)) (v.covered kind);
  stale = let w = v.stale in grind (arith, w);
  well = v.well;
}

drop_gone : (gc : Gc) (h : Host) (es : List Made) (att : Att) (d : Kind) (more : List Step) (js : List Job)
    (ss : List Sweep) (k : Host)
    → WorkKept gc h es (job att (Delete d) more ∷ js) ss k
    → Next gc h es (job att (Delete d) more ∷ js) ss k (deletion att d) (Gone true)
drop_gone gc h es att d more js ss k v =
    let k' = (apply k (deletion att d)).0 in
    let w = v.stale in
    let del = deletes att d k v.stays.sound in
    record {
      stays = stays_deleted gc att d h k (grind (arith, w)) v.stays;
      covered = λ kind.
          carry_all gc es (record { call = deletion att d; reply = Gone true }) (job att (Delete d) more ∷ js)
          (job att (Delete d) more ∷ js) ss ss kind (tags_of k' kind) (λ t w. grind (arith, w))
          (list_all-drops (is_covered gc es (job att (Delete d) more ∷ js) ss kind) (λ t. true) (tags_of k kind)
          (tags_of k' kind) (tags_within k' k kind del.within) (v.covered kind));
      stale = v.stale;
      well = v.well;
    }

empty_covered : (gc : Gc) (es : List Made) (e : Made) (att : Att) (d : Kind) (more : List Step) (js : List Job)
    (ss : List Sweep) (k : Host)
    → list_any (is_own att) (tags_of k d) ≡ false → (kind : Kind)
    → list_all (is_covered gc es (job att (Delete d) more ∷ js) ss kind) (tags_of k kind) ≡ true
    → list_all (is_covered gc (es ++ e ∷ []) (after_step att more js) ss kind) (tags_of k kind) ≡ true
empty_covered gc es e att d more js ss k none kind c =
    by_bool (kind_eq d kind)
    (λ same. let is : d ≡ kind = kind_same d kind same in
    list_all-both (λ t. not (is_own att t)) (is_covered gc es (job att (Delete d) more ∷ js) ss kind)
    (is_covered gc (es ++ e ∷ []) (after_step att more js) ss kind)
    (λ t free cov.
    carry gc es e (job att (Delete d) more ∷ js) (after_step att more js) ss ss kind t
    (λ w. grind (arith, w, free, done_more kind t att more js)) cov)
    (tags_of k kind)
    (list_all-none (is_own att) (tags_of k kind) (subst (λ x. list_any (is_own att) (tags_of k x) ≡ false) is none))
    c)
    (λ other. carry_all gc es e (job att (Delete d) more ∷ js) (after_step att more js) ss ss kind (tags_of k kind)
    (λ t w. grind (arith, w, other, sole_drop kind d more, done_more kind t att more js)) c)

drop_empty : (gc : Gc) (h : Host) (es : List Made) (att : Att) (d : Kind) (more : List Step) (js : List Job)
    (ss : List Sweep) (k : Host)
    → WorkKept gc h es (job att (Delete d) more ∷ js) ss k
    → list_any (is_own att) (tags_of k d) ≡ false
    → Next gc h es (job att (Delete d) more ∷ js) ss k (deletion att d) (Gone false)
drop_empty gc h es att d more js ss k v none =
    let w = v.stale in
    let e : Made = record { call = deletion att d; reply = Gone false } in
    let del = deletes att d k v.stays.sound in
    let P : Host → Type 0 = λ x. WorkKept gc h (es ++ e ∷ []) (after_step att more js) ss x in
    subst P (sym (del.none none)) (record {
      stays = v.stays;
      covered = λ kind. empty_covered gc es e att d more js ss k none kind (v.covered kind);
      stale = done_stale gc.network gc.valid att more js (grind (arith, w)) (grind (arith, w));
      well = v.well;
    })

drop_by : (gc : Gc) (h : Host) (es : List Made) (att : Att) (d : Kind) (more : List Step) (js : List Job)
    (ss : List Sweep) (k : Host)
    → WorkKept gc h es (job att (Delete d) more ∷ js) ss k
    → (b : Bool) → list_any (is_own att) (tags_of k d) ≡ b
    → Next gc h es (job att (Delete d) more ∷ js) ss k (deletion att d) (Gone b)
drop_by gc h es att d more js ss k v true is = drop_gone gc h es att d more js ss k v
drop_by gc h es att d more js ss k v false is = drop_empty gc h es att d more js ss k v is

step_by : (gc : Gc) (h : Host) (es : List Made) (att : Att) (step : Step) (more : List Step) (js : List Job)
    (ss : List Sweep) (k : Host) (faulty : Bool)
    → WorkKept gc h es (job att step more ∷ js) ss k
    → Next gc h es (job att step more ∷ js) ss k (step_call att step) (reply_to k (step_call att step) faulty)
step_by gc h es att AskCached more js ss k true v = look_fault gc h es att more js ss k v
step_by gc h es att AskCached more js ss k false v = look_entry gc h es att more js ss k v
step_by gc h es att (Delete d) more js ss k true v = drop_fault gc h es att d more js ss k v
step_by gc h es att (Delete d) more js ss k false v =
    let P : Reply → Type 0 = λ r. Next gc h es (job att (Delete d) more ∷ js) ss k (deletion att d) r in
    subst P (sym (deletes att d k v.stays.sound).reply)
    (drop_by gc h es att d more js ss k v (list_any (is_own att) (tags_of k d)) refl)

-- ---- any call

pub work_step : (gc : Gc) (h : Host) (es : List Made) (js : List Job) (ss : List Sweep) (k : Host)
    (call : Call) (faulty : Bool)
    → call_of_work gc.network js ss ≡ Some call → WorkKept gc h es js ss k
    → Next gc h es js ss k call (reply_to k call faulty)
work_step gc h es [] [] k call faulty is v = absurd (none-some call is)
work_step gc h es [] (s ∷ ss) k call true is v =
    let P : Call → Type 0 = λ c. Next gc h es [] (s ∷ ss) k c Fault in
    subst P (same_Some (OwnersOf gc.network s.kind) call is) (ask_fault gc h es s ss k v)
work_step gc h es [] (s ∷ ss) k call false is v =
    let P : Call → Type 0 = λ c. Next gc h es [] (s ∷ ss) k c (apply k c).1 in
    subst P (same_Some (OwnersOf gc.network s.kind) call is) (ask_owners gc h es s ss k v)
work_step gc h es (j ∷ js) ss k call faulty is v =
    let P : Call → Type 0 = λ c. Next gc h es (j ∷ js) ss k c (reply_to k c faulty) in
    subst P (same_Some (step_call j.att j.step) call is) (step_by gc h es j.att j.step j.more js ss k faulty v)

asked : (gc : Gc) (t : Tag) (kind : Kind) → is_covered gc [] [] (all_sweeps gc.kinds) kind t ≡ true
asked gc t Links = grind arith
asked gc t Rules = grind arith
asked gc t Settings = grind arith
asked gc t Leases = grind arith
asked gc t Cached = grind arith

covered_start : (gc : Gc) (h : Host) (kind : Kind)
    → list_all (is_covered gc [] [] (all_sweeps gc.kinds) kind) (tags_of h kind) ≡ true
covered_start gc h kind =
    list_all-always (is_covered gc [] [] (all_sweeps gc.kinds) kind) (λ t. asked gc t kind) (tags_of h kind)

pub work_start : (gc : Gc) (h : Host) → IsSound h → WorkKept gc h [] [] (all_sweeps gc.kinds) h
work_start gc h sound =
    record { stays = stays_start gc h sound; covered = covered_start gc h; stale = refl; well = refl }
