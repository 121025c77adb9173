-- What a GC leaves.
use Rattle.gc_sweep.proofs.Names.{◌≡◌, ℕ, ◌+◌, Bool, true, false, ap, List, [], ◌∷◌, ◌++◌, refl, sym, ◌∙◌, subst, inl}
use Rattle.gc_sweep.proofs.Names.{inr, arith, list_any, list_all, filter, tags_of, is_fault, IsSound, is_own, Kind}
use Rattle.gc_sweep.proofs.Names.{Links, Rules, Settings, Leases, Cached, Reply, AddrObj, Host, Link, NsObj, Tag}
use Rattle.gc_sweep.proofs.Names.{Outside, Base, Own, att_eq-refl, is_own-one, list_all-weaker, list_all-map}
use Rattle.gc_sweep.proofs.Names.{is_own-tag_eq, NetList, Command, is_gc, gc_of, faults_after, swept, Gc, Job, Sweep}
use Rattle.gc_sweep.proofs.Names.{Yes}
use Rattle.std.proofs.lemmas.{Bool.and_parts, List.{append_assoc, append-nil}}
use Rattle.std.specs.Prelude.{if◌then◌else◌}
use Rattle.cni_addr.proofs.Lists.{filter-all}
use Rattle.kernel_types.specs.{Equal.tag_eq, Sound.address_fits_tag, Terms.{is_at, is_link_of}}
use Rattle.kernel_types.proofs.TouchRemoval.{from_one}
use Rattle.gc_sweep.specs.{Keep.{stays, keep, IsWithin}, Sweep.{IsCollected, is_excused, AreExcused, Bounds, YesKeeps}}
use Rattle.gc_sweep.specs.{Sweep.{AlwaysBounded, OverExcused, fault_numbers, FaultsNamed}, Trace.{Made, host_on}}
use Rattle.gc_sweep.specs.Trace.{host_from, is_blamed, Ends, IsRun}
use Rattle.gc_sweep.proofs.{Covered.{WorkKept, Next, is_covered, work_step, work_start}, Kept.{Stays, stays_start}}
use Rattle.gc_sweep.proofs.{Kept.host_of_parts, Lists.drops-filter, Machine.{Point, start_point, point_after}}
use Rattle.gc_sweep.proofs.{Machine.{point_from, IsTrail}, Runs.{trail, done, early_or, early_makes_none}}
use Rattle.gc_sweep.proofs.Runs.{early_not_yes}

-- ---- a whole run

pub run_kept : (gc : Gc) (h : Host) (es : List Made) (s : Point) (k : Host) (rest : List Made)
    → WorkKept gc h es s.work.jobs s.work.sweeps k → IsTrail gc s k rest
    → WorkKept gc h (es ++ rest) (point_from gc s rest).work.jobs (point_from gc s rest).work.sweeps (host_from k rest)
run_kept gc h es s k [] v run = subst (λ l. WorkKept gc h l s.work.jobs s.work.sweeps k) (sym (append-nil es)) v
run_kept gc h es s k (e ∷ rest) v run =
    let P : Reply → Type 0 = λ r. Next gc h es s.work.jobs s.work.sweeps k e.call r in
    let next : Next gc h es s.work.jobs s.work.sweeps k e.call e.reply =
    subst P (sym run.1.1) (work_step gc h es s.work.jobs s.work.sweeps k e.call run.1.0 run.0 v) in
    let t = point_after gc s e.reply in
    subst (λ l.
    WorkKept gc h l (point_from gc t rest).work.jobs (point_from gc t rest).work.sweeps
    (host_from (host_on k e) rest))
    (append_assoc es (e ∷ []) rest)
    (run_kept gc h (es ++ e ∷ []) t (host_on k e) rest next run.2)

pub run_from_start : (gc : Gc) (h : Host) (es : List Made) → IsSound h → IsTrail gc (start_point gc) h es
    → WorkKept gc h es (point_from gc (start_point gc) es).work.jobs
    (point_from gc (start_point gc) es).work.sweeps (host_from h es)
run_from_start gc h es sound run = run_kept gc h [] (start_point gc) h es (work_start gc h sound) run

-- ---- faults

snoc_some : (xs : List ℕ) (x : ℕ) → xs ++ x ∷ [] ≡ [] → ⊥
snoc_some [] x e = cc
snoc_some (y ∷ ys) x e = cc

not_noted : (number : ℕ) (faults : List ℕ) (b : Bool) → faults_after number faults b ≡ [] → (faults ≡ []) × (b ≡ false)
not_noted number faults true e = absurd (snoc_some faults number e)
not_noted number faults false e = (e, refl)

pub run_clean : (gc : Gc) (s : Point) (es : List Made) → (point_from gc s es).faults ≡ []
    → (s.faults ≡ []) × (list_any (λ (e : Made). is_fault e.reply) es ≡ false)
run_clean gc s [] h = (h, refl)
run_clean gc s (e ∷ es) h =
    let later = run_clean gc (point_after gc s e.reply) es h in
    let here = not_noted (s.made + 1) s.faults (is_fault e.reply) later.0 in
    let a = here.1 in
    let b = later.1 in
    (here.0, grind (arith, a, b))

clean_blames : (kind : Kind) (t : Tag) (es : List Made) → list_any (λ (e : Made). is_fault e.reply) es ≡ false
    → is_blamed es kind t ≡ false
clean_blames kind t [] h = refl
clean_blames kind t (e ∷ es) h = grind (arith, h, clean_blames kind t es)

-- ---- at the end

pub yes_clean : (faults : List ℕ) → swept faults ≡ Yes → faults ≡ []
yes_clean [] h = refl
yes_clean (k ∷ ks) h = cc

pub excused_kind : (gc : Gc) (h : Host) (es : List Made) (js : List Job) (ss : List Sweep) (k : Host)
    → WorkKept gc h es js ss k → js ≡ [] → ss ≡ [] → (kind : Kind)
    → list_all (is_excused gc.network gc.valid es kind) (tags_of k kind) ≡ true
excused_kind gc h es js ss k v none last kind =
    let c : list_all (is_covered gc es [] [] kind) (tags_of k kind) ≡ true = rw (none, last) at (v.covered kind) in
    list_all-weaker (is_covered gc es [] [] kind) (is_excused gc.network gc.valid es kind) (λ t w. grind (arith, w))
    (tags_of k kind) c

-- what lies on a link is excused where the link is
on_link : (gc : Gc) (es : List Made) (t u : Tag) → tag_eq u t ≡ true → is_excused gc.network gc.valid es Links u ≡ true
    → is_excused gc.network gc.valid es Links t ≡ true
on_link gc es Outside u h g = refl
on_link gc es Base u h g = refl
on_link gc es (Own a) u h g =
    let own : is_own a u ≡ true = is_own-tag_eq a u (Own a) h ∙ att_eq-refl a in
    subst (λ x. is_excused gc.network gc.valid es Links x ≡ true) (is_own-one a u own) g

link_excused : (gc : Gc) (es : List Made) (links : List Link) (ns name : List ℕ) (t : Tag)
    → list_all (λ (l : Link). is_excused gc.network gc.valid es Links l.tag) links ≡ true
    → list_any (is_link_of ns name t) links ≡ true → is_excused gc.network gc.valid es Links t ≡ true
link_excused gc es links ns name t all h =
    from_one (is_link_of ns name t) (λ l. is_excused gc.network gc.valid es Links l.tag)
    (is_excused gc.network gc.valid es Links t)
    (λ l p q. on_link gc es t l.tag (and_parts (is_at ns name l) (tag_eq l.tag t) p).1 q) links h all

address_excused : (gc : Gc) (es : List Made) (links : List Link)
    → list_all (λ (l : Link). is_excused gc.network gc.valid es Links l.tag) links ≡ true → (a : AddrObj) (t : Tag)
    → address_fits_tag links a t ≡ true → is_excused gc.network gc.valid es Links t ≡ true
address_excused gc es links all a Outside h = refl
address_excused gc es links all a Base h = refl
address_excused gc es links all a (Own b) h = link_excused gc es links a.ns a.link (Own b) all h

pub excused_all : (gc : Gc) (es : List Made) (k : Host) → IsSound k
    → ((kind : Kind) → list_all (is_excused gc.network gc.valid es kind) (tags_of k kind) ≡ true)
    → AreExcused gc.network gc.valid es k
excused_all gc es k sound all =
    let links : list_all (λ (l : Link). is_excused gc.network gc.valid es Links l.tag) k.links ≡ true =
    sym (list_all-map (is_excused gc.network gc.valid es Links) (λ (l : Link). l.tag) k.links) ∙ all Links in
    record {
      of_kind = all;
      addresses =
          list_all-weaker (λ a. address_fits_tag k.links a a.tag)
          (λ a. is_excused gc.network gc.valid es Links a.tag)
          (λ a w. address_excused gc es k.links links a a.tag w) k.addresses sound.addresses.on_links;
      routes =
          list_all-weaker (λ r. list_any (is_link_of r.ns r.link r.tag) k.links)
          (λ r. is_excused gc.network gc.valid es Links r.tag)
          (λ r w. link_excused gc es k.links r.ns r.link r.tag links w) k.routes sound.routes.on_links;
    }

pub over_excused : OverExcused
over_excused list c host es ending gc collected sound run ends =
    let g = gc_of list c in
    let p = point_from g (start_point g) es in
    let v = run_from_start g host es sound (trail list c host es gc collected run) in
    let o = done list c es ending gc collected ends in
    excused_all g es (host_from host es) v.stays.sound
    (excused_kind g host es p.work.jobs p.work.sweeps (host_from host es) v o.jobs o.sweeps)

-- ---- between what is kept and what was

outside_stays : (gc : Gc) (t : Tag) → tag_eq t Outside ≡ true → stays gc.network gc.valid t ≡ true
outside_stays gc Outside h = refl
outside_stays gc Base h = cc
outside_stays gc (Own a) h = cc

pub namespaces_stay : (gc : Gc) (k : Host) → IsSound k
    → filter (λ (n : NsObj). stays gc.network gc.valid n.tag) k.namespaces ≡ k.namespaces
namespaces_stay gc k sound =
    filter-all (λ (n : NsObj). stays gc.network gc.valid n.tag) k.namespaces
    (list_all-weaker (λ n. tag_eq n.tag Outside) (λ n. stays gc.network gc.valid n.tag)
    (λ n w. outside_stays gc n.tag w) k.namespaces sound.namespaces.tags)

pub keep_within : (gc : Gc) (k : Host) → IsSound k → IsWithin (keep gc.network gc.valid k) k
keep_within gc k sound = record {
  namespaces = namespaces_stay gc k sound;
  removes = record {
    links = drops-filter (λ x. stays gc.network gc.valid x.tag) k.links;
    addresses = drops-filter (λ x. stays gc.network gc.valid x.tag) k.addresses;
    routes = drops-filter (λ x. stays gc.network gc.valid x.tag) k.routes;
    rules = drops-filter (λ x. stays gc.network gc.valid x.tag) k.rules;
    settings = drops-filter (λ x. stays gc.network gc.valid x.tag) k.settings;
    leases = drops-filter (λ x. stays gc.network gc.valid x.tag) k.leases;
    cached = drops-filter (λ x. stays gc.network gc.valid x.tag) k.cached;
  };
  lasts = refl;
}

bounded : (gc : Gc) (c : Command) (h k : Host) → gc.network ≡ c.network → gc.valid ≡ c.valid → Stays gc h k
    → Bounds c h k
bounded gc c h k network valid s = record {
  lower =
      subst (λ x. IsWithin x k) (s.kept ∙ ap (λ n. keep n gc.valid h) network ∙ ap (λ v. keep c.network v h) valid)
      (keep_within gc k s.sound);
  upper = s.within;
}

bounded_early : (list : NetList) (c : Command) (host : Host) (es : List Made) → IsSound host → es ≡ []
    → Bounds c host (host_from host es)
bounded_early list c host es sound none =
    subst (λ l. Bounds c host (host_from host l)) (sym none)
    (bounded (gc_of list c) c host host refl refl (stays_start (gc_of list c) host sound))

pub always_bounded : AlwaysBounded
always_bounded list c host es gc sound run = elim (early_or list c gc) [
  | inl collected ↦
      bounded (gc_of list c) c host (host_from host es) refl refl
      (run_from_start (gc_of list c) host es sound (trail list c host es gc collected run)).stays
  | inr early ↦ bounded_early list c host es sound (early_makes_none list c host es early run)
]

-- ---- Yes

excused_stays : (gc : Gc) (es : List Made) (kind : Kind) (t : Tag) → is_blamed es kind t ≡ false
    → is_excused gc.network gc.valid es kind t ≡ true → stays gc.network gc.valid t ≡ true
excused_stays gc es kind t b e = grind (arith, b, e)

pub keep_all : (gc : Gc) (es : List Made) (k : Host) → IsSound k → list_any (λ (e : Made). is_fault e.reply) es ≡ false
    → AreExcused gc.network gc.valid es k → keep gc.network gc.valid k ≡ k
keep_all gc es k sound clean x =
    let w = λ (kind : Kind) (t : Tag). excused_stays gc es kind t (clean_blames kind t es clean) in
    let by = λ (kind : Kind).
    list_all-weaker (is_excused gc.network gc.valid es kind) (stays gc.network gc.valid) (w kind) (tags_of k kind)
    (x.of_kind kind) in
    host_of_parts (keep gc.network gc.valid k) k
    (namespaces_stay gc k sound)
    (filter-all (λ l. stays gc.network gc.valid l.tag) k.links
    (sym (list_all-map (stays gc.network gc.valid) (λ l. l.tag) k.links) ∙ by Links))
    (filter-all (λ a. stays gc.network gc.valid a.tag) k.addresses
    (list_all-weaker (λ a. is_excused gc.network gc.valid es Links a.tag) (λ a. stays gc.network gc.valid a.tag)
    (λ a. w Links a.tag) k.addresses x.addresses))
    (filter-all (λ a. stays gc.network gc.valid a.tag) k.routes
    (list_all-weaker (λ a. is_excused gc.network gc.valid es Links a.tag) (λ a. stays gc.network gc.valid a.tag)
    (λ a. w Links a.tag) k.routes x.routes))
    (filter-all (λ l. stays gc.network gc.valid l.tag) k.rules
    (sym (list_all-map (stays gc.network gc.valid) (λ l. l.tag) k.rules) ∙ by Rules))
    (filter-all (λ l. stays gc.network gc.valid l.tag) k.settings
    (sym (list_all-map (stays gc.network gc.valid) (λ l. l.tag) k.settings) ∙ by Settings))
    (filter-all (λ l. stays gc.network gc.valid l.tag) k.leases
    (sym (list_all-map (stays gc.network gc.valid) (λ l. l.tag) k.leases) ∙ by Leases))
    (filter-all (λ l. stays gc.network gc.valid l.tag) k.cached
    (sym (list_all-map (stays gc.network gc.valid) (λ l. l.tag) k.cached) ∙ by Cached))
    refl

yes_keeps_collected : (list : NetList) (c : Command) (host : Host) (es : List Made) → is_gc c.verb ≡ true
    → IsCollected list → IsSound host → IsRun list c host es → Ends list c es Yes
    → host_from host es ≡ keep c.network c.valid host
yes_keeps_collected list c host es gc collected sound run ends =
    let g = gc_of list c in
    let p = point_from g (start_point g) es in
    let v = run_from_start g host es sound (trail list c host es gc collected run) in
    let o = done list c es Yes gc collected ends in
    let clean = (run_clean g (start_point g) es (yes_clean p.faults o.tells)).1 in
    sym (keep_all g es (host_from host es) v.stays.sound clean
    (over_excused list c host es Yes gc collected sound run ends))
    ∙ v.stays.kept

pub yes_keeps : YesKeeps
yes_keeps list c host es gc sound run ends = elim (early_or list c gc) [
  | inl collected ↦ yes_keeps_collected list c host es gc collected sound run ends
  | inr early ↦ absurd (early_not_yes list c es early ends)
]

-- ---- the numbers of faulty calls

pub noted_rest : (number : ℕ) (faults : List ℕ) (b : Bool) (rest : List ℕ)
    → faults_after number faults b ++ rest ≡ faults ++ (if b then number ∷ rest else rest)
noted_rest number faults true rest = append_assoc faults (number ∷ []) rest
noted_rest number faults false rest = refl

faults_are : (gc : Gc) (s : Point) (es : List Made) → (point_from gc s es).faults ≡ s.faults ++ fault_numbers s.made es
faults_are gc s [] = sym (append-nil s.faults)
faults_are gc s (e ∷ es) =
    faults_are gc (point_after gc s e.reply) es
    ∙ noted_rest (s.made + 1) s.faults (is_fault e.reply) (fault_numbers (s.made + 1) es)

pub faults_named : FaultsNamed
faults_named list c es ending gc collected ends =
    let g = gc_of list c in
    let o = done list c es ending gc collected ends in
    sym o.tells ∙ ap swept (faults_are g (start_point g) es)
