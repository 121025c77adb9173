-- The runs of a list and a command, as runs of their work.
use Rattle.gc_sweep.proofs.Names.{◌≡◌, ℕ, ◌+◌, List, [], ◌∷◌, Option, Some, inl, inr, ◌⊎◌, refl, sym, ◌∙◌, ap, subst}
use Rattle.gc_sweep.proofs.Names.{true, same_Some, none-some, is_some, Host, NetList, Command, is_gc, State, Collecting}
use Rattle.gc_sweep.proofs.Names.{Over, start_state, advance, next_call, finish_of, finish_of_work, gc_of, swept}
use Rattle.gc_sweep.proofs.Names.{unless_ended, Gc, Job, Sweep, start_work, Ending, Yes, early_ending-cases}
use Rattle.cni_verbs.specs.Script.{Finish, state_from}
use Rattle.gc_sweep.specs.{Sweep.{IsCollected, is_early}, Trace.{Made, host_on, IsRunFrom, IsRun, Ends, replies}}
use Rattle.gc_sweep.proofs.{Machine.{Point, start_point, point_after, point_from, IsTrail}, Phases.finish_working}
use Rattle.gc_sweep.proofs.Phases.{late, starts}

-- ---- the work of a run

trail_of : (list : NetList) (c : Command) (p : Point) (host : Host) (es : List Made)
    → IsRunFrom list c p.made (Collecting p.work p.faults) host es → IsTrail (gc_of list c) p host es
unfolding next_call advance
trail_of list c p host [] run = tt
trail_of list c p host (e ∷ es) run =
    (run.0, run.1, trail_of list c (point_after (gc_of list c) p e.reply) (host_on host e) es run.2)

state_is : (list : NetList) (c : Command) (p : Point) (es : List Made)
    → state_from list c p.made (Collecting p.work p.faults) (replies es)
    ≡ Collecting (point_from (gc_of list c) p es).work (point_from (gc_of list c) p es).faults
unfolding advance
state_is list c p [] = refl
state_is list c p (e ∷ es) = state_is list c (point_after (gc_of list c) p e.reply) es

-- ---- the start

pub begins : (list : NetList) (c : Command) → is_gc c.verb ≡ true → IsCollected list
    → start_state list c ≡ Collecting (start_work (gc_of list c)) []
begins list c gc collected =
    sym (starts list c gc) ∙ late list.version list.disable_gc (start_work (gc_of list c)) [] collected

pub trail : (list : NetList) (c : Command) (host : Host) (es : List Made) → is_gc c.verb ≡ true → IsCollected list
    → IsRun list c host es → IsTrail (gc_of list c) (start_point (gc_of list c)) host es
trail list c host es gc collected run =
    let P : State → Type 0 = λ s. IsRunFrom list c 0 s host es in
    trail_of list c (start_point (gc_of list c)) host es (subst P (begins list c gc collected) run)

finish_is : (ending : Ending) (faults : List ℕ)
    → ◌≡◌ {A = Option Finish} (Some (record { ending = swept faults; given = [] }))
    (Some (record { ending = ending; given = [] }))
    → swept faults ≡ ending
finish_is ending faults e =
    ap (λ (f : Finish). f.ending)
    (same_Some (record { ending = swept faults; given = [] }) (record { ending = ending; given = [] }) e)

over_work : (jobs : List Job) (sweeps : List Sweep) (faults : List ℕ) (ending : Ending)
    → finish_of_work jobs sweeps faults ≡ Some (record { ending = ending; given = [] })
    → (jobs ≡ []) × (sweeps ≡ []) × (swept faults ≡ ending)
over_work [] [] faults ending h = (refl, refl, finish_is ending faults h)
over_work [] (s ∷ sweeps) faults ending h = absurd (none-some (record { ending = ending; given = [] }) h)
over_work (j ∷ jobs) sweeps faults ending h = absurd (none-some (record { ending = ending; given = [] }) h)

-- where the script is over, no work is left
pub record IsDone (gc : Gc) (es : List Made) (ending : Ending) : Type 0 where
  pub jobs : (point_from gc (start_point gc) es).work.jobs ≡ []
  pub sweeps : (point_from gc (start_point gc) es).work.sweeps ≡ []
  pub tells : swept (point_from gc (start_point gc) es).faults ≡ ending

pub done : (list : NetList) (c : Command) (es : List Made) (ending : Ending) → is_gc c.verb ≡ true → IsCollected list
    → Ends list c es ending → IsDone (gc_of list c) es ending
done list c es ending gc collected ends =
    let p = point_from (gc_of list c) (start_point (gc_of list c)) es in
    let state : state_from list c 0 (start_state list c) (replies es) ≡ Collecting p.work p.faults =
    ap (λ s. state_from list c 0 s (replies es)) (begins list c gc collected)
    ∙ state_is list c (start_point (gc_of list c)) es in
    let o =
    over_work p.work.jobs p.work.sweeps p.faults ending
    (sym (ap finish_of state ∙ finish_working p.work p.faults) ∙ ends) in
    record { jobs = o.0; sweeps = o.1; tells = o.2 }

-- ---- a list that ends a GC before its first call

pub record IsEarly (list : NetList) (c : Command) : Type 0 where
  pub ending : Ending
  pub state : start_state list c ≡ Over ending []
  pub refuses : ending ≡ Yes → ⊥

pub early_or : (list : NetList) (c : Command) → is_gc c.verb ≡ true → IsCollected list ⊎ IsEarly list c
early_or list c gc =
    let P : Option Ending → Type 0 = λ early.
    start_state list c ≡ unless_ended early (Collecting (start_work (gc_of list c)) [])
    → is_early list.version list.disable_gc ≡ is_some early → IsCollected list ⊎ IsEarly list c in
    early_ending-cases list.version list.disable_gc P
    (λ old state early. inr (record { ending = _; state = state; refuses = λ e. cc }))
    (λ new disabled state early. inr (record { ending = _; state = state; refuses = λ e. cc }))
    (λ new enabled state early. inl early)
    (sym (starts list c gc)) refl

over_makes_none : (list : NetList) (c : Command) (ending : Ending) (host : Host) (es : List Made)
    → IsRunFrom list c 0 (Over ending []) host es → es ≡ []
unfolding next_call
over_makes_none list c ending host [] run = refl
over_makes_none list c ending host (e ∷ es) run = absurd (none-some e.call run.0)

-- an early answer comes before any call
pub early_makes_none : (list : NetList) (c : Command) (host : Host) (es : List Made) → IsEarly list c
    → IsRun list c host es → es ≡ []
early_makes_none list c host es early run =
    let P : State → Type 0 = λ s. IsRunFrom list c 0 s host es in
    over_makes_none list c early.ending host es (subst P early.state run)

over_stays : (list : NetList) (c : Command) (made : ℕ) (ending : Ending) (es : List Made)
    → state_from list c made (Over ending []) (replies es) ≡ Over ending []
unfolding advance
over_stays list c made ending [] = refl
over_stays list c made ending (e ∷ es) = over_stays list c (made + 1) ending es

finish_over : (ending : Ending) → finish_of (Over ending []) ≡ Some (record { ending = ending; given = [] })
unfolding finish_of
finish_over ending = refl

pub early_not_yes : (list : NetList) (c : Command) (es : List Made) → IsEarly list c → Ends list c es Yes → ⊥
early_not_yes list c es early ends =
    let over = ap (λ s. state_from list c 0 s (replies es)) early.state ∙ over_stays list c 0 early.ending es in
    let same = sym (ap finish_of over ∙ finish_over early.ending) ∙ ends in
    early.refuses (ap (λ (f : Finish). f.ending)
    (same_Some (record { ending = early.ending; given = [] }) (record { ending = Yes; given = [] }) same))
