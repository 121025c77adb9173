-- The step that a ready number leads to keeps what a book keeps, and is what its contract says.
use Rattle.pod_workers.proofs.Names.{◌≡◌, ℕ, ◌+◌, ◌-◌, ◌<◌, ◌≤◌, ◌^◌, Bool, true, List, length, Option, Some, None}
use Rattle.pod_workers.proofs.Names.{slice_get, slice_set, refl, sym, ◌∙◌, ap, subst, arith, same_Some}
use Rattle.pod_workers.proofs.Names.{slice_get_within, RunView, Answer, OutOfMemory, Host, Command}
use Rattle.std.specs.Prelude.{IsSome}
use Rattle.pod_workers.specs.{Index.{command_at_place, is_cut_by}, Plans.{Placed, commands_of}, Slots.IsKept}
use Rattle.pod_workers.specs.{Slots.{MayStepTask, DoesNext, begun_by, next_in}, World.{World, IsReady, IsReadyNumber}}
use Rattle.pod_workers.specs.{World.{RunsOut, StepsTo, answered, end_of_step, stepped}, declared.index.Place.Place}
use Rattle.pod_workers.specs.declared.{plan.{Entry.Entry, StepEnd.StepEnd}, step.Stepped.Stepped}
use Rattle.pod_workers.specs.declared.plan.StepEnd.TheVariants as ends
use Rattle.pod_workers.specs.declared.step.Stepped.TheVariants as step
use Rattle.pod_workers.proofs.Books.Kept.{IsHere, here, may-step-task, IsLeft, world_with, went-here, over-here}
use Rattle.pod_workers.proofs.Books.{Kept.refused-here, ReadyByIndex.cut-is}

-- ---- the step of a book

-- the command that a step found by the index is the ready one
pub record IsFound (host : Host) (slots : List (Option RunView)) (places : List Place) (before : ℕ) (w : World)
    (number n : ℕ) (s : Option RunView) (of : Command) : Type 0 where
  pub command : Placed
  pub here : IsHere host slots places before w n command s
  pub of_is : of ≡ command.command
  pub number_is : number ≡ n + 1

-- by what the code reads: places and rounds that are the book's
pub found : {host : Host} {slots : List
    (Option RunView)} {places seen : List Place} {before : ℕ} {w v : World} {number : ℕ} {p : Place} {s : Option
    RunView} {rounds : List
    (List Command)} {of : Command}
    → IsKept host slots places before w → w ≡ v → IsReadyNumber v number → seen ≡ places
    → slice_get seen (number - 1) ≡ Some p → rounds ≡ w.plan.pods.rounds → command_at_place rounds p ≡ Some of
    → slice_get slots (number - 1) ≡ Some s
    → IsFound host slots places before w number (number - 1) s of
found {host} {slots} {places} {seen} {before} {w} {v} {number} {p} {s} {rounds} {of} kept same ready seen_is at_n
    rounds_is command slot =
    let n = number - 1 in
    let r = subst (λ u. IsReadyNumber u number) (sym same) ready in
    let is = r.2 in
    let same_n : r.0 ≡ n = omega arith in
    let now : IsReady w n r.1 = subst (λ k. IsReady w k r.1) same_n r.3 in
    let placed = kept.index.each n r.1 p now.there (ap (λ ps. slice_get ps n) (sym seen_is) ∙ at_n) in
    record {
      command = r.1;
      here = here host slots places before w n r.1 s kept now slot;
      of_is = same_Some of r.1.command (sym command ∙ ap (λ rs. command_at_place rs p) rounds_is ∙ placed.command);
      number_is = omega arith;
    }

-- whether the round is stopped, by the history and the places that the code reads
pub cut-by : (stop : Option ℕ) (round : ℕ) {h k : List Entry} {places seen : List Place} {cut : Bool}
    → cut ≡ is_cut_by stop h seen round → h ≡ k → seen ≡ places → cut ≡ is_cut_by stop k places round
cut-by stop round {h} {k} {places} {seen} {cut} is h_is seen_is =
    is ∙ ap (λ l. is_cut_by stop l seen round) h_is ∙ ap (λ ps. is_cut_by stop k ps round) seen_is

pub found-may : (host : Host) (slots : List (Option RunView)) (places : List Place) (before : ℕ) (w : World)
    (number n : ℕ) (s : Option RunView) (of : Command) (cut : Bool)
    → IsFound host slots places before w number n s of
    → cut ≡ is_cut_by w.plan.stop_at w.history places w.round → (cut ≡ true → length w.history < 2 ^ 32)
    → MayStepTask host w.history of cut (begun_by w.plan.lists of s)
found-may host slots places before w number n s of cut f cut_is small =
    subst (λ k. MayStepTask host w.history k cut (begun_by w.plan.lists k s)) (sym f.of_is)
    (may-step-task host slots places before w n f.command s cut f.here
    (cut-is w places cut f.here.kept.index cut_is) small)

pub found-went : (host host' : Host) (slots : List (Option RunView)) (places : List Place) (before : ℕ) (w : World)
    (number n : ℕ) (s : Option RunView) (of : Command) (cut : Bool) (h' : List Entry) (o : Stepped) (t : RunView)
    → IsFound host slots places before w number n s of → cut ≡ is_cut_by w.plan.stop_at w.history places w.round
    → DoesNext host host' w.history h' of (begun_by w.plan.lists of s) (next_in of cut (begun_by w.plan.lists of s)) o
    → o ≡ step.Called t
    → (c : Placed) × (slice_get (commands_of w.plan) n ≡ Some c)
    × IsLeft host' (slice_set slots n (Some t)) places before w (world_with w h' w.answers) n c.command ends.Went
found-went host host' slots places before w number n s of cut h' o t f cut_is d o_is =
    let e =
    subst (λ k.
    DoesNext host host' w.history h' k (begun_by w.plan.lists k s)
    (next_in k cut (begun_by w.plan.lists k s)) o)
    f.of_is d in
    let g =
    subst (DoesNext host host' w.history h' f.command.command (begun_by w.plan.lists f.command.command s)
    (next_in f.command.command cut (begun_by w.plan.lists f.command.command s)))
    o_is e in (
      f.command,
      f.here.ready.there,
      went-here host host' slots places before w n f.command s cut h' t f.here
          (cut-is w places cut f.here.kept.index cut_is) g,
    )

pub found-over : (host host' : Host) (slots : List (Option RunView)) (places : List Place) (before : ℕ) (w : World)
    (number n : ℕ) (s : Option RunView) (of : Command) (cut : Bool) (h' : List Entry) (o : Stepped) (b : Answer)
    → IsFound host slots places before w number n s of → cut ≡ is_cut_by w.plan.stop_at w.history places w.round
    → DoesNext host host' w.history h' of (begun_by w.plan.lists of s) (next_in of cut (begun_by w.plan.lists of s)) o
    → o ≡ step.Answered b
    → (c : Placed) × (slice_get (commands_of w.plan) n ≡ Some c)
    × IsLeft host' (slice_set slots n None) places before w (world_with w h' (slice_set w.answers n (Some b))) n
    c.command ends.Over
found-over host host' slots places before w number n s of cut h' o b f cut_is d o_is =
    let e =
    subst (λ k.
    DoesNext host host' w.history h' k (begun_by w.plan.lists k s)
    (next_in k cut (begun_by w.plan.lists k s)) o)
    f.of_is d in
    let g =
    subst (DoesNext host host' w.history h' f.command.command (begun_by w.plan.lists f.command.command s)
    (next_in f.command.command cut (begun_by w.plan.lists f.command.command s)))
    o_is e in (
      f.command,
      f.here.ready.there,
      over-here host host' slots places before w n f.command s cut h' b f.here
          (cut-is w places cut f.here.kept.index cut_is) g,
    )

pub found-refused : (host host' : Host) (slots : List (Option RunView)) (places : List Place) (before : ℕ) (w : World)
    (number n : ℕ) (s : Option RunView) (of : Command) (h' : List Entry)
    → IsFound host slots places before w number n s of
    → (host' ≡ host) × (h' ≡ w.history)
    → IsKept host' (slice_set slots n None) places before (world_with w h' (slice_set w.answers n (Some OutOfMemory)))
found-refused host host' slots places before w number n s of h' f same =
    refused-here host host' slots places before w n f.command s h' f.here same.0 same.1

-- what a step left is what the contract of a step says
pub left-steps : (host : Host) (slots : List (Option RunView)) (places : List Place) (before : ℕ) (w v u : World)
    (number n : ℕ) (end : StepEnd)
    → number ≡ n + 1 → w ≡ v
    → (c : Placed) × (slice_get (commands_of w.plan) n ≡ Some c) × IsLeft host slots places before w u n c.command end
    → StepsTo v u number end
left-steps host slots places before w v u number n end number_is same left = λ m d is at_m.
    let same_n : n ≡ m = omega arith in
    let same_c : left.0 ≡ d =
    same_Some left.0 d (sym left.1
    ∙ ap (λ k. slice_get (commands_of w.plan) k) same_n
    ∙ ap (λ (x : World). slice_get (commands_of x.plan) m) same
    ∙ at_m) in (
      left.2.made
          ∙ ap (λ (x : World). stepped x n left.0.command) same
          ∙ ap (λ k. stepped v k left.0.command) same_n
          ∙ ap (λ (x : Placed). stepped v m x.command) same_c,
      left.2.end_is
          ∙ ap (λ (x : World). end_of_step x n left.0.command) same
          ∙ ap (λ k. end_of_step v k left.0.command) same_n
          ∙ ap (λ (x : Placed). end_of_step v m x.command) same_c,
    )

pub refused-runs_out : (w v : World) (number n : ℕ) (h' : List Entry) → number ≡ n + 1 → w ≡ v → h' ≡ w.history
    → RunsOut v (world_with w h' (slice_set w.answers n (Some OutOfMemory))) number
refused-runs_out w v number n h' number_is same history = λ m d is at_m.
    let same_n : n ≡ m = omega arith in
    ap (λ h. world_with w h (slice_set w.answers n (Some OutOfMemory))) history
    ∙ ap (λ k. answered w k OutOfMemory) same_n
    ∙ ap (λ (x : World). answered x m OutOfMemory) same

-- ---- what a ready number gives the code

pub number-within : (host : Host) (slots : List (Option RunView)) (places : List Place) (before : ℕ)
    (w v : World) (number : ℕ)
    → IsKept host slots places before w → w ≡ v → IsReadyNumber v number
    → (1 ≤ number) × (number - 1 < length places) × (number - 1 < length slots) × (number - 1 < length w.answers)
number-within host slots places before w v number kept same ready =
    let r = subst (λ u. IsReadyNumber u number) (sym same) ready in
    let is = r.2 in
    let within = slice_get_within (commands_of w.plan) r.0 r.1 r.3.there in
    let a = kept.index.long in
    let b = kept.slots_long in
    let d = kept.answers_long in
    (omega arith, omega arith, omega arith, omega arith)

pub number-command : (host : Host) (slots : List (Option RunView)) (places : List Place) (before : ℕ) (w v : World)
    (number : ℕ) (p : Place)
    → IsKept host slots places before w → w ≡ v → IsReadyNumber v number
    → slice_get places (number - 1) ≡ Some p → IsSome (command_at_place w.plan.pods.rounds p)
number-command host slots places before w v number p kept same ready at_n =
    let r = subst (λ u. IsReadyNumber u number) (sym same) ready in
    let is = r.2 in
    let same_n : r.0 ≡ number - 1 = omega arith in
    let placed =
    kept.index.each (number - 1) r.1 p (ap (slice_get (commands_of w.plan)) (sym same_n) ∙ r.3.there) at_n in
    subst IsSome (sym placed.command) refl
