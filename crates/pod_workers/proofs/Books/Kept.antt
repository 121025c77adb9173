-- Each change of a step keeps what a book keeps.
use Rattle.pod_workers.proofs.Names.{◌≡◌, ℕ, ◌+◌, ◌<◌, ◌^◌, Bool, true, List, [], ◌∷◌, ◌++◌, length, Option, Some, None}
use Rattle.pod_workers.proofs.Names.{slice_get, slice_set, refl, sym, ◌∙◌, ap, subst, arith, inl, inr, eqb_tells}
use Rattle.pod_workers.proofs.Names.{length-set, length_push, same_Some, none-some, slice_get_within, Progress, RunView}
use Rattle.pod_workers.proofs.Names.{advanced, turn_by, State, turn, state_from, start_state, advance, outside_advance}
use Rattle.pod_workers.proofs.Names.{outside_start, Answer, OutOfMemory, Reply, Host, NetList, Command}
use Rattle.cni_verbs.specs.{Progress.progress, Script.outside_from}
use Rattle.cni_verbs.proofs.AfterReplies.{after_replies-append}
use Rattle.pod_workers.specs.{Legal.{Legal, steps, refused_memory}, Plans.{Placed, commands_of, list_for}, Slots.Fits}
use Rattle.pod_workers.specs.Slots.{IsKept, MayBeMade, MayStepTask, DoesNext, begun_by, begun_with, next_in}
use Rattle.pod_workers.specs.World.{World, IsReady, IsUpToStop, after_entry, answered, done, end_of, end_of_step}
use Rattle.pod_workers.specs.World.{entry_by, entry_of, host_of, is_cut, next_by, next_of, own_replies, stepped}
use Rattle.pod_workers.specs.{World.with_entry, declared.{index.Place.Place, plan.{Entry.Entry, Next.Next}}}
use Rattle.pod_workers.specs.declared.{plan.StepEnd.StepEnd, step.Stepped.Stepped}
use Rattle.pod_workers.specs.declared.plan.Next.TheVariants as next
use Rattle.pod_workers.specs.declared.plan.StepEnd.TheVariants as ends
use Rattle.pod_workers.specs.declared.step.Stepped.TheVariants as step
use Rattle.pod_workers.proofs.Hosts.Sound.{allowed_next, fine, goes_in, list_for-found}
use Rattle.pod_workers.proofs.{Plans.WellFormedPlans.are_numbered, Worlds.Facts.{none-made, within-more}}
use Rattle.pod_workers.proofs.Worlds.Histories.{slice_get-set_same, slice_get-set_other, replies_of-own}
use Rattle.pod_workers.proofs.Worlds.Histories.{replies_of-other, after-append, length-replies_of}

-- ---- a run and its replies

-- one more reply makes one more step
pub state_from-append : (list : NetList) (c : Command) (made : ℕ) (s : State) (rs : List Reply) (r : Reply)
    → state_from list c made s (rs ++ r ∷ []) ≡ advance list c (made + length rs + 1) (state_from list c made s rs) r
state_from-append list c made s rs r = after_replies-append (advance list c) made s rs r

pub outside_from-append : (made : ℕ) (s : State) (rs : List Reply) (r : Reply)
    → outside_from made s (rs ++ r ∷ []) ≡ outside_advance (made + length rs + 1) (outside_from made s rs) r
outside_from-append made s rs r = after_replies-append outside_advance made s rs r

-- one more reply
progress-append : (list : Option NetList) (c : Command) (rs : List Reply) (r : Reply)
    → progress list c (rs ++ r ∷ []) ≡ advanced (progress list c rs) r
progress-append None c rs r =
    let state_is =
    outside_from-append 0 (outside_start c) rs r
    ∙ ap (λ k. outside_advance k (outside_from 0 (outside_start c) rs) r) (omega arith) in
    ap (λ m. record { list = None; command = c; made = m; state = outside_from 0 (outside_start c) (rs ++ r ∷ []) })
    (length_push rs r)
    ∙ ap (λ s. record { list = None; command = c; made = length rs + 1; state = s }) state_is
progress-append (Some list) c rs r =
    let state_is =
    state_from-append list c 0 (start_state list c) rs r
    ∙ ap (λ k. advance list c k (state_from list c 0 (start_state list c) rs) r) (omega arith) in
    ap (λ m.
    record {
      list = Some list;
      command = c;
      made = m;
      state = state_from list c 0 (start_state list c) (rs ++ r ∷ []);
    })
    (length_push rs r)
    ∙ ap (λ s. record { list = Some list; command = c; made = length rs + 1; state = s }) state_is

turn-of : (list : Option NetList) (c : Command) (rs : List Reply)
    → turn c (progress list c rs).state ≡ turn_by list c rs
unfolding turn
turn-of None c rs = refl
turn-of (Some list) c rs = refl

pub begun-is : (list : Option NetList) (c : Command) (rs : List Reply) (s : Option RunView) → Fits list c rs s
    → begun_with list c s ≡ progress list c rs
begun-is list c rs None fits = ap (progress list c) (sym fits)
begun-is list c rs (Some s) fits = fits.0

pub within-fits : (list : Option NetList) (c : Command) (rs : List Reply) (s : Option RunView) → Fits list c rs s
    → IsUpToStop c.stop (length rs)
within-fits list c rs None fits = subst (λ (q : List Reply). IsUpToStop c.stop (length q)) (sym fits) (none-made c.stop)
within-fits list c rs (Some s) fits = fits.1

-- ---- one step

-- a command of a book that may step, with its run
pub record IsHere (host : Host) (slots : List (Option RunView)) (places : List Place) (before : ℕ) (w : World) (n : ℕ)
    (c : Placed) (s : Option RunView) : Type 0 where
  pub kept : IsKept host slots places before w
  pub ready : IsReady w n c
  pub run : begun_by w.plan.lists c.command s ≡ progress (list_for w.plan c.command) c.command (own_replies w n)
  pub within : IsUpToStop c.command.stop (length (own_replies w n))
  pub number : c.command.number ≡ n + 1

pub here : (host : Host) (slots : List (Option RunView)) (places : List Place) (before : ℕ) (w : World) (n : ℕ)
    (c : Placed) (s : Option RunView)
    → IsKept host slots places before w → IsReady w n c
    → slice_get slots n ≡ Some s → IsHere host slots places before w n c s
unfolding begun_by
here host slots places before w n c s kept ready slot =
    let fits = kept.tasks n c ready.there s slot ready.unanswered in
    record {
      kept = kept;
      ready = ready;
      run =
          ap (λ l. begun_with l c.command s) (list_for-found w.plan c.command)
          ∙ begun-is (list_for w.plan c.command) c.command (own_replies w n) s fits;
      within = within-fits (list_for w.plan c.command) c.command (own_replies w n) s fits;
      number = are_numbered w.plan (fine w kept.legal).plan.pods n c ready.there;
    }

-- what the run does next is the world's next
next-here : (w : World) (n : ℕ) (c : Command) (s : Progress) (cut : Bool)
    → s ≡ progress (list_for w.plan c) c (own_replies w n) → cut ≡ is_cut w
    → next_in c cut s ≡ next_of w c (own_replies w n)
unfolding next_in
next-here w n c s cut run cut_is =
    let list = list_for w.plan c in
    let rs = own_replies w n in
    ap (next_in c cut) run
    ∙ ap (λ b. next_in c b (progress list c rs)) cut_is
    ∙ ap (next_by list c (length rs) (is_cut w)) (turn-of list c rs)

may-be-made : (w : World) (n : ℕ) (c : Placed) (x : Next) → Legal w → IsReady w n c
    → next_of w c.command (own_replies w n) ≡ x → MayBeMade (host_of w) x
may-be-made w n c (next.Answer a) legal ready is = tt
may-be-made w n c (next.Call call faulty) legal ready is = λ real.
    allowed_next w n c call legal ready (is ∙ ap (next.Call call) real)

pub may-step-task : (host : Host) (slots : List (Option RunView)) (places : List Place) (before : ℕ) (w : World) (n : ℕ)
    (c : Placed) (s : Option RunView) (cut : Bool)
    → IsHere host slots places before w n c s → cut ≡ is_cut w → (cut ≡ true → length w.history < 2 ^ 32)
    → MayStepTask host w.history c.command cut (begun_by w.plan.lists c.command s)
may-step-task host slots places before w n c s cut h cut_is small =
    let rs = own_replies w n in
    let list = list_for w.plan c.command in
    let few = length-replies_of n w.history in
    let P : Progress → Type 0 = MayStepTask host w.history c.command cut in
    let Q : Host → Type 0 = λ k. MayBeMade k (next_in c.command cut (progress list c.command rs)) in
    let made =
    subst (MayBeMade (host_of w)) (sym (next-here w n c.command (progress list c.command rs) cut refl cut_is))
    (may-be-made w n c (next_of w c.command rs) h.kept.legal h.ready refl) in
    subst P (sym h.run) (record {
      of_command = refl;
      few = few;
      countable = (h.within, λ is. let less = small is in omega arith);
      allowed = subst Q (sym h.kept.host_is) made;
    })

-- an answer leaves the host and all other runs
answer_keeps : (host : Host) (slots : List (Option RunView)) (places : List Place) (before : ℕ) (w : World) (n : ℕ)
    (c : Placed) (a : Answer)
    → IsKept host slots places before w → IsReady w n c → Legal (answered w n a)
    → IsKept host (slice_set slots n None) places before (answered w n a)
answer_keeps host slots places before w n c a kept ready legal = record {
  legal = legal;
  host_is = kept.host_is;
  slots_long = length-set slots n None ∙ kept.slots_long;
  answers_long = length-set w.answers n (Some a) ∙ kept.answers_long;
  index = kept.index;
  tasks = λ m d at_m o slot_m open_m. elim (eqb_tells m n) [
    | inl t ↦
        let same = slice_get-set_same w.answers n (Some a) (slice_get_within w.answers n None ready.unanswered) in
        absurd (none-some a
        (same_Some None (Some a) (sym open_m ∙ ap (slice_get (slice_set w.answers n (Some a))) t.1 ∙ same)))
    | inr f ↦
        kept.tasks m d at_m o (sym (slice_get-set_other slots n m None f.1) ∙ slot_m)
        (sym (slice_get-set_other w.answers n m (Some a) f.1) ∙ open_m)
  ];
  before_is = kept.before_is;
  round_within = kept.round_within;
}

-- a call moves the host, and its own run alone
call_keeps : (host : Host) (slots : List (Option RunView)) (places : List Place) (before : ℕ) (w : World) (n : ℕ)
    (c : Placed) (e : Entry) (s : RunView)
    → IsKept host slots places before w → IsReady w n c → Legal (with_entry w e) → e.command ≡ n + 1
    → Fits (list_for w.plan c.command) c.command (own_replies w n ++ e.reply ∷ []) (Some s)
    → IsKept (after_entry host e) (slice_set slots n (Some s)) places before (with_entry w e)
call_keeps host slots places before w n c e s kept ready legal own fits =
    let within : n < length slots = rw kept.slots_long (slice_get_within (commands_of w.plan) n c ready.there) in
    record {
      legal = legal;
      host_is = ap (λ h. after_entry h e) kept.host_is ∙ sym (after-append w.plan.pods.opening w.history e);
      slots_long = length-set slots n (Some s) ∙ kept.slots_long;
      answers_long = kept.answers_long;
      index = kept.index;
      tasks = λ m d at_m o slot_m open_m. elim (eqb_tells m n) [
        | inl t ↦
            let same_d : d ≡ c = same_Some d c (sym at_m ∙ ap (slice_get (commands_of w.plan)) t.1 ∙ ready.there) in
            let same_o : o ≡ Some s =
            same_Some o (Some s)
            (sym slot_m
            ∙ ap (slice_get (slice_set slots n (Some s))) t.1
            ∙ slice_get-set_same slots n (Some s) within) in
            rw (same_d, same_o, t.1, replies_of-own n w.history e own) fits
        | inr f ↦
            let other = f.1 in
            subst (λ rs. Fits (list_for w.plan d.command) d.command rs o)
            (sym (replies_of-other m w.history e (λ k. other (omega arith))))
            (kept.tasks m d at_m o (sym (slice_get-set_other slots n m (Some s) other) ∙ slot_m) open_m)
      ];
      before_is = kept.before_is;
      round_within = kept.round_within;
    }

-- ---- a step as it was done

-- what a step leaves, where the run goes on
pub record IsLeft (host : Host) (slots : List (Option RunView)) (places : List Place) (before : ℕ) (w v : World) (n : ℕ)
    (c : Command) (end : StepEnd) : Type 0 where
  pub kept : IsKept host slots places before v
  pub made : v ≡ stepped w n c
  pub end_is : end ≡ end_of_step w n c

abbrev pub world_with : World → List Entry → List (Option Answer) → World
world_with w h answers = record { plan = w.plan; history = h; answers = answers; round = w.round }

went-by : (host host' : Host) (slots : List (Option RunView)) (places : List Place) (before : ℕ) (w : World) (n : ℕ)
    (c : Placed) (h' : List Entry) (t : RunView) (x : Next)
    → IsKept host slots places before w → IsReady w n c → c.command.number ≡ n + 1
    → next_of w c.command (own_replies w n) ≡ x
    → DoesNext host host' w.history h' c.command (progress (list_for w.plan c.command) c.command (own_replies w n))
    x (step.Called t)
    → IsLeft host' (slice_set slots n (Some t)) places before w (world_with w h' w.answers) n c.command ends.Went
unfolding DoesNext
went-by host host' slots places before w n c h' t (next.Answer a) kept ready number is d = absurd d
went-by host host' slots places before w n c h' t (next.Call call faulty) kept ready number is d =
    let rs = own_replies w n in
    let list = list_for w.plan c.command in
    let e = entry_by host c.command.number call faulty in
    let same_entry : e ≡ entry_of (host_of w) n call faulty =
    ap (λ k. entry_by k c.command.number call faulty) kept.host_is
    ∙ ap (λ k. entry_by (host_of w) k call faulty) number in
    let made : with_entry w e ≡ stepped w n c.command = ap (with_entry w) same_entry ∙ sym (ap (done w n) is) in
    let legal : Legal (with_entry w e) = steps w (with_entry w e) n c kept.legal ready made in
    let more = length_push rs e.reply in
    let fits : Fits list c.command (rs ++ e.reply ∷ []) (Some t) = (
      d.0 ∙ sym (progress-append list c.command rs e.reply),
      subst (IsUpToStop c.command.stop) (sym more)
          (within-more c.command.stop (length rs) (goes_in w n c.command call faulty is).no_stop),
    ) in
    let still = call_keeps host slots places before w n c e t kept ready legal number fits in
    record {
      kept = rw (d.1, d.2) still;
      made = ap (λ h. world_with w h w.answers) d.2 ∙ made;
      end_is = sym (ap end_of is);
    }

over-by : (host host' : Host) (slots : List (Option RunView)) (places : List Place) (before : ℕ) (w : World) (n : ℕ)
    (c : Placed) (h' : List Entry) (b : Answer) (x : Next)
    → IsKept host slots places before w → IsReady w n c → next_of w c.command (own_replies w n) ≡ x
    → DoesNext host host' w.history h' c.command (progress (list_for w.plan c.command) c.command (own_replies w n)) x
    (step.Answered b)
    → IsLeft host' (slice_set slots n None) places before w (world_with w h' (slice_set w.answers n (Some b))) n
    c.command ends.Over
unfolding DoesNext
over-by host host' slots places before w n c h' b (next.Call call faulty) kept ready is d = absurd d
over-by host host' slots places before w n c h' b (next.Answer a) kept ready is d =
    let made : answered w n b ≡ stepped w n c.command = ap (answered w n) d.0 ∙ sym (ap (done w n) is) in
    let still =
    answer_keeps host slots places before w n c b kept ready (steps w (answered w n b) n c kept.legal ready made) in
    record {
      kept = rw (d.1, d.2) still;
      made = ap (λ h. world_with w h (slice_set w.answers n (Some b))) d.2 ∙ made;
      end_is = sym (ap end_of is);
    }

done-at : (host host' : Host) (w : World) (n : ℕ) (c : Command) (s : Progress) (cut : Bool)
    (h' : List Entry) (o : Stepped)
    → s ≡ progress (list_for w.plan c) c (own_replies w n) → cut ≡ is_cut w
    → DoesNext host host' w.history h' c s (next_in c cut s) o
    → DoesNext host host' w.history h' c (progress (list_for w.plan c) c (own_replies w n))
    (next_of w c (own_replies w n)) o
done-at host host' w n c s cut h' o run cut_is d =
    subst (λ x. DoesNext host host' w.history h' c (progress (list_for w.plan c) c (own_replies w n)) x o)
    (next-here w n c s cut run cut_is)
    (subst (λ t. DoesNext host host' w.history h' c t (next_in c cut s) o) run d)

pub went-here : (host host' : Host) (slots : List (Option RunView)) (places : List Place) (before : ℕ) (w : World)
    (n : ℕ) (c : Placed) (s : Option RunView) (cut : Bool) (h' : List Entry) (t : RunView)
    → IsHere host slots places before w n c s → cut ≡ is_cut w
    → DoesNext host host' w.history h' c.command (begun_by w.plan.lists c.command s)
    (next_in c.command cut (begun_by w.plan.lists c.command s)) (step.Called t)
    → IsLeft host' (slice_set slots n (Some t)) places before w (world_with w h' w.answers) n c.command ends.Went
went-here host host' slots places before w n c s cut h' t h cut_is d =
    went-by host host' slots places before w n c h' t _ h.kept h.ready h.number refl
    (done-at host host' w n c.command (begun_by w.plan.lists c.command s) cut h' (step.Called t) h.run cut_is d)

pub over-here : (host host' : Host) (slots : List (Option RunView)) (places : List Place) (before : ℕ) (w : World)
    (n : ℕ) (c : Placed) (s : Option RunView) (cut : Bool) (h' : List Entry) (b : Answer)
    → IsHere host slots places before w n c s → cut ≡ is_cut w
    → DoesNext host host' w.history h' c.command (begun_by w.plan.lists c.command s)
    (next_in c.command cut (begun_by w.plan.lists c.command s)) (step.Answered b)
    → IsLeft host' (slice_set slots n None) places before w (world_with w h' (slice_set w.answers n (Some b))) n
    c.command ends.Over
over-here host host' slots places before w n c s cut h' b h cut_is d =
    over-by host host' slots places before w n c h' b _ h.kept h.ready refl
    (done-at host host' w n c.command (begun_by w.plan.lists c.command s) cut h' (step.Answered b) h.run cut_is d)

-- running out of memory answers, and leaves the host
pub refused-here : (host host' : Host) (slots : List (Option RunView)) (places : List Place) (before : ℕ) (w : World)
    (n : ℕ) (c : Placed) (s : Option RunView) (h' : List Entry)
    → IsHere host slots places before w n c s
    → host' ≡ host → h' ≡ w.history
    → IsKept host' (slice_set slots n None) places before (world_with w h' (slice_set w.answers n (Some OutOfMemory)))
refused-here host host' slots places before w n c s h' h same_host same_history =
    let still =
    answer_keeps host slots places before w n c OutOfMemory h.kept h.ready
    (refused_memory w (answered w n OutOfMemory) n c h.kept.legal h.ready refl) in
    rw (same_host, same_history) still
