-- Every host that a legal world comes to is sound, each last address is a candidate of its pool, and each call that a
-- run makes may be made.
use Rattle.pod_workers.proofs.Names.{◌≡◌, ℕ, Bool, true, false, List, length, Option, refl, sym, ◌∙◌, ap, subst}
use Rattle.pod_workers.proofs.Names.{if◌then◌else◌, ◌||◌, NetList, Command, IsAllowed, apply, is_fault, IsSound, Call}
use Rattle.pod_workers.proofs.Names.{Reply, Host, Answer, Stopped, turn_by, Turn, Calls, Finishes}
use Rattle.std.proofs.lemmas.Bool.{or_parts}
use Rattle.kernel_types.specs.Sound.{NoAddressTwice}
use Rattle.kernel_types.proofs.{EveryCall.IsSound-apply, SoundHosts.NoAddressTwice-sound}
use Rattle.pod_workers.specs.{Lasts.AreLastsOfSets, Legal.{Legal, IsBegun, starts, steps, refused_memory, turns}}
use Rattle.pod_workers.specs.{Plans.{Placed, IsWellFormed, list_for, list_in}, World.{World, IsReady, host_of}}
use Rattle.pod_workers.specs.World.{own_replies, next_by, next_of, is_cut, is_faulty, is_stop, entry_of, done}
use Rattle.pod_workers.specs.declared.plan.{Next.Next, Plan.Plan}
use Rattle.pod_workers.specs.declared.plan.Next.TheVariants as next
use Rattle.pod_workers.proofs.{Hosts.GoesWell.{GoesWell, by-list}, Worlds.Histories.after-append}

going_by : (a : Answer) (c : Command) (made : ℕ) (k call : Call) (faulty b : Bool)
    → (if b then next.Answer a else next.Call k (is_faulty c made)) ≡ next.Call call faulty
    → (Calls k ≡ Calls call) × (is_faulty c made ≡ faulty) × (b ≡ false)
going_by a c made k call faulty true is = absurd cc
going_by a c made k call faulty false is = (cc, cc, refl)

-- why a step makes this call
pub record Goes (c : Command) (made : ℕ) (cut : Bool) (t : Turn) (call : Call) (faulty : Bool) : Type 0 where
  pub call_is : t ≡ Calls call
  pub fault_is : is_faulty c made ≡ faulty
  pub no_stop : is_stop c.stop made ≡ false
  pub no_cut : cut ≡ false

pub goes_by : (list : Option NetList) (c : Command) (made : ℕ) (cut : Bool) (t : Turn) (call : Call) (faulty : Bool)
    → next_by list c made cut t ≡ next.Call call faulty → Goes c made cut t call faulty
goes_by list c made cut (Finishes finish) call faulty is = absurd cc
goes_by list c made cut (Calls k) call faulty is =
    let g = going_by (Stopped made) c made k call faulty (is_stop c.stop made || cut) is in
    let neither = or_parts (is_stop c.stop made) cut g.2 in
    record { call_is = g.0; fault_is = g.1; no_stop = neither.0; no_cut = neither.1 }

-- the same of a command of a world
abbrev pub GoesIn : World → ℕ → Command → Call → Bool → Type 0
GoesIn w n c call faulty =
    Goes c (length (own_replies w n)) (is_cut w) (turn_by (list_for w.plan c) c (own_replies w n)) call faulty

pub goes_in : (w : World) (n : ℕ) (c : Command) (call : Call) (faulty : Bool)
    → next_of w c (own_replies w n) ≡ next.Call call faulty → GoesIn w n c call faulty
goes_in w n c call faulty is =
    goes_by (list_for w.plan c) c (length (own_replies w n)) (is_cut w)
    (turn_by (list_for w.plan c) c (own_replies w n)) call faulty is

-- ---- every legal world

pub record IsFine (w : World) : Type 0 where
  pub plan : IsWellFormed w.plan
  pub sound : IsSound (host_of w)
  pub lasts : AreLastsOfSets w.plan (host_of w).lasts

pub list_for-found : (p : Plan) (c : Command) → list_in p.lists c ≡ list_for p c
unfolding list_for
list_for-found p c = refl

next-well : (w : World) (c : Command) (rs : List Reply) (call : Call) (faulty : Bool) → IsFine w
    → next_of w c rs ≡ next.Call call faulty → GoesWell w.plan (host_of w) call
next-well w c rs call faulty fine is =
    let goes = goes_by (list_for w.plan c) c (length rs) (is_cut w) (turn_by (list_for w.plan c) c rs) call faulty is in
    by-list w.plan (host_of w) c rs (list_for w.plan c) call fine.plan fine.sound fine.lasts
    (list_for-found w.plan c) goes.call_is

either-fine : (p : Plan) (b : Bool) (old new : Host) → IsSound old → AreLastsOfSets p old.lasts → IsSound new
    → AreLastsOfSets p new.lasts → IsSound (if b then old else new) × AreLastsOfSets p (if b then old else new).lasts
either-fine p true old new a b d e = (a, b)
either-fine p false old new a b d e = (d, e)

fine-done : (w : World) (n : ℕ) (c : Command) (x : Next) → IsFine w → next_of w c (own_replies w n) ≡ x
    → IsFine (done w n x)
fine-done w n c (next.Answer a) fine is = record { plan = fine.plan; sound = fine.sound; lasts = fine.lasts }
fine-done w n c (next.Call call faulty) fine is =
    let well = next-well w c (own_replies w n) call faulty fine is in
    let e = entry_of (host_of w) n call faulty in
    let both =
    either-fine w.plan (is_fault e.reply) (host_of w) (apply (host_of w) call).0 fine.sound fine.lasts
    (IsSound-apply (host_of w) call fine.sound well.0) well.1 in
    let grown = after-append w.plan.pods.opening w.history e in
    record {
      plan = fine.plan;
      sound = subst IsSound (sym grown) both.0;
      lasts = subst (λ (h : Host). AreLastsOfSets w.plan h.lasts) (sym grown) both.1;
    }

fine-begun : (w : World) → IsBegun w → IsFine w
fine-begun w begun =
    let still : host_of w ≡ w.plan.pods.opening = ap host_of begun.is in
    record {
      plan = begun.plan;
      sound = subst IsSound (sym still) begun.plan.pods.opening.sound;
      lasts = subst (AreLastsOfSets w.plan) (sym (ap (λ (h : Host). h.lasts) still ∙ begun.plan.pods.opening.lasts)) tt;
    }

pub fine : (w : World) → Legal w → IsFine w
fine _ (starts w begun) = fine-begun w begun
fine _ (steps v w n c legal ready is) =
    subst IsFine (sym is) (fine-done v n c.command (next_of v c.command (own_replies v n)) (fine v legal) refl)
fine _ (refused_memory v w n c legal ready is) =
    subst IsFine (sym is) (let f = fine v legal in record { plan = f.plan; sound = f.sound; lasts = f.lasts })
fine _ (turns v w legal less over is) =
    subst IsFine (sym is) (let f = fine v legal in record { plan = f.plan; sound = f.sound; lasts = f.lasts })

pub sound_host : (w : World) → Legal w → IsSound (host_of w)
sound_host w legal = (fine w legal).sound

pub allowed_next : (w : World) (n : ℕ) (c : Placed) (call : Call) → Legal w → IsReady w n c
    → next_of w c.command (own_replies w n) ≡ next.Call call false → IsAllowed (host_of w) call
allowed_next w n c call legal ready is = (next-well w c.command (own_replies w n) call false (fine w legal) is).0

pub no_address_twice : (w : World) → Legal w → (network : List ℕ) → NoAddressTwice network (host_of w)
no_address_twice w legal network = NoAddressTwice-sound network (host_of w) (sound_host w legal)
