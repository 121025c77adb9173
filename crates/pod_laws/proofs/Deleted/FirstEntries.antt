-- The first entry of an ADD is its Begin, and no other follows one that was not done.
use Rattle.pod_laws.proofs.Names.{◌≡◌, ◌≢◌, ℕ, Bool, true, List, [], ◌∷◌, ◌++◌, slice_get, Some, refl, sym, ◌∙◌, ap}
use Rattle.pod_laws.proofs.Names.{subst, inl, inr, ◌⊎◌, and_parts, list_all, NetList, is_of_network, Command, Call}
use Rattle.pod_laws.proofs.Names.{Begin, Share, share_of, is_done, State, AtBegin, BeforeLeases, Leasing, AfterLeases}
use Rattle.pod_laws.proofs.Names.{ReadingCache, Deleting, Over, Calls, turn, att_of, Ending, Added, Yes, Skipped}
use Rattle.pod_laws.proofs.Names.{Versions, Refused, Legal, Placed, commands_of, World, entry_of, host_of, reply_to}
use Rattle.pod_laws.proofs.Names.{Entry, listed_network, cons_parts}
use Rattle.pod_file.specs.declared.command.Verb.TheVariants as verbs
use Rattle.pod_laws.specs.{Moments.own_entries, Refused.lets_go_on}
use Rattle.pod_laws.proofs.Histories.{Begins.{first-call, granted-done}, Runs.{IsRunFact, StartsWith, every-run}}
use Rattle.pod_laws.proofs.Histories.{Runs.{every-run-now, own-state}, States.{IsOtherVerb, not-both}}
use Rattle.pod_laws.proofs.Refused.{Causes.{IsPluginReply, begin-may}, Runs.{undone-start, undone-step}, Undoing.Leads}
use Rattle.pod_laws.proofs.Refused.Undoing.{Undoing}

-- ---- the first entry of an ADD that goes on was granted

prefix-granted : (granted later : List Entry) (by y : Entry) (ys : List Entry) → granted ≢ []
    → y ∷ ys ≡ granted ++ by ∷ later → list_all lets_go_on granted ≡ true → lets_go_on y ≡ true
prefix-granted [] later by y ys some are go_on = absurd (some refl)
prefix-granted (z ∷ zs) later by y ys some are go_on =
    ap lets_go_on (cons_parts y z ys (zs ++ by ∷ later) are).0
    ∙ (and_parts (lets_go_on z) (list_all lets_go_on zs) go_on).0

lead-granted : (c : Command) (y : Entry) (ys : List Entry) (ending : Ending) → c.verb ≡ verbs.Add
    → Leads c (y ∷ ys) ending → lets_go_on y ≡ true
lead-granted c y ys Added verb h = absurd h
lead-granted c y ys Yes verb h = absurd (not-both c verb h.verb)
lead-granted c y ys (Skipped skip) verb h = absurd h
lead-granted c y ys Versions verb h = absurd h
lead-granted c y ys (Refused cause) verb h =
    let f = h.first.refuses in prefix-granted f.past f.later h.first.by y ys h.begun f.are f.pass

first-granted : (list : NetList) (c : Command) (y : Entry) (ys : List Entry) (st : State) (s : Share) (call : Call)
    → c.verb ≡ verbs.Add → turn c st ≡ Calls call → Undoing list c (y ∷ ys) st s → lets_go_on y ≡ true
unfolding turn
first-granted list c y ys AtBegin s call verb is was = let none = was.none in cc
first-granted list c y ys (BeforeLeases x xs) s call verb is was =
    (and_parts (lets_go_on y) (list_all lets_go_on ys) was.go_on).0
first-granted list c y ys (Leasing set sets given) s call verb is was =
    (and_parts (lets_go_on y) (list_all lets_go_on ys) was.go_on).0
first-granted list c y ys (AfterLeases x xs given) s call verb is was =
    (and_parts (lets_go_on y) (list_all lets_go_on ys) was.go_on).0
first-granted list c y ys (ReadingCache ending) s call verb is was = lead-granted c y ys ending verb was
first-granted list c y ys (Deleting kind ks ending) s call verb is was = lead-granted c y ys ending verb was.0
first-granted list c y ys (Over ending given) s call verb is was = cc
first-granted list c y ys _ s call verb is was = absurd (subst IsOtherVerb verb was)

-- ---- every run

-- the first is a Begin, and the only one where it was not done
abbrev pub BeginsFirst : Command → List Entry → Type 0
BeginsFirst c [] = Unit {0}
BeginsFirst c (e ∷ es) =
    (e.call ≡ Begin (att_of c) c.netns) × IsPluginReply e.reply × ((is_done e.reply ≡ true) ⊎ (es ≡ []))

abbrev AddBegins : NetList → Command → List Entry → State → Share → Type 0
AddBegins list c es st s = c.verb ≡ verbs.Add → BeginsFirst c es

begins-more : (list : NetList) (c : Command) (n : ℕ) (w : World) (es : List Entry) (st : State) (s : Share)
    (call : Call) (faulty : Bool)
    → c.verb ≡ verbs.Add → turn c st ≡ Calls call → Undoing list c es st s → BeginsFirst c es
    → BeginsFirst c (es ++ entry_of (host_of w) n call faulty ∷ [])
begins-more list c n w [] st s call faulty verb is un was =
    let first : call ≡ Begin (att_of c) c.netns = first-call list c [] st s call verb refl is un in (
      first,
      subst (λ j. IsPluginReply (reply_to (host_of w) j faulty)) (sym first)
          (begin-may (att_of c) c.netns (host_of w) faulty),
      inr refl,
    )
begins-more list c n w (y ∷ ys) st s call faulty verb is un was =
    (was.0, was.1, inl (granted-done y.reply was.1 (first-granted list c y ys st s call verb is un)))

begins-step : IsRunFact AddBegins
begins-step w n c list call faulty on was = λ verb.
    begins-more list c.command n w (own_entries n w.history) _ (share_of (att_of c.command) (host_of w)) call faulty
    verb (own-state w n c list call faulty on).turn_is
    (every-run-now Undoing undone-start undone-step w n c list call faulty on) (was verb)

begins-start : StartsWith AddBegins
begins-start list c s = λ verb. tt

pub begins_first : (w : World) → Legal w → (n : ℕ) (c : Placed) → slice_get (commands_of w.plan) n ≡ Some c
    → c.command.verb ≡ verbs.Add → BeginsFirst c.command (own_entries n w.history)
begins_first w legal n c at verb =
    let found = listed_network w legal n c at (ap is_of_network verb) in
    every-run AddBegins begins-start begins-step w legal n c found.0 at found.1 verb
