-- How an ADD goes on behind Begin, and how it ends.
use Rattle.session_verbs.proofs.Names.{◌≡◌, ℕ, Bool, true, false, List, [], ◌∷◌, ◌++◌, Option, Some, None, Result, Ok}
use Rattle.session_verbs.proofs.Names.{Err, refl, sym, ap, subst, ◌∙◌, ◌+◌, inl, inr, find, not, append-nil, list_all}
use Rattle.session_verbs.proofs.Names.{MatchOption, Addr, NoMemory, RangeSet, Cached, is_host_ns, Call, Begin, Kind}
use Rattle.session_verbs.proofs.Names.{Reply, Done, Att, HostLocalConf, Command, first_unmet, Ask, Need, att_of, Cause}
use Rattle.session_verbs.proofs.Names.{Ending, Added, Refused, AtBegin, Over, ReadingCache, State, after_leases}
use Rattle.session_verbs.proofs.Names.{finish_of, leases_in, next_call, refused, Made, replies}
use Rattle.cni_result.specs.declared.result.AddResult.{AddResult}
use Rattle.cni_verbs.specs.Script.{cause_of}
use Rattle.pod_file.specs.declared.command.Verb.TheVariants as verbs
use Rattle.plugin_registry.specs.Needs.{IsAskable, is_met}
use Rattle.session_verbs.specs.Adds.{Adds, CallEndsAs, EndsWith, Fills, GoesOn, IsAnswer, IsCourseOf, IsFor, IsMade}
use Rattle.session_verbs.specs.{Adds.{Steps, end_by, is_done}, Journal.{EndsAs, JournalView, Went, made_next, may_go}}
use Rattle.session_verbs.specs.declared.{begun.Begun.Begun, part.PartEnd.PartEnd, step.StepEnd.StepEnd}
use Rattle.session_laws.specs.{Course.{Course, advance, at_begin, leasing, IsOver}, Holds.is_begun, Pools.sets_by}
use Rattle.session_laws.specs.{Tasks.{forward_of, kinds_back}, declared.row.Row.Row}
use Rattle.session_verbs.specs.declared.part.PartEnd.TheVariants as parts
use Rattle.session_verbs.specs.declared.step.StepEnd.TheVariants as steps
use Rattle.session_verbs.proofs.Adds.{AddCalls.MakesRow, AddSteps.{IsShort, both-leased, same-went, steps-short}}
use Rattle.session_verbs.proofs.{Adds.AddSteps.{steps-then, steps-unmade}, Going.{went-one, went-then}}
use Rattle.session_laws.proofs.Courses.QuietRuns.{quiet-run, refused-back}
use Rattle.std.proofs.Common.{is_some}

-- ---- what the plugin is asked

first-met : (p : Need → Bool) (need : Need) (needs : List Need) (b : Bool) → p need ≡ b
    → find (λ n. not (p n)) (need ∷ needs) ≡ None → (find (λ n. not (p n)) needs ≡ None → list_all p needs ≡ true)
    → list_all p (need ∷ needs) ≡ true
first-met p need needs true is none others = rw is (others (rw is at none))
first-met p need needs false is none others = absurd (some-none need (rw is at none))
  where
    some-none : (x : Need) → Some x ≡ None → ⊥
    some-none x same = cc

none-unmet : (p : Need → Bool) (needs : List Need) → find (λ need. not (p need)) needs ≡ None → list_all p needs ≡ true
none-unmet p [] none = refl
none-unmet p (need ∷ needs) none = first-met p need needs (p need) refl none (λ rest. none-unmet p needs rest)

-- where no need is unmet, the plugin may be asked
pub askable : (needs : List Need) (ask asked : Ask) → asked ≡ ask → is_host_ns ask.netns ≡ false
    → first_unmet needs ask.options ≡ None → IsAskable needs asked
askable needs ask asked same container options =
    subst (IsAskable needs) (sym same)
    (record { container = container; options = none-unmet (is_met ask.options) needs options })

-- ---- the row

pub fills-none : (may_call : Ask → List Call → Type 0) (may_result : Ask → AddResult → Type 0)
    (ask : Ask) (old new : Row)
    → new ≡ old → old.calls ≡ [] → old.cached ≡ None → Fills may_call may_result ask old new
fills-none may_call may_result ask old new same calls cached =
    let P : Row → Type 0 = λ r. Fills may_call may_result ask old r in
    let Q : Option Cached → Type 0 = λ o. MatchOption o (old.calls ≡ []) (IsAnswer may_call may_result ask old) in
    subst P (sym same) (record { task = refl; att = refl; kinds = refl; filled = subst Q (sym cached) calls })

-- a row that isn't filled says nothing of what was leased
pub unfilled : {X : Type 0} (o : Option X) (P : Type 0) → o ≡ None → is_some o ≡ true → P
unfilled None P none filled = cc
unfilled (Some x) P none filled = cc

-- ---- the leases, and then the calls

-- how the leases went
abbrev pub LeasesGo : Att → List RangeSet → List Addr → JournalView → JournalView → Result StepEnd NoMemory → Type 0
LeasesGo att sets given old new result = (co : Course) (c : Command) → att_of c ≡ att
    → Steps co c old new (leasing co sets []) (leasing co [] given) [] given result

-- how all of it goes, by the row that is left
abbrev pub AllGo : Att → List RangeSet → Row → List Addr → JournalView → JournalView → Result StepEnd NoMemory → Type 0
AllGo att sets row given old new result =
    (co : Course) (c : Command) → att_of c ≡ att → co.forward ≡ forward_of (Some row)
    → Steps co c old new (leasing co sets []) (Over Added given) [] given result

pub all-short : (att : Att) (sets : List RangeSet) (row : Row) (given : List Addr)
    (old new : JournalView) (end : StepEnd)
    → IsShort end → LeasesGo att sets given old new (Ok end) → AllGo att sets row given old new (Ok end)
all-short att sets row given old new end short leases co c own forward =
    steps-short (leasing co [] given) (Over Added given) end short (leases co c own)

pub all-unleased : (att : Att) (sets : List RangeSet) (row : Row) (given : List Addr) (old new : JournalView)
    (result : Result StepEnd NoMemory) (e : NoMemory) → result ≡ Err e → LeasesGo att sets given old new (Err e)
    → AllGo att sets row given old new result
all-unleased att sets row given old new result e is leases co c own forward =
    let P : Result StepEnd NoMemory → Type 0 = λ r.
    Steps co c old new (leasing co sets []) (Over Added given) [] given r in
    subst P (sym is) (steps-unmade (leasing co [] given) (Over Added given) e e (leases co c own))

-- memory for what the plugin is asked, or answers, was refused
pub all-unasked : (att : Att) (sets : List RangeSet) (row : Row) (given : List Addr) (old new : JournalView)
    (result : Result StepEnd NoMemory) (e : NoMemory) → result ≡ Err e
    → LeasesGo att sets given old new (Ok steps.Granted)
    → AllGo att sets row given old new result
all-unasked att sets row given old new result e is leases co c own forward =
    let P : Result StepEnd NoMemory → Type 0 = λ r.
    Steps co c old new (leasing co sets []) (Over Added given) [] given r in
    let went = leases co c own in
    subst P (sym is) (record { entries = went.entries; ends = (leasing co [] given, went.ends); leased = went.leased })

pub all-made : (att : Att) (sets : List RangeSet) (row : Row) (given : List Addr) (old mid new : JournalView)
    (result : Result StepEnd NoMemory) → LeasesGo att sets given old mid (Ok steps.Granted)
    → MakesRow row mid new result
    → AllGo att sets row given old new result
all-made att sets row given old mid new result leases makes co c own forward =
    let P : List Call → Type 0 = λ calls.
    Steps co c mid new (after_leases calls given) (Over Added given) given given result in
    steps-then (Over Added given) result (leases co c own) (subst P (sym forward) (makes co c given))

-- ---- what is taken back

-- some command about the attachment
about : Att → Command
about att = record {
  number = 0;
  verb = verbs.Add;
  network = att.network;
  container = att.container;
  netns = [];
  ifname = att.ifname;
  args = [];
  mappings = [];
  valid = [];
  table = None;
  stop = None;
  faults = [];
}

-- what is taken back for a cause ends with it
pub undone-refused : (att : Att) (ks : List Kind) (cause : Cause) (old new : JournalView)
    (result : Result PartEnd NoMemory)
    → ((co : Course) (c : Command) → att_of c ≡ att → co.kinds ≡ ks
    → EndsAs co c old new (ReadingCache (Refused cause)) result)
    → (ending : Ending) → result ≡ Ok (parts.Over ending) → ending ≡ Refused cause
unfolding about
undone-refused att ks cause old new result ends ending is =
    let co : Course = record {
      sets = [];
      forward = [];
      kinds = ks;
      questions = [];
      gc = record { network = []; valid = []; kinds = [] };
    } in
    let P : Result PartEnd NoMemory → Type 0 = λ r. EndsAs co (about att) old new (ReadingCache (Refused cause)) r in
    let over = subst P is (ends co (about att) refl refl) in
    refused-back cause co old.made (replies over.0) over.1 ending over.2.state over.3

-- ---- all behind Begin

-- how the part behind Begin ends, by the row that is left
abbrev pub BegunEnds : Att → List RangeSet → Option HostLocalConf → Row → List Addr → JournalView → JournalView
    → Result PartEnd NoMemory → Type 0
BegunEnds att sets ipam row given old new result = (co : Course) (c : Command) → att_of c ≡ att
    → co.forward ≡ forward_of (Some row) → co.kinds ≡ kinds_back ipam (Some row)
    → GoesOn co c old new (leasing co sets []) given result

over-added : (given : List Addr) → IsOver (Over Added given) Added
unfolding finish_of
over-added given = refl

pub begun-added : (att : Att) (sets : List RangeSet) (ipam : Option HostLocalConf) (row : Row) (given : List Addr)
    (old new : JournalView) → AllGo att sets row given old new (Ok steps.Granted)
    → BegunEnds att sets ipam row given old new (Ok (parts.Over Added))
begun-added att sets ipam row given old new all co c own forward kinds =
    let went = all co c own forward in
    record { entries = went.entries; ends = (Over Added given, went.ends, over-added given); leased = went.leased }

pub begun-stopped : (att : Att) (sets : List RangeSet) (ipam : Option HostLocalConf) (row : Row) (given : List Addr)
    (old new : JournalView) → AllGo att sets row given old new (Ok steps.Stopped)
    → BegunEnds att sets ipam row given old new (Ok parts.Stopped)
begun-stopped att sets ipam row given old new all co c own forward kinds =
    let went = all co c own forward in record { entries = went.entries; ends = went.ends; leased = went.leased }

pub begun-unmade : (att : Att) (sets : List RangeSet) (ipam : Option HostLocalConf) (row : Row) (given : List Addr)
    (old new : JournalView) (result : Result PartEnd NoMemory) (e : NoMemory) → result ≡ Err e
    → AllGo att sets row given old new (Err e) → BegunEnds att sets ipam row given old new result
begun-unmade att sets ipam row given old new result e is all co c own forward kinds =
    let P : Result PartEnd NoMemory → Type 0 = λ r. GoesOn co c old new (leasing co sets []) given r in
    let went = all co c own forward in
    subst P (sym is) (record { entries = went.entries; ends = went.ends; leased = went.leased })

ends-as : (co : Course) (c : Command) (old new : JournalView) (s : State) (result : Result PartEnd NoMemory)
    → EndsAs co c old new s result → (es : List Made) × EndsWith co c es old new s result
ends-as co c old new s (Ok (parts.Over ending)) ends = (ends.0, (ends.1, ends.2, ends.3))
ends-as co c old new s (Ok parts.Stopped) ends = (ends.0, (ends.1, ends.2, ends.3))
ends-as co c old new s (Err e) ends = (ends.0, (ends.1, ends.2))

ends-after : (co : Course) (c : Command) (es fs : List Made) (old mid new : JournalView) (s u : State)
    (result : Result PartEnd NoMemory) → Went co c es old mid s u → EndsWith co c fs mid new u result
    → EndsWith co c (es ++ fs) old new s result
ends-after co c es fs old mid new s u (Ok (parts.Over ending)) first rest = (rest.0, went-then first rest.1, rest.2)
ends-after co c es fs old mid new s u (Ok parts.Stopped) first rest = (rest.0, went-then first rest.1, rest.2)
ends-after co c es fs old mid new s u (Err e) first rest = (rest.0, went-then first rest.1)

back-quiet : (co : Course) (c : Command) (es : List Made) (old new : JournalView) (ending : Ending)
    (result : Result PartEnd NoMemory) → EndsWith co c es old new (ReadingCache ending) result
    → leases_in (replies es) ≡ []
back-quiet co c es old new ending (Ok (parts.Over told)) ends =
    quiet-run co c _ old.made (ReadingCache ending) old.host es tt ends.1.run
back-quiet co c es old new ending (Ok parts.Stopped) ends =
    quiet-run co c _ old.made (ReadingCache ending) old.host es tt ends.1.run
back-quiet co c es old new ending (Err e) ends =
    quiet-run co c _ old.made (ReadingCache ending) old.host es tt ends.1.run

-- how what was refused is taken back
abbrev pub Undone : Att → List Kind → Cause → JournalView → JournalView → Result PartEnd NoMemory → Type 0
Undone att ks cause old new result = (co : Course) (c : Command) → att_of c ≡ att → co.kinds ≡ ks
    → EndsAs co c old new (ReadingCache (Refused cause)) result

pub begun-undone : (att : Att) (sets : List RangeSet) (ipam : Option HostLocalConf) (row : Row) (given : List Addr)
    (cause : Cause) (old mid new : JournalView) (result : Result PartEnd NoMemory)
    → AllGo att sets row given old mid (Ok (steps.Refused cause))
    → Undone att (kinds_back ipam (Some row)) cause mid new result
    → BegunEnds att sets ipam row given old new result
begun-undone att sets ipam row given cause old mid new result all undone co c own forward kinds =
    let went = all co c own forward in
    let back = ends-as co c mid new (ReadingCache (Refused cause)) result (undone co c own kinds) in
    let none : given ≡ given ++ leases_in (replies back.0) =
    sym (append-nil given)
    ∙ ap (λ (l : List Addr). given ++ l) (sym (back-quiet co c back.0 mid new (Refused cause) result back.1)) in
    record {
      entries = went.entries ++ back.0;
      ends =
          ends-after co c went.entries back.0 old mid new (leasing co sets []) (ReadingCache (Refused cause)) result
          went.ends back.1;
      leased = both-leased [] given given went.entries back.0 went.leased none;
    }

-- ---- Begin

went-begin : (co : Course) (c : Command) (att : Att) (netns : List ℕ) (old new : JournalView) → IsFor att netns c
    → IsMade (Begin att netns) old new
    → Went co c (made_next old (Begin att netns) ∷ []) old new AtBegin
    (at_begin co (old.made + 1) (made_next old (Begin att netns)).reply)
unfolding next_call advance
went-begin co c att netns old new about_it made =
    let is : Some (Begin (att_of c) c.netns) ≡ Some (Begin att netns) =
    ap (λ (a : Att). Some (Begin a c.netns)) about_it.att ∙ ap (λ (ns : List ℕ). Some (Begin att ns)) about_it.netns in
    went-one co c (Begin att netns) old new AtBegin is made

no_begin : (att : Att) (netns : List ℕ) (r : Reply) → is_done r ≡ false → is_begun (Begin att netns) r ≡ false
no_begin att netns Done other = absurd cc
no_begin att netns _ other = refl

-- an ADD that made no call
pub adds-none : (co : Course) (c : Command) (old new : JournalView) (b : Begun) (result : Result PartEnd NoMemory)
    (e : NoMemory) → result ≡ Err e → new ≡ old → b.begun ≡ false → Adds co c old new b result
adds-none co c old new b result e is same unbegun =
    let P : Result PartEnd NoMemory → Type 0 = λ r. Adds co c old new b r in
    subst P (sym is) (record {
      entries = [];
      ends = (AtBegin, same-went co c old new AtBegin same);
      begun = unbegun;
      given = λ begun. cc (begun, unbegun);
    })

pub adds-stopped : (co : Course) (c : Command) (old new : JournalView) (b : Begun) → new ≡ old → may_go old ≡ false
    → b.begun ≡ false → Adds co c old new b (Ok parts.Stopped)
unfolding next_call
adds-stopped co c old new b same stopped unbegun = record {
  entries = [];
  ends = (AtBegin, same-went co c old new AtBegin same, (tt, ap may_go same ∙ stopped));
  begun = unbegun;
  given = λ begun. cc (begun, unbegun);
}

refused-by : (cause : Cause) (co : Course) (number made : ℕ) (r : Reply) → number ≡ made
    → steps.Refused cause ≡ end_by made r
    → (at_begin co number r ≡ refused cause) × (is_done r ≡ false)
refused-by cause co number made Done count is = absurd cc
refused-by cause co number made r count is =
    let same : cause_of 0 made r ≡ cause = cc in
    (ap (λ (n : ℕ). refused (cause_of 0 n r)) count ∙ ap refused same, refl)

over-refused : (cause : Cause) → IsOver (refused cause) (Refused cause)
unfolding finish_of
over-refused cause = refl

pub adds-refused : (co : Course) (c : Command) (att : Att) (netns : List ℕ) (cause : Cause)
    (old new : JournalView) (b : Begun)
    → IsFor att netns c → CallEndsAs (Begin att netns) old new (Ok (steps.Refused cause)) → b.begun ≡ false
    → Adds co c old new b (Ok (parts.Over (Refused cause)))
adds-refused co c att netns cause old new b about_it ends unbegun =
    let made = made_next old (Begin att netns) in
    let by =
    refused-by cause co (old.made + 1) new.made made.reply (sym (ap (λ (j : JournalView). j.made) ends.0)) ends.1 in
    let P : State → Type 0 = λ t. Went co c (made ∷ []) old new AtBegin t in
    record {
      entries = made ∷ [];
      ends = (refused cause, subst P by.0 (went-begin co c att netns old new about_it ends.0), over-refused cause);
      begun = unbegun ∙ sym (no_begin att netns made.reply by.1);
      given = λ begun. cc (begun, unbegun);
    }

pub adds-unmade : (co : Course) (c : Command) (att : Att) (netns : List ℕ) (old new : JournalView) (b : Begun)
    (result : Result PartEnd NoMemory) (e : NoMemory) → IsFor att netns c → result ≡ Err e
    → CallEndsAs (Begin att netns) old new (Err e) → b.begun ≡ false → Adds co c old new b result
adds-unmade co c att netns old new b result e about_it is ends unbegun = elim ends [
  | inl same ↦ adds-none co c old new b result e is same unbegun
  | inr refusal ↦ (
      let made = made_next old (Begin att netns) in
      let P : Result PartEnd NoMemory → Type 0 = λ r. Adds co c old new b r in
      subst P (sym is) (record {
        entries = made ∷ [];
        ends = (at_begin co (old.made + 1) made.reply, went-begin co c att netns old new about_it refusal.0);
        begun = unbegun ∙ sym (no_begin att netns made.reply refusal.1);
        given = λ begun. cc (begun, unbegun);
      }))
]

granted-by : (made : ℕ) (r : Reply) → steps.Granted ≡ end_by made r → r ≡ Done
granted-by made Done is = refl
granted-by made _ is = absurd cc

-- Begin was granted, and all else followed
pub adds-begun : (co : Course) (c : Command) (att : Att) (netns : List ℕ) (ipam : Option HostLocalConf) (row : Row)
    (old mid new : JournalView) (b : Begun) (result : Result PartEnd NoMemory) → IsFor att netns c
    → IsCourseOf ipam b co
    → CallEndsAs (Begin att netns) old mid (Ok steps.Granted) → b.begun ≡ true → row ≡ b.row
    → BegunEnds att (sets_by ipam) ipam row b.given.items mid new result → Adds co c old new b result
adds-begun co c att netns ipam row old mid new b result about_it course begin begun same rest =
    let made = made_next old (Begin att netns) in
    let done : made.reply ≡ Done = granted-by mid.made made.reply begin.1 in
    let first : Went co c (made ∷ []) old mid AtBegin (leasing co (sets_by ipam) []) =
    let P : Reply → Type 0 = λ r. Went co c (made ∷ []) old mid AtBegin (at_begin co (old.made + 1) r) in
    let Q : List RangeSet → Type 0 = λ sets. Went co c (made ∷ []) old mid AtBegin (leasing co sets []) in
    subst Q course.sets (subst P done (went-begin co c att netns old mid about_it begin.0)) in
    let on = rest co c about_it.att (course.forward begun ∙ ap (λ (r : Row). forward_of (Some r)) (sym same))
    (course.kinds begun ∙ ap (λ (r : Row). kinds_back ipam (Some r)) (sym same)) in
    record {
      entries = made ∷ on.entries;
      ends =
          ends-after co c (made ∷ []) on.entries old mid new AtBegin (leasing co (sets_by ipam) []) result
          first on.ends;
      begun = begun ∙ sym (ap (λ (r : Reply). is_begun (Begin att netns) r) done);
      given = λ was. on.leased ∙ sym (ap (λ (r : Reply). leases_in (r ∷ replies on.entries)) done);
    }
