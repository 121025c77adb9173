-- What a check asks of one object, and what a denial means (CNI specification, section 3, "Checking attachment").
use Rattle.std.specs.Prelude.{ℕ, ◌+◌, List, scan}
use Rattle.kernel_types.specs.declared.call.{Call.TheVariants.HasObj, Object.Object, Probe.TheVariants.Whole}
use Rattle.kernel_types.specs.declared.object.{AddrObj.AddrObj, Lease.Lease, Link.Link, RouteObj.RouteObj}
use Rattle.kernel_types.specs.declared.{object.Setting.Setting, rule.Rule.Rule}
use Rattle.kernel_types.specs.declared.call.Object.TheVariants as objects
use Rattle.cni_errors.specs.declared.answer.{Cause.TheVariants.Missing, Missed.Missed, Question.Question}
use Rattle.cni_errors.specs.declared.answer.Missed.TheVariants as missed

abbrev pub asks_for : Object → Missed → Question
asks_for object what = record { call = HasObj (Whole object); lack = Missing what }

abbrev pub link_question : Link → Question
link_question l = asks_for (objects.Link l) (missed.Link l)

abbrev pub address_question : AddrObj → Question
address_question a = asks_for (objects.Address a) (missed.Address a)

abbrev pub route_question : RouteObj → Question
route_question r = asks_for (objects.Route r) (missed.Route r)

-- rules have no names: they are named by their place, from 1
abbrev pub rule_question : ℕ → Rule → Question
rule_question number r = asks_for (objects.Rule r) (missed.Rule r number)

abbrev pub rule_questions : ℕ → List Rule → List Question
rule_questions number rules = scan (λ n rule. n + 1) rule_question number rules

abbrev pub setting_question : Setting → Question
setting_question s = asks_for (objects.Setting s) (missed.Setting s)

abbrev pub lease_question : Lease → Question
lease_question l = asks_for (objects.Lease l) (missed.Lease l)
