use Rattle.std.proofs.Common.{IfOk, IfSome, IfNone, subst}
use Rattle.rept_report.specs.Why.{Because, IsCarriedBecause}
use Rattle.rept_log.specs.Fronts.{FrontView, setting_in, told_by}
use Rattle.rept_facts.proofs.facts.CrashFacts.carried_below.Goals as goal

pub returns-clause-found : goal.returns-clause-found
returns-clause-found g c = subst (λ (f : FrontView g.row.W.Denot). IfOk c.carried.result (λ found. IfSome found (λ reason. IsCarriedBecause (setting_in f) f.facts c.args.fact.now (told_by reason)))) c.front-front.ensures c.carried.ensures.found

pub returns-clause-none : goal.returns-clause-none
returns-clause-none g c = subst (λ (f : FrontView g.row.W.Denot). IfOk c.carried.result (λ found. IfNone found ((why : Because) → IsCarriedBecause (setting_in f) f.facts c.args.fact.now why → ⊥))) c.front-front.ensures c.carried.ensures.none
