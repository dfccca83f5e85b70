use Rattle.std.proofs.Common.{sym, IfOk, IfSome, IfNone, subst}
use Rattle.rept_report.specs.Why.{Because, IsKnownBecause}
use Rattle.rept_log.specs.Fronts.{FrontView, IsNotKept, setting_in, stands, told_by}
use Rattle.rept_facts.proofs.facts.CrashFacts.known_by_sets.Goals as goal

pub returns-clause-found : goal.returns-clause-found
returns-clause-found g c = subst (λ (f : FrontView g.row.W.Denot). IfOk c.of_register.result (λ found. IfSome found (λ reason. IsKnownBecause (setting_in f) (stands f) c.args.fact.now (told_by reason)))) c.front-front.ensures c.of_register.ensures.found

pub returns-clause-none : goal.returns-clause-none
returns-clause-none g c = subst (λ (f : FrontView g.row.W.Denot). IfOk c.of_register.result (λ found. IfNone found ((why : Because) → IsKnownBecause (setting_in f) (stands f) c.args.fact.now why → ⊥))) c.front-front.ensures c.of_register.ensures.none

pub of_register-requires-clause-kept : goal.of_register-requires-clause-kept
of_register-requires-clause-kept g c = subst (λ (f : FrontView g.row.W.Denot). IsNotKept f c.args.fact.now c.args.r) (sym c.front-front.ensures) c.requires.kept
