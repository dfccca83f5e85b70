use Rattle.std.proofs.Common.{◌∙◌, sym, subst}
use Rattle.rept_report.specs.Why.{IsKnownBecause}
use Rattle.rept_log.specs.Fronts.{FrontView, IsNotKept, setting_in, stands, told_by}
use Rattle.rept_log.proofs.Reasoning.{if_none, some_after}
use Rattle.rept_facts.proofs.facts.CrashFacts.known_below.Goals as goal

pub known_by_sets-requires-clause-kept : goal.known_by_sets-requires-clause-kept
known_by_sets-requires-clause-kept g c = subst (λ (f : FrontView g.row.W.Denot). IsNotKept f c.args.fact.now c.args.r) c.registers-registers.ensures (if_none _ c.of_register-found.result (sym c.is_some.ensures ∙ c.if-is_some.false) c.of_register-found.ensures.kept)

pub returns-then-is_some-clause-found : goal.returns-then-is_some-clause-found
returns-then-is_some-clause-found g c = some_after _ _ c.of_register-found.result (λ reason by. subst (λ (f : FrontView g.row.W.Denot). IsKnownBecause (setting_in f) (stands f) c.args.fact.now (told_by reason)) c.registers-registers.ensures by) c.of_register-found.ensures.found
