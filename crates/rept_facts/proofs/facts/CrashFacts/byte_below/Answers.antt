use Rattle.std.proofs.Common.{◌≡◌, IfOk, subst}
use Rattle.rept_reason.specs.declared.fact.Cell.TheVariants.{Byte}
use Rattle.rept_log.specs.Fronts.{FrontView, stands}
use Rattle.rept_facts.proofs.facts.CrashFacts.byte_below.Goals as goal

pub returns : goal.returns
returns g c = subst (λ (f : FrontView g.row.W.Denot). IfOk c.byte.result (λ byte. byte ≡ stands f c.args.moment (Byte c.args.a))) c.front-front.ensures c.byte.ensures
