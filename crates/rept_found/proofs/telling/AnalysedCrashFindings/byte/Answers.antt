use Rattle.std.proofs.Common.{◌≡◌, subst}
use Rattle.rept_reason.specs.declared.fact.Cell.TheVariants.{Byte}
use Rattle.rept_facts.specs.Kept.{answers}
use Rattle.rept_found.specs.Crash.{means}
use Rattle.rept_found.specs.View.{CrashView, state_in}
use Rattle.rept_found.proofs.telling.AnalysedCrashFindings.byte.Goals as goal

pub returns : goal.returns
returns g c = subst (λ (v : CrashView g.row.W.Denot g.row.R.Denot). c.byte.result ≡ answers (state_in (means g.W.Partial.sets g.W.Transfer.moves g.R.RowRules.rules) v) c.args.moment (Byte c.args.address)) c.self.view_is (c.byte.ensures.ended c.self.invariant.0)
