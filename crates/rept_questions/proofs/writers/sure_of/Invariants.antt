use Rattle.std.proofs.Common.{◌≡◌, take}
use Rattle.std.specs.List.{filter}
use Rattle.rept_questions.specs.Texts.{is_sure_step}
use Rattle.rept_questions.proofs.writers.sure_of.Given as goal

abbrev pub invariant-loop-step : goal.invariant-loop-step
invariant-loop-step g l = l.sure.items ≡ filter (is_sure_step (g.F.Findings.shown l.findings) l.sought.bytes l.sought.thread) (take l.step-index l.steps)
