use Rattle.std.proofs.Common.{◌≡◌, ◌++◌, take}
use Rattle.std.specs.List.{flat_map}
use Rattle.rept_questions.specs.Texts.{group_entry}
use Rattle.rept_questions.proofs.writers.push_groups.Given as goal

abbrev pub invariant-loop-step : goal.invariant-loop-step
invariant-loop-step g l = l.text ≡ l.fn.text ++ flat_map (group_entry (g.F.Findings.shown l.findings) l.sought.bytes l.sought.thread l.steps) (take l.step-index l.steps)
