use Rattle.std.proofs.Common.{◌≡◌, ◌++◌, take}
use Rattle.std.specs.List.{flat_map}
use Rattle.rept_questions.specs.Calls.{call_at}
use Rattle.rept_questions.proofs.calls.push_calls.Given as goal

abbrev pub invariant-loop-step : goal.invariant-loop-step
invariant-loop-step g l = l.text ≡ l.fn.text ++ flat_map (call_at (g.F.Findings.shown l.findings) l.thread) (take l.step-index l.steps)
