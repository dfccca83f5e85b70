use Rattle.std.proofs.Common.{◌≡◌, take}
use Rattle.std.specs.Prelude.{slice_get}
use Rattle.std.specs.List.{filter}
use Rattle.rept_questions.specs.Texts.{is_of}
use Rattle.rept_questions.proofs.writers.group_of.Given as goal

abbrev pub invariant-loop-step : goal.invariant-loop-step
invariant-loop-step l = l.group.items ≡ filter (λ k. is_of l.pc (slice_get l.rows k)) (take l.step-index l.steps)
