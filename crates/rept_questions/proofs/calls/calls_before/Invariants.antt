use Rattle.std.proofs.Common.{◌≡◌}
use Rattle.std.specs.Prelude.{slice_get}
use Rattle.std.specs.List.{filter, range_with_len}
use Rattle.rept_questions.specs.Calls.{is_call_row}
use Rattle.rept_questions.proofs.calls.calls_before.Given as goal

abbrev pub invariant-loop-step : goal.invariant-loop-step
invariant-loop-step l = l.steps.items ≡ filter (λ j. is_call_row (slice_get l.rows j)) (range_with_len 0 l.step)
