use Rattle.std.proofs.Common.{◌≡◌, ◌-◌, length}
use Rattle.std.specs.Prelude.{slice_get}
use Rattle.std.specs.List.{find, range_with_len}
use Rattle.rept_questions.specs.Trail.{writes_register}
use Rattle.rept_questions.proofs.lost.next_writer.Given as goal

abbrev pub invariant-loop-step : goal.invariant-loop-step
invariant-loop-step l =
    find (λ j. writes_register l.register (slice_get l.rows j)) (range_with_len l.point (length l.rows - l.point))
    ≡ find (λ j. writes_register l.register (slice_get l.rows j)) (range_with_len l.step (length l.rows - l.step))
