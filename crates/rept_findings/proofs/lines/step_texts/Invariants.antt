use Rattle.std.proofs.Common.{◌≡◌, ◌-◌, slice_get}
use Rattle.std.specs.List.{flat_map, range_with_len}
use Rattle.rept_findings.specs.Texts.{step_line}
use Rattle.rept_findings.proofs.lines.step_texts.Given as goal

abbrev pub invariant-loop-step : goal.invariant-loop-step
invariant-loop-step l = l.text ≡ flat_map (λ j. step_line j (slice_get l.rows j)) (range_with_len l.first (l.step - l.first))
