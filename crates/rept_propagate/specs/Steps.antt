-- The steps on which the bytes of a word go together. This project's own.
use Rattle.std.specs.Prelude.{◌<◌, ◌≤◌, ℕ}
use Rattle.rept_propagate.specs.declared.step.WordStep.{WordStep}
use Rattle.rept_propagate.specs.declared.step.WordStep.TheVariants.{Down, Former, Later, Onward}

-- the numbers of a step are some of the run's, and one to which it leads back isn't the first
abbrev pub IsStepWithin : ℕ → WordStep → Type 0
IsStepWithin end (Down number) = number ≤ end
IsStepWithin end (Former first known) = (0 < first) × (first ≤ end)
IsStepWithin end (Later first) = first ≤ end
IsStepWithin end (Onward number) = number ≤ end
