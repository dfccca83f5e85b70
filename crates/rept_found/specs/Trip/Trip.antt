-- What is analysed: what the threads of a run executed and when, how the run ended, and by which
-- sets of values and which rules of its rows it is read. This project's own.
use Rattle.rept_timeline.specs.Ends.{values_by}
use Rattle.std.specs.Prelude.{ℕ, nat_lt, if◌then◌else◌, List, length, Option, Some, None}
use Rattle.rept_isa.specs.declared.row.StepRow.{StepRow}
use Rattle.rept_steps.specs.Course.{Course}
use Rattle.rept_order.specs.History.{Ending}
use Rattle.rept_moments.specs.Seen.{alone_by, seen_by}
use Rattle.rept_partial.specs.Sets.{Sets}
use Rattle.rept_span.specs.Moves.{Moves}
use Rattle.rept_reason.specs.View.Rules.{Rules}
use Rattle.rept_report.specs.Given.{Given, setting_by}
use Rattle.rept_report.specs.Setting.{Setting}

pub record Trip (W : Type 0) : Type 0 where
  pub sets : Sets W
  pub moves : Moves W
  pub rules : Rules
  -- what each thread executed, and the slices in which it ran
  pub course : Course
  -- the registers of each thread, and the bytes of memory, at the end
  pub ending : Ending

-- what is given of it, by whether it is such a run
abbrev pub given_by : Course → Ending → Option (List StepRow) → Given
given_by C D one = record {
  legs = (seen_by C one).legs;
  moments = (seen_by C one).moments;
  last = λ p. values_by C D.registers one p;
  dump = D.dump;
  image_end = D.image_end;
}

abbrev pub given_on : Course → Ending → Given
given_on C D = given_by C D (alone_by C.threads C.untraced)

-- the setting in which a report speaks of it
abbrev pub setting_on : {W : Type 0} → Trip W → Setting W
setting_on t = setting_by t.sets t.moves t.rules (given_on t.course t.ending)
