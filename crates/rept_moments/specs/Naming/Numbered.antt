-- The rows of a course by the points that they lead from, its moments by their names, and a run of
-- it by these numbers. Rows that can't write memory, whatever is known of them, may act nowhere: a
-- name may have a moment before such a row and one after it. This project's own.
use Rattle.std.specs.Prelude.{ℕ, ◌-◌, ◌&&◌, ◌||◌, not, Bool, false, length, Option, Some, None}
use Rattle.std.specs.Option.{is_some}
use Rattle.rept_steps.specs.Course.{Course, Row}
use Rattle.rept_order.specs.Moments.{Stretch, stores}
use Rattle.rept_order.specs.Moments.Moment.{before, after}
use Rattle.rept_order.specs.Moments.Act.{row, untraced}
use Rattle.rept_order.specs.Times.{not_later, wholly_before, wholly_after, may_act_between}
use Rattle.rept_order.specs.Links.{moments_left}
use Rattle.rept_order.specs.Legs.{points_before, point_at, row_from, leg_row}
use Rattle.rept_order.specs.History.{Ending}
use Rattle.rept_order.specs.Interleaved as interleaved
use Rattle.rept_partial.specs.Sets.{Sets}
use Rattle.rept_span.specs.Moves.{Moves}
use Rattle.rept_span.specs.Ranges.{Legs}
use Rattle.rept_reason.specs.View.Rules.{Rules}
use Rattle.rept_report.specs.Moments.{Moments}
use Rattle.rept_report.specs.Setting.{Setting}
use Rattle.rept_report.specs.Runs.{Run}
use Rattle.rept_moments.specs.Naming.Names.{MomentNames}

-- the points of all threads, and the rows between them
abbrev pub legs_on : Course → Legs
legs_on C = record { row = leg_row C; count = points_before C.threads (length C.threads) - 1 }

-- the row that leads from a point
abbrev pub row_on : Course → ℕ → Row
row_on C i = row_from (point_at C i)

abbrev pub may_act_by : Course → Row → Option Stretch → Bool
may_act_by C r None = false
may_act_by C r (Some x) = stores C r && may_act_between C (row r) x.from x.to

abbrev pub untraced_by : Course → Option Stretch → Bool
untraced_by C None = false
untraced_by C (Some x) = is_some C.untraced && may_act_between C untraced x.from x.to

abbrev pub moments_of : Course → MomentNames → Moments
moments_of C N = record {
  before = λ i. N.name (before (row_on C i));
  after = λ i. N.name (after (row_on C i));
  end = N.end;
  next = λ m w. is_some (N.link m w);
  may_act = λ i m w. may_act_by C (row_on C i) (N.link m w);
  untraced = λ m w. untraced_by C (N.link m w);
  past = λ i m. not (stores C (row_on C i)) || wholly_before C (row (row_on C i)) (N.last m);
  ahead = λ i m. wholly_after C (row (row_on C i)) (N.last m);
  later = λ i j. not_later C (after (row_on C j)) (before (row_on C i));
  is_untraced = is_some C.untraced;
  untraced_past = λ m. not (is_some C.untraced) || wholly_before C untraced (N.last m);
  untraced_before = λ i. not (is_some C.untraced) || wholly_before C untraced (before (row_on C i));
  left = λ m. moments_left C (N.last m);
}

-- what is given of a course and how it ended
abbrev pub setting_of : {W : Type 0} → Sets W → Moves W → Rules → Course → Ending → MomentNames → Setting W
setting_of sets moves rules C D N = record {
  sets = sets;
  moves = moves;
  rules = rules;
  legs = legs_on C;
  moments = moments_of C N;
  last = λ p. D.registers (point_at C p).thread;
  dump = D.dump;
  image_end = D.image_end;
}

-- a run by points and names
abbrev pub run_seen : MomentNames → interleaved.CourseRun → Run
run_seen N run = record { register = run.register; memory = λ n. run.memory (N.last n) }
