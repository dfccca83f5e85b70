-- What the code of a run's course answers of threads, points and moments is what is shown of them.
use Rattle.rept_timeline.specs.Paths.{timeline}
use Rattle.std.proofs.Common.{◌≡◌, ℕ, zero, suc, ◌+◌, ◌<◌, ◌≤◌, List, [], ◌∷◌, length, map, Option, Some, None, slice_get, sym, ap, ◌∙◌, refl, subst, arith}
use Rattle.rept_isa.specs.declared.row.StepRow.{StepRow}
use Rattle.rept_dump.specs.Program.{Program}
use Rattle.rept_dump.specs.declared.status.Status.{Status}
use Rattle.rept_steps.specs.declared.threads.ThreadRows.{ThreadRows}
use Rattle.rept_steps.specs.Course.{Course, rows_of}
use Rattle.rept_order.specs.Legs.{points_before}
use Rattle.rept_report.specs.Given.{Given}
use Rattle.rept_span.specs.Ranges.{Legs}
use Rattle.rept_report.specs.Moments.{Moments, AreMoments}
use Rattle.rept_moments.specs.declared.course.NumberedRun as courses
use Rattle.rept_moments.specs.Courses.{first_in, seen_in, IsCourseOf}
use Rattle.rept_report.specs.Timeline.{moment_by}
use Rattle.rept_moments.specs.Seen.{SeenMoments, seen, moment_in}
use Rattle.rept_timeline.proofs.Only.{is_only}
use Rattle.rept_found.specs.Crash.{ended_at}
use Rattle.rept_found.specs.View.{CrashView, IsOfRun, ended_as}
use Rattle.rept_timeline.proofs.Enders.{points_fit}
use Rattle.rept_found.proofs.Settings.{points_are, seen_same}

-- the first points of threads
pub first_same : (C : Course) (c : courses.NumberedRun) → IsCourseOf C c → (t : ℕ) → t < length C.threads → first_in c t ≡ points_before C.threads t
first_same C (courses.TheVariants.One steps) its t below =
    let only = is_only C.threads C.untraced steps.now its in
    let one : length C.threads ≡ 1 = ap (λ (xs : List ThreadRows). length xs) only.is in
    let none : t ≡ 0 = omega arith in
    sym (ap (λ (xs : List ThreadRows). points_before xs t) only.is ∙ ap (points_before (only.only ∷ [])) none)
first_same C (courses.TheVariants.Many many) its t below = ap (λ (D : Course). points_before D.threads t) its.0

-- all points of a thread are points
pub thread_fits : (C : Course) (t : ℕ) → 0 < length C.threads → t < length C.threads → points_before C.threads t + length (rows_of C t) < (seen C).legs.count + 1
thread_fits C t some below =
    let fit = points_fit C t (points_before C.threads t) (length (rows_of C t)) below refl refl in
    let all = points_are C some in
    omega arith

-- the moment at a point is one
within_by : (legs : Legs) (moments : Moments) → AreMoments legs moments → (p : ℕ) (o : Option StepRow) → legs.row p ≡ o → moment_by moments o p ≤ moments.end
within_by legs moments laws p None e = omega arith
within_by legs moments laws p (Some row) e = laws.rows_before p row e

pub moment_within : (C : Course) (c : courses.NumberedRun) → IsCourseOf C c → AreMoments (seen_in c).legs (seen_in c).moments → (p : ℕ) → moment_in (seen C) p < (seen C).moments.end + 1
moment_within C c its laws p =
    let here = subst (λ (x : SeenMoments). moment_in x p ≤ x.moments.end) (seen_same C c its) (within_by (seen_in c).legs (seen_in c).moments laws p ((seen_in c).legs.row p) refl) in
    omega arith

-- the end of a thread that has a status
pub ended_there : (statuses : List Status) (program : Program) (t : ℕ) (status : Status) → slice_get statuses t ≡ Some status → ended_at (record { threads = map ended_as statuses; program = program }) t ≡ ended_as status
ended_there [] program t status e = cc
ended_there (x ∷ statuses) program zero status e = ap ended_as (some_is e)
  where
    some_is : {a b : Status} → Some a ≡ Some b → a ≡ b
    some_is e = cc
ended_there (x ∷ statuses) program (suc t) status e = ended_there statuses program t status e

-- a point or moment that is shown is one that the analysis goes over
module _ {W R : Type 0} (v : CrashView W R) (of : IsOfRun v) where
  pub point_inside : (p : ℕ) → p < (seen v.ends.course).legs.count + 1 → p ≤ (timeline v.analysis.paths).legs.count
  point_inside p below = subst (λ (g : Given). p ≤ g.legs.count) (sym of.given) (omega arith)

  pub moment_inside : (m : ℕ) → m < (seen v.ends.course).moments.end + 1 → m ≤ (timeline v.analysis.paths).moments.end
  moment_inside m below = subst (λ (g : Given). m ≤ g.moments.end) (sym of.given) (omega arith)
