-- From what was prepared and found to the report of a run.
use Rattle.std.proofs.Common.{◌≡◌, ℕ, ◌≤◌, List, [], length, Option, None, unwrap_or, refl, sym, ap, subst, ◌∙◌, arith}
use Rattle.rept_elf.specs.Header.{half_at}
use Rattle.rept_dump.specs.Dump.{registers_of}
use Rattle.rept_dump.specs.declared.dump.Dump.{Dump}
use Rattle.rept_isa.specs.declared.row.StepRow.{StepRow}
use Rattle.rept_steps.specs.Course.{Course, IsSoundCourse}
use Rattle.rept_steps.specs.Runs.{course_of}
use Rattle.rept_steps.specs.declared.run.Run.{Run}
use Rattle.rept_moments.specs.Courses.{IsCourseOf}
use Rattle.rept_moments.specs.Points.{points_in}
use Rattle.rept_timeline.specs.Small.{IsSmall}
use Rattle.rept_timeline.proofs.Counting.{all_points}
use Rattle.rept_moments.specs.declared.course.NumberedRun as courses
use Rattle.rept_report.specs.Closure.{ClosureHas}
use Rattle.rept_report.specs.OneThread.{path_setting}
use Rattle.rept_report.specs.Setting.{Setting}
use Rattle.rept_report.specs.declared.conflict.ConflictKind.{ConflictKind}
use Rattle.rept_facts.specs.Kept.{answers}
use Rattle.rept_found.specs.Trip.Executed.{HasNoHistory}
use Rattle.rept_found.specs.Trip.Trip.{Trip, setting_on}
use Rattle.rept_found.specs.Crash.{Crash, Means, Scene, crash_of, note_at, path_of, scene_of, setting, route}
use Rattle.rept_timeline.specs.Ends.{AreNoted, Ends}
use Rattle.rept_found.specs.Truth.{HasNoExecutionOfPath}
use Rattle.rept_found.specs.View.{CrashView, IsFoundIn, IsPreparedFor, scene_in, state_in, trip_in}
use Rattle.rept_found.proofs.Alone.{alone_setting}
use Rattle.rept_found.proofs.Settings.{found_there}
use Rattle.rept_opening.specs.Reading.{AreNotesOf}
use Rattle.rept_ports.specs.Port.{Port, PortMove}
use Rattle.rept_findings.specs.Shown.{SessionTold}
use Rattle.rept_opening.specs.Report.{AreEndsOf, IsAsked}
use Rattle.rept_opening.specs.declared.words.request.Domain.{Domain}
use Rattle.rept_opening.specs.Domains.{SetsOf, means_of}
use Rattle.rept_opening.specs.Opened.{CrashRun, IsBeyond, RunAccount, crash_run, told_by}
use Rattle.rept_opening.specs.TraceRun.{FitsDump}
use Rattle.rept_opening.specs.True.{HasNoExecutionToCrash}
use Rattle.rept_opening.proofs.RunLemmas.{IsWhole, some_first}

-- what is told of an analysis that has ended, and of which it is the account
module _ {W R : Type 0} (m : Means W) (v : CrashView W R) (crash : Crash) (run : Run) (found : IsFoundIn m (route m crash (course_of run)) (scene_of crash) v) where
  abbrev pub account_of : RunAccount
  account_of = record { known = answers (state_in m v); log = (state_in m v).known.log; scene = scene_in v; skipped = run.skipped; beyond = None }

  -- what was asked of it was asked over that account
  pub asked_over : {E : Type 0} (Asks : SessionTold → ℕ → PortMove Port → PortMove Port → E → Type 0) (signal : ℕ) (source sink : PortMove Port) (end : E) → signal ≡ half_at (note_at crash 0) 12
      → Asks (told_by (trip_in m v) account_of) signal source sink end → IsAsked Asks (crash_run m crash run) source sink end
  asked_over {E} Asks signal source sink end is h = record {
    account = account_of;
    report = record { report = found.report; log = found.log; scene = found.same_scene; skipped = refl; beyond = tt };
    asked = subst (λ (s : ℕ). Asks (told_by (route m crash (course_of run)) account_of) s source sink end) is (subst (λ (t : Trip W). Asks (told_by t account_of) signal source sink end) found.trip h);
  }

-- the signal of a dump is that of its first note
pub first_signal : (dump : Dump) (notes : List (List ℕ)) → AreNotesOf dump notes → (signal : ℕ) → signal ≡ half_at (registers_of dump) 12 → signal ≡ half_at (note_at (crash_of dump notes) 0) 12
first_signal dump notes are signal e = e ∙ sym (ap (λ (o : Option (List ℕ)). half_at (unwrap_or o []) 12) are.first)

-- what holds of a run in the sets of one domain holds in those of a domain that is the same
pub in_domain : (P : (d : Domain) → CrashRun (SetsOf d) → Type 0) (d e : Domain) (crash : Crash) (run : Run) → d ≡ e → P e (crash_run (means_of e) crash run) → P d (crash_run (means_of d) crash run)
in_domain P d e crash run same h = subst (λ (x : Domain). P x (crash_run (means_of x) crash run)) (sym same) h

-- what is prepared over the ends of a run's threads is so for the run
module _ {W : Type 0} (m : Means W) (dump : Dump) (run : Run) (ends_of : Ends) (fits : FitsDump dump run) (its : AreEndsOf dump run ends_of) where
  pub sound_ends : IsSoundCourse ends_of.course
  sound_ends = subst (λ (C : Course). IsSoundCourse C) (sym its.course) fits.sound

  pub course_ends : (c : courses.NumberedRun) → IsCourseOf (course_of run) c → IsCourseOf ends_of.course c
  course_ends c is = subst (λ (C : Course). IsCourseOf C c) (sym its.course) is

  pub prepared_for : {R : Type 0} (notes : List (List ℕ)) → AreNotesOf dump notes → (p : CrashView W R)
      → ((ns : List (List ℕ)) → AreNoted ns ends_of.statuses → length ends_of.statuses ≡ length ns → IsPreparedFor m (route m (crash_of dump ns) ends_of.course) (scene_of (crash_of dump ns)) p)
      → IsPreparedFor m (route m (crash_of dump notes) (course_of run)) (scene_of (crash_of dump notes)) p
  prepared_for notes are p prepared =
      let count = its.count in
      let each = fits.threads in
      let noted = are.count in
      subst (λ (C : Course). IsPreparedFor m (route m (crash_of dump notes) C) (scene_of (crash_of dump notes)) p) its.course (prepared notes (its.noted notes are.threads) (omega (arith, count, each, noted)))

-- a small run has few points
pub few_points : (C : Course) → IsSmall C → points_in C ≤ 66560
few_points C small = let all = all_points C.threads in let rows = small.rows in let threads = small.threads in omega (arith, all, rows, threads)

-- such a run is one of some threads, each of which has a note
pub whole_fits : (dump : Dump) (run : Run) (notes : List (List ℕ)) → FitsDump dump run → AreNotesOf dump notes → IsWhole (crash_of dump notes) run
whole_fits dump run notes fits are = record { sound = fits.sound; some = fits.some; noted = some_first notes _ are.first }

-- a conflict of the trip that was prepared
pub conflict_there : {W R : Type 0} (m : Means W) (t : Trip W) (scene : Scene) (p : CrashView W R) (kind : ConflictKind) → IsPreparedFor m t scene p → ClosureHas (setting_on (trip_in m p)) kind → ClosureHas (setting_on t) kind
conflict_there {W} m t scene p kind at has = subst (λ (x : Trip W). ClosureHas (setting_on x) kind) at.trip has

-- no execution of all threads, nor of the path that the run may be
pub excluded_run : {W : Type 0} (m : Means W) (crash : Crash) (run : Run) (kind : ConflictKind) → IsWhole crash run → ClosureHas (setting m crash (course_of run)) kind → HasNoHistory (route m crash (course_of run))
    → ((crash : Crash) (rows : List StepRow) (kind : ConflictKind) → ClosureHas (path_setting (path_of m crash rows)) kind → HasNoExecutionOfPath (path_of m crash rows)) → HasNoExecutionToCrash (crash_run m crash run)
excluded_run {W} m crash run kind whole has none excludes = record {
  threads = none;
  alone = λ rows one. excludes crash rows kind (subst (λ (S : Setting W). ClosureHas S kind) (alone_setting m rows crash (course_of run) one whole.noted) has);
}

-- what is prepared over the ends of a run's threads, and what is found of it
module _ {W R : Type 0} (m : Means W) (dump : Dump) (run : Run) (ends_of : Ends) (fits : FitsDump dump run) (its : AreEndsOf dump run ends_of) (notes : List (List ℕ)) (are : AreNotesOf dump notes) (p : CrashView W R)
    (prepared : (ns : List (List ℕ)) → AreNoted ns ends_of.statuses → length ends_of.statuses ≡ length ns → IsPreparedFor m (route m (crash_of dump ns) ends_of.course) (scene_of (crash_of dump ns)) p) where
  abbrev Crashed : Crash
  Crashed = crash_of dump notes

  here : IsPreparedFor m (route m Crashed (course_of run)) (scene_of Crashed) p
  here = prepared_for m dump run ends_of fits its notes are p prepared

  pub found_here : (v : CrashView W R) → IsFoundIn m (trip_in m p) (scene_in p) v → IsFoundIn m (route m Crashed (course_of run)) (scene_of Crashed) v
  found_here v found = found_there m p v (route m Crashed (course_of run)) (scene_of Crashed) here found

  pub conflict_here : (kind : ConflictKind) → ClosureHas (setting_on (trip_in m p)) kind → ClosureHas (setting m Crashed (course_of run)) kind
  conflict_here kind has = conflict_there m (route m Crashed (course_of run)) (scene_of Crashed) p kind here has

  pub excluded_here : (kind : ConflictKind) → ClosureHas (setting_on (trip_in m p)) kind → HasNoHistory (trip_in m p)
      → ((crash : Crash) (rows : List StepRow) (kind : ConflictKind) → ClosureHas (path_setting (path_of m crash rows)) kind → HasNoExecutionOfPath (path_of m crash rows)) → HasNoExecutionToCrash (crash_run m Crashed run)
  excluded_here kind has none excludes =
      excluded_run m Crashed run kind (whole_fits dump run notes fits are) (conflict_here kind has) (subst (λ (t : Trip W). HasNoHistory t) here.trip none) excludes
