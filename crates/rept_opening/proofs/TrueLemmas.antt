-- The report of what was opened is true.
use Rattle.std.proofs.Common.{◌<◌, List, length, ◌∙◌, subst}
use Rattle.rept_isa.specs.declared.row.StepRow.{StepRow}
use Rattle.rept_steps.specs.Course.{Course, IsSoundCourse}
use Rattle.rept_steps.specs.Runs.{course_of}
use Rattle.rept_steps.specs.declared.run.Run.{Run}
use Rattle.rept_order.specs.History.{Ending}
use Rattle.rept_reason.specs.Facts.{Knowledge}
use Rattle.rept_report.specs.Closure.{IsReport}
use Rattle.rept_report.specs.OneThread.{path_setting}
use Rattle.rept_report.specs.Setting.{Setting}
use Rattle.rept_streams.specs.Runs.Kind.{is_several}
use Rattle.rept_found.specs.Trip.Trip.{setting_on}
use Rattle.rept_found.specs.Crash.{Crash, Means, ending_of, means_beyond, path_of, route, setting, trip_by}
use Rattle.rept_found.specs.Histories.{IsTrueTrip}
use Rattle.rept_found.specs.Truth.{IsTrueReport}
use Rattle.rept_found.proofs.Alone.{alone_setting, alone_shown}
use Rattle.rept_opening.specs.declared.words.request.Domain.{Domain}
use Rattle.rept_opening.specs.declared.words.request.Domain.TheVariants as domain
use Rattle.rept_opening.specs.Domains.{means_of}
use Rattle.rept_opening.specs.Opened.{Opening, ReadsNotes, crash_at, crash_run}
use Rattle.rept_opening.specs.TraceRun.{IsRunFor}
use Rattle.rept_opening.specs.True.{IsTrue}
use Rattle.rept_opening.proofs.EndedLemmas.{analysed_whole}
use Rattle.rept_opening.proofs.LoneLemmas.{lone_run, lone_told}
use Rattle.rept_opening.proofs.LoneNumbers.{TouchesByStores}
use Rattle.rept_opening.proofs.LonePaths.{lone_path}
use Rattle.rept_opening.proofs.LoneShown.{atomic_touches, lone_report, lone_same}
use Rattle.rept_opening.proofs.Notes.{some_said}
use Rattle.rept_opening.proofs.OrderLemmas.{by_order}
use Rattle.rept_opening.proofs.RunLemmas.{IsWhole}

abbrev pub TrueOf : {W : Type 0} → Means W → Type 0
TrueOf m = (crash : Crash) (run : Run) (known : Knowledge) → IsWhole crash run → IsReport (setting m crash (course_of run)) known → IsTrue (crash_run m crash run) known

-- of all threads, and of one path in its own words
true_by : {W : Type 0} (m : Means W) → TouchesByStores m.rules → ((C : Course) (D : Ending) (K : Knowledge) → IsSoundCourse C → 0 < length C.threads → IsReport (setting_on (trip_by m C D)) K → IsTrueTrip (trip_by m C D) K)
    → ((crash : Crash) (rows : List StepRow) (K : Knowledge) → IsReport (path_setting (path_of m crash rows)) K → IsTrueReport (path_of m crash rows) K) → TrueOf m
true_by {W} m touches trips paths crash run known whole report = record {
  threads = trips (course_of run) (ending_of crash) known whole.sound whole.some report;
  alone = λ rows one. record {
    shown = λ scene. alone_shown m rows crash (course_of run) known scene one whole.noted;
    holds = paths crash rows known (subst (λ (S : Setting W). IsReport S known) (alone_setting m rows crash (course_of run) one whole.noted) report);
  };
  lone = λ rows one noted. record {
    shared = λ states x. lone_run m crash.exe crash.core crash.notes (course_of run) rows states whole.sound one noted x;
    of_path = λ h x. lone_path m crash.exe crash.core crash.notes (course_of run) rows h whole.sound one noted x;
    told = λ scene states x.
        lone_told m (course_of run) (ending_of crash) known rows states whole.sound one (trips (course_of run) (ending_of crash) known whole.sound whole.some report) (lone_run m crash.exe crash.core crash.notes (course_of run) rows states whole.sound one noted x) scene;
    report = lone_report m touches crash.exe crash.core (course_of run) rows known crash.notes whole.sound one noted report;
    same = λ scene. lone_same m touches crash.exe crash.core (course_of run) rows known crash.notes whole.sound one noted scene;
  };
  order = λ several. by_order (route m crash (course_of run)) known whole.sound several;
}

-- in each domain its rows touch bytes only where they store
touches_in : (d : Domain) → TouchesByStores (means_of d).rules
touches_in domain.Ranges = atomic_touches
touches_in domain.KnownBits = atomic_touches
touches_in domain.Inferred = atomic_touches

pub true_of : (d : Domain)
    → ((C : Course) (D : Ending) (K : Knowledge) → IsSoundCourse C → 0 < length C.threads → IsReport (setting_on (trip_by (means_of d) C D)) K → IsTrueTrip (trip_by (means_of d) C D) K)
    → ((crash : Crash) (rows : List StepRow) (K : Knowledge) → IsReport (path_setting (path_of (means_of d) crash rows)) K → IsTrueReport (path_of (means_of d) crash rows) K) → TrueOf (means_of d)
true_of d trips paths = true_by (means_of d) (touches_in d) trips paths

-- so it is where more is inferred beyond the report
still_true : {W : Type 0} (m : Means W) (crash : Crash) (run : Run) (known : Knowledge) → IsTrue (crash_run m crash run) known → IsTrue (crash_run (means_beyond m) crash run) known
still_true m crash run known t = record {
  threads = t.threads;
  alone = λ rows one. let a = t.alone rows one in record { shown = a.shown; holds = a.holds };
  lone = λ rows one noted. let l = t.lone rows one noted in record { shared = l.shared; of_path = l.of_path; told = l.told; report = l.report; same = l.same };
  order = t.order;
}

-- what is told of the report of any such run is true, in each domain
abbrev pub ReportsAreTrue : Type 0
ReportsAreTrue = (d : Domain) (crash : Crash) (run : Run) (known : Knowledge) → IsWhole crash run → IsReport (setting (means_of d) crash (course_of run)) known → IsTrue (crash_run (means_of d) crash run) known

pub true_in_both : TrueOf (means_of domain.Ranges) → TrueOf (means_of domain.KnownBits) → ReportsAreTrue
true_in_both ranges bits domain.Ranges = ranges
true_in_both ranges bits domain.KnownBits = bits
true_in_both ranges bits domain.Inferred = λ crash run known whole report. still_true (means_of domain.KnownBits) crash run known (bits crash run known whole report)

-- what files come to is such a run
pub opened_whole : (o : Opening) → ReadsNotes o.bytes o.notes → IsRunFor (crash_at o) o.bytes.trace o.bytes.manner o.run → IsWhole (crash_at o) o.run
opened_whole o read told = analysed_whole (crash_at o) o.bytes.trace o.bytes.manner o.run (some_said (is_several o.bytes.trace) o.bytes.core o.notes read.noted) told
