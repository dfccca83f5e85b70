-- What holds of the report of the files that words name, where a conflict is told, and of a made
-- run. This project's own.
use Rattle.std.specs.Prelude.{◌≡◌, ℕ, ◌<◌, ◌≤◌, true, List, Option, None, Some, MatchOption}
use Rattle.rept_ports.specs.Shelves.{Files}
use Rattle.rept_steps.specs.Course.{Course}
use Rattle.rept_steps.specs.Runs.{course_of}
use Rattle.rept_steps.specs.declared.run.Run.{Run}
use Rattle.rept_reason.specs.Facts.{Knowledge}
use Rattle.rept_span.specs.Ranges.{range}
use Rattle.rept_report.specs.Setting.{way_of}
use Rattle.rept_report.specs.Knowing.{Extends}
use Rattle.rept_report.specs.Closure.{IsConsistent, IsReport}
use Rattle.rept_findings.specs.Shown.{Shown}
use Rattle.rept_found.specs.Telling.{shown_on}
use Rattle.rept_known.specs.declared.both.Both.{Both}
use Rattle.rept_make.specs.Made.{IsMade}
use Rattle.rept_make.specs.declared.made.Made.{Made}
use Rattle.rept_opening.specs.Words.Words.{Meaning}
use Rattle.rept_opening.specs.Words.Words.Meaning.{Open, Maps, Made as MadeWords}
use Rattle.rept_opening.specs.declared.words.request.Domain.{Domain}
use Rattle.rept_opening.specs.declared.words.request.Domain.TheVariants as domain
use Rattle.rept_opening.specs.Domains.{means_of}
use Rattle.rept_opening.specs.Opened.{CrashRun, Opening, Opens, IsAccountOf, RunAccount, crash_at, crash_run, route_of, run_at, run_setting, setting_at, told_in}
use Rattle.rept_opening.specs.Places.{same_place}
use Rattle.rept_opening.specs.TraceRun.{IsRunBy, IsRunOf}
use Rattle.rept_app.specs.Told.{OpensMade}
use Rattle.rept_opening.specs.True.{IsExcluded, IsExecuted, IsTrue}

-- the words and the files come to a run whose closure has no conflict
abbrev pub ComeToReport : List (List ℕ) → Files → Type 0
ComeToReport words files = (o : Opening) × Opens words files o × IsConsistent (setting_at o)

-- what is told of the report holds in every execution of the run that ends in the dump: in the
-- registers of the notes, and with the bytes of memory that the files have
abbrev pub ReportHolds : List (List ℕ) → Files → Type 0
ReportHolds words files = (o : Opening) (known : Knowledge) → Opens words files o → IsReport (setting_at o) known → IsTrue (run_at o) known

-- no execution of the run ends in the dump
abbrev pub NoExecution : List (List ℕ) → Files → Type 0
NoExecution words files = (o : Opening) → Opens words files o → IsExcluded (run_at o)

-- The files of a made crash come to a path, of which an execution ends in the dump: what is told of
-- its report isn't told of nothing. It holds in each such execution.
abbrev pub MadeHolds : ℕ → ℕ → Type 0
MadeHolds seed steps =
    (made : Made) → IsMade seed steps made
    → (o : Opening) × OpensMade made o × IsExecuted (run_at o) × ((known : Knowledge) → IsReport (setting_at o) known → IsTrue (run_at o) known)

-- the same of words that ask for a made run
abbrev pub AskedHolds : Option Meaning → Type 0
AskedHolds None = Unit {0}
AskedHolds (Some (Maps d names from)) = Unit {0}
AskedHolds (Some (Open d names from)) = Unit {0}
AskedHolds (Some (MadeWords seed steps)) = MadeHolds seed steps

-- the range of a register isn't wider in what is shown second
abbrev pub IsNoWider : Shown → Shown → ℕ → ℕ → Type 0
IsNoWider old new p r = ((old.range p r).lo ≤ (new.range p r).lo) × ((new.range p r).hi ≤ (old.range p r).hi)

-- what is shown of the report of a run, with values followed so
abbrev pub shown_by : Domain → Opening → RunAccount → Shown
shown_by d o a = shown_on (route_of (crash_run (means_of d) (crash_at o) o.run)) a.known a.scene

-- Of one run and crash: each fact of the report by ranges stands in the report by ranges and known
-- bits, and no range is wider there.
pub record BitsTellMore (o : Opening) (by_ranges by_bits : RunAccount) : Type 0 where
  pub facts : Extends by_ranges.known by_bits.known
  pub ranges : (p r : ℕ) → p < (shown_by domain.Ranges o by_ranges).points → r < 32 → IsNoWider (shown_by domain.Ranges o by_ranges) (shown_by domain.KnownBits o by_bits) p r

abbrev pub BitsKnowMore : List (List ℕ) → Files → Type 0
BitsKnowMore words files =
    (o : Opening) (by_ranges by_bits : RunAccount) → Opens words files o
    → IsAccountOf (crash_run (means_of domain.Ranges) (crash_at o) o.run) by_ranges
    → IsAccountOf (crash_run (means_of domain.KnownBits) (crash_at o) o.run) by_bits
    → BitsTellMore o by_ranges by_bits

-- the value is left of a register at a point, by what is known of the run
abbrev pub IsLeft : {W : Type 0} → CrashRun W → Knowledge → (p r v : ℕ) → Type 0
IsLeft x K p r v = MatchOption (range (way_of (run_setting x)) K p r) ⊥ (λ set. x.means.sets.has set v ≡ true)

-- What is shown second tells no less than what is shown first, of two runs of the same steps: each
-- value of a register at its point, each byte at its place, and no range is wider.
pub record TellsNoLess (C E : Course) (s more : Shown) : Type 0 where
  pub registers : (p r v : ℕ) → s.register p r ≡ Some v → more.register p r ≡ Some v
  pub bytes : (m a v : ℕ) → s.byte m a ≡ Some v → more.byte (same_place C E m) a ≡ Some v
  pub ranges : (p r : ℕ) → p < s.points → r < 32 → IsNoWider s more p r

-- Of one crash, by `bits` of one run, and by `infer` of another one of the same steps: `infer`
-- tells no less, and leaves no value of a register that `bits` doesn't leave.
pub record InferTellsMore (by_bits by_infer : CrashRun Both) (bits infer : RunAccount) : Type 0 where
  pub shown : TellsNoLess (course_of by_bits.run) (course_of by_infer.run) (told_in by_bits bits).shown (told_in by_infer infer).shown
  pub sets : (p r v : ℕ) → IsLeft by_infer infer.known p r v → IsLeft by_bits bits.known p r v

-- Whatever words open the crash: all that `bits` tells of the run that its trace tells, `infer`
-- tells of the run that is analysed for it, whose untraced prefix may end earlier.
abbrev pub InferKnowsMore : List (List ℕ) → Files → Type 0
InferKnowsMore words files =
    (o : Opening) (told : Run) (bits infer : RunAccount) → Opens words files o
    → IsRunOf (crash_at o) o.bytes.trace o.bytes.manner.from told → IsRunBy o.bytes.manner o.bytes.trace told o.run
    → IsAccountOf (crash_run (means_of domain.KnownBits) (crash_at o) told) bits
    → IsAccountOf (crash_run (means_of domain.Inferred) (crash_at o) o.run) infer
    → InferTellsMore (crash_run (means_of domain.KnownBits) (crash_at o) told) (crash_run (means_of domain.Inferred) (crash_at o) o.run) bits infer
