-- The promise of the whole program, in one place: where a session ends well, its answers tell a
-- report that is true of every execution that ends in the crash, and by `infer` what is true of
-- each that keeps the premises; where the files are said to be inconsistent, there is none. This
-- project's own.
use Rattle.std.specs.Prelude.{◌≡◌, ◌⊎◌, ℕ, List}
use Rattle.std.specs.Io.KnownBytes.{Appends}
use Rattle.rept_ports.specs.Port.{Port, PortMove}
use Rattle.rept_session.specs.Serving.Serving.{InputEnded, lines_read}
use Rattle.rept_make.specs.Made.{IsMade}
use Rattle.rept_make.specs.declared.made.Made.{Made}
use Rattle.rept_opening.specs.Loading.{loading}
use Rattle.rept_opening.specs.Loading.Loading.{MadeRun}
use Rattle.rept_app.specs.Told.{CallInput, OpensMade, summary_line}
use Rattle.rept_app.specs.TrueAnswers.{AreTrueLines}
use Rattle.rept_opening.specs.Opened.{Opening, Opens, IsAccountOf, RunAccount, run_at, told_in}
use Rattle.rept_opening.specs.True.{IsExcluded, IsTrue, IsTrueBeyond}
use Rattle.rept_opening.specs.declared.status.ExitStatus.{ExitStatus}
use Rattle.rept_opening.specs.declared.status.ExitStatus.TheVariants as ends

-- the crash that is opened, and the lines that are answered of it: the files that the words name,
-- and the input; or the files of the made crash that they ask for, and the line `summary`
abbrev pub IsOpened : CallInput → Opening → List ℕ → Type 0
IsOpened g o lines =
    (Opens g.words g.files o × (lines ≡ g.reading.input))
    ⊎ ((seed : ℕ) × (steps : ℕ) × (made : Made) × (loading g.words g.files ≡ MadeRun seed steps) × IsMade seed steps made × OpensMade made o × (lines ≡ summary_line))

-- What was written is the answers to the lines, to their end or to `quit`, over the report of the
-- run. Each register, byte, range, known bit and writer that is told of that report holds in every
-- execution of all threads that ends in the crash; the facts that a reason rests on are of the
-- report, and the ranges that it lists hold in each of those executions. Of a run that is one path
-- all of this holds of that path's executions too (`IsTrue`). By `infer` more is told of such a
-- run: each value, bound, known bit and writer that is told holds in every execution of the path
-- that ends in the crash and keeps the premises, and nothing that the report has is lost
-- (`IsTrueBeyond`). So the lines of `reg`, `regs`, `range`, `mem`, `writer`, `writers`, `at`,
-- `around`, `find`, `from`, `lost` and `why` claim only what each such execution has at their
-- points (`AreTrueLines`).
pub record IsAnswered (g : CallInput) (out : PortMove Port) : Type 0 where
  pub opening : Opening
  pub lines : List ℕ
  pub opened : IsOpened g opening lines
  pub account : RunAccount
  pub report : IsAccountOf (run_at opening) account
  pub text : List ℕ
  pub answers : InputEnded (told_in (run_at opening) account) lines text
  pub written : Appends out.before.bytes out.after.bytes text
  pub holds : IsTrue (run_at opening) account.known
  pub beyond : IsTrueBeyond (run_at opening) account
  pub true_lines : AreTrueLines (run_at opening) account (lines_read lines) text

-- the files tell a run, and no execution of it ends in the crash; by `infer`, of a run that is one
-- path, none that keeps the premises
pub record IsImpossible (g : CallInput) : Type 0 where
  pub opening : Opening
  pub opened : Opens g.words g.files opening
  pub none : IsExcluded (run_at opening)

-- status 0, and status 1
pub record Promise (g : CallInput) (out : PortMove Port) (status : ExitStatus) : Type 0 where
  pub answered : status ≡ ends.Ok → IsAnswered g out
  pub impossible : status ≡ ends.Inconsistent → IsImpossible g
