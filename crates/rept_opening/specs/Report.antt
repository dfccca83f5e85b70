-- What an analysis of a run rests on, what it comes to, and why there is no report. This project's
-- own.
use Rattle.std.specs.Prelude.{◌≡◌, ◌⊎◌, List, length, ℕ}
use Rattle.rept_elf.specs.Header.{half_at}
use Rattle.rept_dump.specs.Dump.{exe_of, HasThreads}
use Rattle.rept_dump.specs.declared.dump.Dump.{Dump}
use Rattle.rept_steps.specs.Runs.{course_of}
use Rattle.rept_steps.specs.declared.run.Run.{Run}
use Rattle.rept_ports.specs.Port.{Port, PortMove}
use Rattle.rept_report.specs.Closure.{ClosureHas}
use Rattle.rept_report.specs.declared.conflict.ConflictKind.{ConflictKind}
use Rattle.rept_timeline.specs.Ends.{AreNoted, Ends}
use Rattle.rept_found.specs.Crash.{note_at, scene_of}
use Rattle.rept_found.specs.View.{CrashView, IsFoundIn}
use Rattle.rept_findings.specs.Shown.{SessionTold}
use Rattle.rept_opening.specs.Opened.{CrashRun, IsAccountOf, RunAccount, contradiction_in, run_setting, route_of, told_in}
use Rattle.rept_opening.specs.True.{HasNoExecutionToCrash, IsRefuted}
use Rattle.rept_opening.specs.declared.refusal.Refusal.{Refusal}
use Rattle.rept_opening.specs.declared.refusal.Refusal.TheVariants as refusal

-- these are the ends of the threads of the run, by the notes of the dump
pub record AreEndsOf (dump : Dump) (run : Run) (ends : Ends) : Type 0 where
  pub course : ends.course ≡ course_of run
  pub count : length ends.statuses ≡ length run.threads
  pub noted : (notes : List (List ℕ)) → HasThreads dump notes → AreNoted notes ends.statuses
  pub program : ends.program ≡ exe_of dump

-- an analysis that has ended is one of the run and the crash
abbrev pub IsFoundOf : {W R : Type 0} → CrashRun W → CrashView W R → Type 0
IsFoundOf p v = IsFoundIn p.means (route_of p) (scene_of p.crash) v

-- why there is none: the closure has a conflict, and no execution ends in the crash; or what is
-- inferred beyond the report has one, seen in some register, and no admitted execution does; or memory
-- ran out
abbrev pub HasNoReport : {W : Type 0} → CrashRun W → Refusal → Type 0
HasNoReport p r =
    ((kind : ConflictKind) × ClosureHas (run_setting p) kind × HasNoExecutionToCrash p × (r ≡ refusal.Inconsistent (contradiction_in p kind)))
    ⊎ ((point : ℕ) × (reg : ℕ) × IsRefuted p × (r ≡ refusal.Refuted point reg))
    ⊎ (r ≡ refusal.OutOfMemory)

-- What was asked, over an account of the run, and so it ended: of what a session tells of the
-- account; of the signal of the first thread's register note (`pr_cursig` of `struct elf_prstatus`,
-- at 12); and of what was done to the input and the output.
pub record IsAsked {W E : Type 0} (Asks : SessionTold → ℕ → PortMove Port → PortMove Port → E → Type 0) (p : CrashRun W) (source sink : PortMove Port) (end : E) : Type 0 where
  pub account : RunAccount
  pub report : IsAccountOf p account
  pub asked : Asks (told_in p account) (half_at (note_at p.crash 0) 12) source sink end
