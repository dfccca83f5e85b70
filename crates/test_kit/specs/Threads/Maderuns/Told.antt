-- What the files of a made run tell. This project's own.
use Rattle.std.specs.Prelude.{◌≡◌, ℕ, ◌+◌, ◌*◌, ◌<◌, List, length, map, slice_get, Some, None, Ok}
use Rattle.rept_elf.specs.Header.{word_at}
use Rattle.rept_elf.specs.Segments.{segments}
use Rattle.rept_elf.specs.Checks.{checks, first_failure}
use Rattle.rept_elf.specs.declared.fault.Want.TheVariants.{Exec, Core}
use Rattle.rept_dump.specs.Memory.{crash_byte, of_executable}
use Rattle.rept_dump.specs.Registers.{SaysOfAll}
use Rattle.rept_steps.specs.declared.run.Run.{Run}
use Rattle.rept_steps.specs.Runs.{course_of}
use Rattle.rept_order.specs.History.{Ending}
use Rattle.rept_trace.specs.Streams.{StreamFile, AreStreams}
use Rattle.rept_streams.specs.Slices.Raw.{note_in, IsRunOfFiles}
use Rattle.test_kit.specs.Threads.Play.Drawn.{start_registers}
use Rattle.test_kit.specs.Threads.Play.Played.{IsExecutedFrom}
use Rattle.test_kit.specs.declared.threads.maderuns.made.MadeRun.{MadeRun}

-- an ending of which all that is said is what a core file and an executable say: the registers of
-- each thread by its note, and the bytes
pub record IsEndingOf (exe core : List ℕ) (descs : List (List ℕ)) (D : Ending) : Type 0 where
  pub registers : (t s v : ℕ) → 0 < s → D.registers t s ≡ Some v → (desc : List ℕ) × (slice_get descs t ≡ Some desc) × (s < 32) × (word_at desc (72 + 4 * s) ≡ v)
  pub bytes : (a v : ℕ) → D.dump a ≡ Some v → crash_byte (of_executable exe) (segments core) a ≡ Some v

-- The executable and the core file pass their checks, and the core file has the notes of its
-- threads. The run that the streams tell of this program and these threads is the one that was
-- played, and there is an execution of it that begins with the start registers and ends in the core
-- file.
pub record IsToldByFiles (seed : ℕ) (made : MadeRun) : Type 0 where
  pub exe_read : first_failure (checks Exec made.exe) ≡ None
  pub core_read : first_failure (checks Core made.core) ≡ None
  pub descs : List (List ℕ)
  pub notes : SaysOfAll (length made.core) (segments made.core) (Ok descs)
  pub file : StreamFile
  pub streams : AreStreams made.trace file
  pub run : Run
  pub told : IsRunOfFiles (record { contents = of_executable made.exe; file = file; notes = map note_in descs; from = 0 }) run
  pub played : run.threads ≡ made.made.played.run.threads
  pub none_skipped : run.skipped ≡ 0
  pub execution : (D : Ending) → IsEndingOf made.exe made.core descs D → IsExecutedFrom (start_registers seed) (course_of run) D
