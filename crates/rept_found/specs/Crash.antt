-- What a crash leaves, and the analysis of a run that ends in it (ELF-32 Object File Format; Linux
-- core notes of RISC-V).
use Rattle.rept_timeline.specs.Ends.{left_by}
use Rattle.std.specs.Prelude.{ℕ, Bool, true, false, ◌+◌, ◌*◌, List, [], map, ◌==◌, if◌then◌else◌, Option, Some, None, unwrap_or, slice_get, slice_index, ◌&&◌}
use Rattle.std.specs.List.{range_with_len}
use Rattle.rept_elf.specs.Header.{word_at}
use Rattle.rept_elf.specs.Segments.{ElfSegment}
use Rattle.rept_dump.specs.Dump.{exe_of, core_of}
use Rattle.rept_dump.specs.Memory.{crash_byte}
use Rattle.rept_dump.specs.Program.{Program, contents}
use Rattle.rept_dump.specs.declared.dump.Dump.{Dump}
use Rattle.rept_isa.specs.declared.row.StepRow.{StepRow}
use Rattle.rept_partial.specs.Sets.{Sets}
use Rattle.rept_report.specs.Setting.{Setting}
use Rattle.rept_span.specs.Moves.{Moves}
use Rattle.rept_reason.specs.View.Rules.{Rules}
use Rattle.rept_report.specs.OneThread.{ThreadPath}
use Rattle.rept_steps.specs.Course.{Course}
use Rattle.rept_order.specs.History.{Ending}
use Rattle.rept_found.specs.Trip.Trip.{Trip, setting_on}

-- a program and the core file of its crash: its files, the segments of the core file, and the
-- descriptors of the register notes, one of each thread
pub record Crash : Type 0 where
  pub exe : Program
  pub core : List ElfSegment
  pub notes : List (List ℕ)

-- that of a dump whose notes have these descriptors
abbrev pub crash_of : Dump → List (List ℕ) → Crash
crash_of dump notes = record { exe = exe_of dump; core = core_of dump; notes = notes }

-- the descriptor of a thread's note; past the last thread it is empty
abbrev pub note_at : Crash → ℕ → List ℕ
note_at crash t = unwrap_or (slice_get crash.notes t) []

-- the program counter in the descriptor of a register note
abbrev pub end_pc : List ℕ → ℕ
end_pc note = word_at note 72

-- the `pr_pid` in it, which is the thread's own number
abbrev pub process : List ℕ → ℕ
process note = word_at note 24

-- the address after the last step of a thread, and its process
pub record ThreadEnd : Type 0 where
  pub end_pc : ℕ
  pub process : ℕ

-- what a session tells of a crash besides what follows: how each thread ended, and the functions
-- that the program's files name
pub record Scene : Type 0 where
  pub threads : List ThreadEnd
  pub program : Program

-- the end of a thread; past the last one there is none
abbrev pub ended_at : Scene → ℕ → ThreadEnd
ended_at scene t = unwrap_or (slice_get scene.threads t) (record { end_pc = 0; process = 0 })

-- by its note
abbrev pub ended : List ℕ → ThreadEnd
ended note = record { end_pc = end_pc note; process = process note }

abbrev pub scene_of : Crash → Scene
scene_of crash = record { threads = map ended crash.notes; program = crash.exe }

-- the value of a register in a note
abbrev pub last_value : List ℕ → ℕ → ℕ
last_value note r = if r == 0 then 0 else word_at note (72 + 4 * r)

-- those of x0 to x31
unfoldable pub last_values : List ℕ → List ℕ
last_values note = map (last_value note) (range_with_len 0 32)

-- by its note
abbrev pub left_of : Program → List ℕ → ℕ → Option ℕ
left_of program note = left_by program (end_pc note) (last_values note)

-- the sets as which values are followed, what the rows let one infer, and whether more is inferred
-- beyond the report
pub record Means (W : Type 0) : Type 0 where
  pub sets : Sets W
  pub moves : Moves W
  pub rules : Rules
  pub beyond : Bool

abbrev pub means : {W : Type 0} → Sets W → Moves W → Rules → Means W
means sets moves rules = record { sets = sets; moves = moves; rules = rules; beyond = false }

-- the same where more is inferred
abbrev pub means_beyond : {W : Type 0} → Means W → Means W
means_beyond m = record { sets = m.sets; moves = m.moves; rules = m.rules; beyond = true }

-- a run of any number of threads that ended so
abbrev pub trip_by : {W : Type 0} → Means W → Course → Ending → Trip W
trip_by m course ending = record { sets = m.sets; moves = m.moves; rules = m.rules; course = course; ending = ending }

-- the last values of a thread that has a note; no other one has any
abbrev pub values_of : Program → Option (List ℕ) → ℕ → Option ℕ
values_of program None = λ r. None
values_of program (Some note) = left_of program note

-- how a run ended: with the registers of the notes, and with the bytes of the core file
abbrev pub ending_of : Crash → Ending
ending_of crash = record {
  registers = λ t. values_of crash.exe (slice_get crash.notes t);
  dump = crash_byte (contents crash.exe) crash.core;
  image_end = (contents crash.exe).end;
}

-- a run of the program, and the registers and bytes of the core file in which it ends
abbrev pub route : {W : Type 0} → Means W → Crash → Course → Trip W
route m crash course = trip_by m course (ending_of crash)

-- the setting of which a report of that run speaks
abbrev pub setting : {W : Type 0} → Means W → Crash → Course → Setting W
setting m crash course = setting_on (route m crash course)

-- a path of one thread, with the first note's registers
abbrev pub path_of : {W : Type 0} → Means W → Crash → List StepRow → ThreadPath W
path_of m crash rows = record {
  sets = m.sets;
  moves = m.moves;
  rules = m.rules;
  given = record { rows = rows; last = left_of crash.exe (note_at crash 0); dump = crash_byte (contents crash.exe) crash.core; image_end = (contents crash.exe).end };
}
