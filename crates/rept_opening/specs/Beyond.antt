-- Which executions of a path are admitted, by what the files of its crash tell. This project's own.
use Rattle.std.specs.Prelude.{ℕ, ◌+◌, ◌-◌, ◌/◌, ◌==◌, Bool, false, not, ◌&&◌, ◌||◌, if◌then◌else◌, nat_le, nat_lt, List, [], ◌∷◌, Option, None, Some, is_some, slice_get}
use Rattle.std.specs.List.{list_any}
use Rattle.rept_elf.specs.Header.{word_at}
use Rattle.rept_elf.specs.Segments.{ElfSegment, is_load, is_writable, segments}
use Rattle.rept_dump.specs.Memory.{crash_byte, may_be_written}
use Rattle.rept_dump.specs.Program.{Program, contents}
use Rattle.rept_dump.specs.Program.Program.{OneFile, MappedFiles}
use Rattle.rept_dump.specs.Registers.{pid_of, saved_register}
use Rattle.rept_isa.specs.declared.row.StepRow.{StepRow}
use Rattle.rept_found.specs.Crash.{Crash, left_of, note_at}
use Rattle.rept_narrow.specs.Admitted.{Premises, Story}
use Rattle.rept_opening.specs.declared.areas.ProcessTold.{ProcessTold}

-- the segment is part of memory, and has the address there
abbrev pub lies_in : ℕ → ElfSegment → Bool
lies_in a s = is_load s && (nat_le s.vaddr a && nat_lt a (s.vaddr + s.memsz))

-- A byte that the program could not write when it crashed, by the segments of the core file and the
-- bytes that the crash has: the core file has the address in no segment that could be written; and
-- has it in another one, or the crash has the byte, which is then that of a segment of the
-- program's files that couldn't.
abbrev pub is_read_only : List ElfSegment → (ℕ → Option ℕ) → ℕ → Bool
is_read_only core byte a = not (list_any (may_be_written a) core) && (list_any (lies_in a) core || is_some (byte a))

-- What memory holds when a program begins. Linux (binfmt_elf) maps the `PT_LOAD` segments of an
-- executable, as the System V ABI says ("Program Header"): the first `p_filesz` bytes of a segment
-- are those of the file, and the rest up to `p_memsz` is 0. It maps pages of 4,096 bytes, and a
-- later segment takes a page from an earlier one: nothing is said of a page with bytes of two
-- segments. Nor of the rest of a segment without `PF_W`, where Linux may leave other bytes.

-- the segment is part of memory, and has bytes in the page of the address
abbrev pub has_page : ℕ → ElfSegment → Bool
has_page a s = is_load s && (nat_le (s.vaddr / 4096) (a / 4096) && nat_lt (a / 4096) ((s.vaddr + s.memsz + 4095) / 4096))

-- the byte at the address by the segment alone
abbrev pub loaded_byte : ℕ → ElfSegment → Option ℕ
loaded_byte a s =
    if nat_lt a s.vaddr then None
    else if nat_lt a (s.vaddr + s.filesz) then slice_get s.body (a - s.vaddr)
    else if is_writable s && nat_lt a (s.vaddr + s.memsz) then Some 0
    else None

-- the byte at the address by the segments: by the only one that has its page
abbrev pub loaded_at : List ElfSegment → ℕ → Option ℕ
loaded_at [] a = None
loaded_at (s ∷ ss) a = if has_page a s then (if list_any (has_page a) ss then None else loaded_byte a s) else loaded_at ss a

-- `e_entry`: the address of the program's first instruction
abbrev pub e_entry : List ℕ → ℕ
e_entry file = word_at file 24

-- `PT_INTERP`: the program is begun by another one, which links it
abbrev pub is_interpreter : ElfSegment → Bool
is_interpreter s = s.kind == 3

-- the step is at the address
abbrev pub is_at : ℕ → Option StepRow → Bool
is_at a None = false
is_at a (Some row) = row.at == a

-- The condition of `first-memory`, of an executable, of how many packets were left out, and of the
-- steps of the path: none was left out, no other program begins it, and its first step is at the
-- program's first instruction. A program may come there again: so it is a premise.
abbrev pub is_begin : List ℕ → ℕ → List StepRow → Bool
is_begin file skipped rows = skipped == 0 && (not (list_any is_interpreter (segments file)) && is_at (e_entry file) (slice_get rows 0))

-- the executable, where the program is one file
abbrev pub executable_of : Program → Option (List ℕ)
executable_of (OneFile file) = Some file
executable_of (MappedFiles ms) = None

-- the executable with which a path begins, if the condition holds of it
abbrev pub begun_file : Option (List ℕ) → ℕ → List StepRow → Option (List ℕ)
begun_file None skipped rows = None
begun_file (Some file) skipped rows = if is_begin file skipped rows then Some file else None

-- the byte at an address before the first step of such a path
abbrev pub first_byte : Option (List ℕ) → ℕ → Option ℕ
first_byte None a = None
first_byte (Some file) a = loaded_at (segments file) a

-- The area that has the stack: the segment of the core file that has the stack pointer of the
-- crash, where no other one lies above it, and it doesn't begin within the program. Linux puts the
-- stack above all else (mm/util.c, arch_pick_mmap_layout), so a stack pointer that went astray into
-- the heap isn't taken. qemu's user mode puts it above the heap, and what is mapped later above it
-- (linux-user/elfload.c, setup_arg_pages). In both the heap never reaches it.

-- the segment is part of memory, and begins above the address
abbrev pub lies_above : ℕ → ElfSegment → Bool
lies_above a s = is_load s && nat_lt a s.vaddr

-- where the first segment begins that has the address
abbrev pub area_from : List ElfSegment → ℕ → Option ℕ
area_from [] a = None
area_from (s ∷ ss) a = if lies_in a s then Some s.vaddr else area_from ss a

abbrev pub at_least : ℕ → Option ℕ → Option ℕ
at_least low None = None
at_least low (Some a) = if nat_le low a then Some a else None

-- the lowest address of the stack's area
abbrev pub stack_from : List ElfSegment → (image_end stack_pointer : ℕ) → Option ℕ
stack_from core image_end stack_pointer = if list_any (lies_above stack_pointer) core then None else at_least image_end (area_from core stack_pointer)

-- what a core file tells of the process, by its segments, by where the program ends, and by the
-- descriptor of its note
abbrev pub process_told : List ElfSegment → ℕ → List ℕ → ProcessTold
process_told core image_end desc = record {
  pid = pid_of desc;
  stack_from = stack_from core image_end (saved_register desc 2);
}

-- where the stack's area begins, if the path begins with an executable
abbrev pub clear_from : Option (List ℕ) → Option ℕ → Option ℕ
clear_from None from = None
clear_from (Some file) from = from

-- the premises by these, by the process, and by the executable with which the path begins
abbrev pub premises_by : List ElfSegment → (ℕ → Option ℕ) → ProcessTold → Option (List ℕ) → Premises
premises_by core byte process begun = record {
  is_read_only = is_read_only core byte;
  first_byte = first_byte begun;
  process = Some process.pid;
  stack_from = process.stack_from;
  clear_from = clear_from begun process.stack_from;
}

-- the premises that are taken of a crash of one thread, by how many packets were left out and by
-- the steps of its path
abbrev pub premises_of : Crash → ℕ → List StepRow → Premises
premises_of crash skipped rows = premises_by crash.core (crash_byte (contents crash.exe) crash.core) (process_told crash.core (contents crash.exe).end (note_at crash 0)) (begun_file (executable_of crash.exe) skipped rows)

-- the path of these steps, read without so many packets, and what its executions have to keep to be
-- admitted: those that end in the crash and keep the premises
abbrev pub story_of : Crash → ℕ → List StepRow → Story
story_of crash skipped rows = record {
  image_end = (contents crash.exe).end;
  rows = rows;
  registers = left_of crash.exe (note_at crash 0);
  dump = crash_byte (contents crash.exe) crash.core;
  premises = premises_of crash skipped rows;
}
