-- The note in which Linux keeps the registers of a thread: `NT_PRSTATUS`, whose descriptor is
-- `struct elf_prstatus` (include/linux/elfcore.h, and arch/riscv/include/uapi/asm/ptrace.h for the
-- registers), with words of 32 bits.
use Rattle.std.specs.Prelude.{◌≡◌, ℕ, ◌+◌, ◌*◌, ◌⊎◌, List, [], ◌∷◌, length, Bool, ◌==◌, nat_lt, Option, Some, None, Result, Ok, Err, map, if◌then◌else◌}
use Rattle.std.specs.List.{filter, list_any}
use Rattle.rept_elf.specs.Header.{word_at}
use Rattle.rept_elf.specs.Segments.{ElfSegment}
use Rattle.rept_maps.specs.Notes.Notes.{Note, HaveNotes, AreCutAt, note_segments}
use Rattle.rept_maps.specs.Notes.Sought.{is_sought}
use Rattle.rept_dump.specs.declared.fault.CoreFault.{CoreFault}
use Rattle.rept_dump.specs.declared.fault.CoreFault.TheVariants as fault

-- the note holds registers: its type is `NT_PRSTATUS`, and it is named `CORE`
abbrev pub is_status : Note → Bool
is_status = is_sought 1

-- the bytes of a descriptor up to the last register, and `pr_fpvalid`
abbrev pub status_size : ℕ
status_size = 204

-- the descriptor of the only register note, or the fault
abbrev pub only_registers : List Note → Result (List ℕ) CoreFault
only_registers [] = Err fault.NoStatus
only_registers (note ∷ []) = if nat_lt (length note.desc) status_size then Err (fault.ShortStatus (length note.desc)) else Ok note.desc
only_registers (note ∷ (other ∷ notes)) = Err (fault.SeveralThreads (length (note ∷ (other ∷ notes))))

-- what the notes of a core file of so many bytes say
abbrev pub SaysRegisters : ℕ → List ElfSegment → Result (List ℕ) CoreFault → Type 0
SaysRegisters size ss said =
    ((offset : ℕ) × AreCutAt size (note_segments ss) offset × (said ≡ Err (fault.NotePastEnd offset)))
    ⊎ ((notes : List Note) × HaveNotes size (note_segments ss) notes × (said ≡ only_registers (filter is_status notes)))

-- the size of a descriptor that doesn't have all registers
abbrev pub short_size : List ℕ → Option ℕ
short_size desc = if nat_lt (length desc) status_size then Some (length desc) else None

abbrev pub first_of : Option ℕ → Option ℕ → Option ℕ
first_of None second = second
first_of (Some size) second = Some size

-- the size of the first of these descriptors that doesn't have all registers
abbrev pub first_short : List Note → Option ℕ
first_short [] = None
first_short (note ∷ notes) = first_of (short_size note.desc) (first_short notes)

-- The `pr_pid` of a descriptor: the thread's own number (its TID), which is that of the process for
-- its first thread alone. Elsewhere "the process" of a thread or a note is this number.
abbrev pub pid_of : List ℕ → ℕ
pid_of desc = word_at desc 24

-- the program counter in it
abbrev pub saved_pc : List ℕ → ℕ
saved_pc desc = word_at desc 72

-- one of the registers x1 to x31 in it
abbrev pub saved_register : List ℕ → ℕ → ℕ
saved_register desc r = word_at desc (72 + 4 * r)

abbrev pub descs_of : List Note → List (List ℕ)
descs_of = map (λ note. note.desc)

-- the first of these numbers that stands again after it
abbrev pub first_twin : List ℕ → Option ℕ
first_twin [] = None
first_twin (n ∷ ns) = if list_any (λ m. m == n) ns then Some n else first_twin ns

-- the most threads
abbrev pub most_threads : ℕ
most_threads = 1024

abbrev pub by_twin : Option ℕ → List (List ℕ) → Result (List (List ℕ)) CoreFault
by_twin (Some pid) descs = Err (fault.SameThread pid)
by_twin None descs = Ok descs

abbrev pub by_count : List (List ℕ) → Result (List (List ℕ)) CoreFault
by_count descs = if nat_lt most_threads (length descs) then Err (fault.TooManyThreads (length descs)) else by_twin (first_twin (map pid_of descs)) descs

abbrev pub by_size : Option ℕ → List (List ℕ) → Result (List (List ℕ)) CoreFault
by_size (Some size) descs = Err (fault.ShortStatus size)
by_size None descs = by_count descs

-- the descriptors of the register notes, one of each thread, or the fault
abbrev pub all_registers : List Note → Result (List (List ℕ)) CoreFault
all_registers [] = Err fault.NoStatus
all_registers (note ∷ notes) = by_size (first_short (note ∷ notes)) (descs_of (note ∷ notes))

-- what the notes of a core file of so many bytes say of all threads
abbrev pub SaysOfAll : ℕ → List ElfSegment → Result (List (List ℕ)) CoreFault → Type 0
SaysOfAll size ss said =
    ((offset : ℕ) × AreCutAt size (note_segments ss) offset × (said ≡ Err (fault.NotePastEnd offset)))
    ⊎ ((notes : List Note) × HaveNotes size (note_segments ss) notes × (said ≡ all_registers (filter is_status notes)))

-- the descriptors of all register notes of a core file of so many bytes, in their order
abbrev pub HaveThreads : ℕ → List ElfSegment → List (List ℕ) → Type 0
HaveThreads size ss descs = (notes : List Note) × HaveNotes size (note_segments ss) notes × (descs ≡ descs_of (filter is_status notes))
