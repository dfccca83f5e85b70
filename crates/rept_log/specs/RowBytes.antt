-- The bytes that a row's rules look at, as a list of what is seen of them before and after the row.
-- This project's own.
use Rattle.std.specs.Prelude.{ℕ, zero, suc, ◌==◌, if◌then◌else◌, min, List, [], ◌∷◌, ◌++◌, Option, Some, None}
use Rattle.rept_isa.specs.declared.row.StepRow.{StepRow}
use Rattle.rept_isa.specs.Numbers.{plus, beside}
use Rattle.rept_isa.specs.Operands.{first_read}
use Rattle.rept_reason.specs.declared.view.inferred.When.{When}
use Rattle.rept_reason.specs.declared.view.inferred.When.TheVariants.{Before, After}
use Rattle.rept_reason.specs.View.Rules.{Rules, offset_of}
use Rattle.rept_reason.specs.View.Seen.{Seen, IsLawful}
use Rattle.rept_log.specs.declared.row_bytes.RowByte.{RowByte}

-- the byte before the row, or after it
abbrev pub on_side : RowByte → When → Option ℕ
on_side b Before = b.before
on_side b After = b.after

-- what such bytes tell of an address
abbrev pub byte_among : List RowByte → When → ℕ → Option ℕ
byte_among [] when a = None
byte_among (b ∷ bs) when a = if b.address == a then on_side b when else byte_among bs when a

-- what is seen of an address
abbrev pub row_byte : Seen → ℕ → RowByte
row_byte s a = record { address = a; before = s.byte Before a; after = s.byte After a }

-- of so many from a base on
abbrev pub bytes_from : Seen → ℕ → ℕ → List RowByte
bytes_from s base zero = []
bytes_from s base (suc k) = bytes_from s base k ++ row_byte s (beside base k) ∷ []

-- what is seen before the row of the register in the place of rs1
abbrev pub base_seen : Option ℕ → Seen → Option ℕ
base_seen None s = None
base_seen (Some r) s = s.register Before r

-- of the bytes from an offset to that register on, where its value is known
abbrev pub bytes_from_base : Rules → StepRow → Seen → Option ℕ → List RowByte
bytes_from_base rules row s None = []
bytes_from_base rules row s (Some base) = bytes_from s (plus base (offset_of row.instr)) (min (rules.places row) 4)

-- of the row's own bytes: as many as it has places, but at most four
abbrev pub row_bytes : Rules → StepRow → Seen → List RowByte
row_bytes rules row s = bytes_from_base rules row s (base_seen (first_read row.instr) s)

-- the same registers and ranges, and of bytes only these
abbrev pub with_bytes : Seen → List RowByte → Seen
with_bytes s bytes = record { register = s.register; byte = byte_among bytes; range = s.range }

pub with_bytes_lawful : (s : Seen) (bytes : List RowByte) → IsLawful s → IsLawful (with_bytes s bytes)
with_bytes_lawful s bytes lawful = record { zero_known = lawful.zero_known; known = lawful.known }
