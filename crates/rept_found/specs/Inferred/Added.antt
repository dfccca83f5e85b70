-- How much was inferred beyond a report. A load reads one, two or four bytes (RISC-V unprivileged
-- manual 20191213, chapter 2.6). This project's own.
use Rattle.std.specs.Prelude.{ℕ, ◌+◌, ◌&&◌, Bool, nat_lt, if◌then◌else◌, List, length, Option, None, Some, is_none, is_some, slice_get}
use Rattle.std.specs.Option.{option_map}
use Rattle.rept_isa.specs.declared.instr.Instr.{Instr}
use Rattle.rept_isa.specs.declared.instr.Instr.TheVariants.{Load}
use Rattle.rept_isa.specs.declared.row.StepRow.{StepRow}
use Rattle.rept_isa.specs.Numbers.{beside, plus}
use Rattle.rept_facts.specs.Sums.{count_true, sum_to}
use Rattle.rept_known.specs.declared.both.Both.{Both}
use Rattle.rept_known.specs.Both.{both_sets}
use Rattle.rept_infer.specs.Holding.{Holding}
use Rattle.rept_narrow.specs.Sweeps.{load_width}
use Rattle.rept_findings.specs.Shown.{Shown}
use Rattle.rept_findings.specs.declared.findings.KnownBeyond.{KnownBeyond}
use Rattle.rept_findings.specs.declared.findings.PremisesTaken.{PremisesTaken}

-- a known value, or else the only one of a set
abbrev pub value_by : Option ℕ → Option Both → Option ℕ
value_by (Some v) w = Some v
value_by None None = None
value_by None (Some w) = both_sets.as_exact w

-- whether a value is known by a set alone
abbrev pub is_added : Option ℕ → Option Both → Bool
is_added known set = is_none known && is_some (value_by None set)

-- how many of a point's registers are
abbrev pub added_at : Holding → Shown → ℕ → ℕ
added_at h s p = count_true (λ r. is_added (s.register p r) (h.set p r)) 32

-- the byte at a moment and an address that the holding tells
abbrev pub byte_beyond : Holding → Shown → ℕ → ℕ → Option ℕ
byte_beyond h s m a = if nat_lt m s.moments then h.byte m a else None

-- whether a byte is known by the holding alone
abbrev pub is_byte_added : Holding → Shown → ℕ → ℕ → Bool
is_byte_added h s m a = is_none (s.byte m a) && is_some (byte_beyond h s m a)

-- how many of so many bytes from an address on are, where the address is known
abbrev pub bytes_added : Holding → Shown → ℕ → ℕ → Option ℕ → ℕ
bytes_added h s m width None = 0
bytes_added h s m width (Some a) = count_true (λ k. is_byte_added h s m (beside a k)) width

-- of the bytes that a step at this point loads
abbrev pub load_added : Holding → Shown → ℕ → Instr → ℕ
load_added h s p (Load op rd rs1 imm) = bytes_added h s (s.moment p) (load_width op) (option_map (λ base. plus base imm) (value_by (s.register p rs1) (h.set p rs1)))
load_added h s p _ = 0

abbrev pub row_added : Holding → Shown → ℕ → Option StepRow → ℕ
row_added h s p None = 0
row_added h s p (Some row) = load_added h s p row.instr

-- of the bytes that a step of the first thread loads
abbrev pub step_added : Holding → Shown → ℕ → ℕ
step_added h s j = row_added h s (s.first 0 + j) (slice_get (s.rows 0) j)

-- the values of registers at all points and the bytes that the first thread's steps load that are
-- known by the holding alone, and the premises
abbrev pub known_beyond : Holding → PremisesTaken → Shown → KnownBeyond
known_beyond h taken s = record { registers = sum_to (added_at h s) s.points; bytes = sum_to (step_added h s) (length (s.rows 0)); premises = taken }
