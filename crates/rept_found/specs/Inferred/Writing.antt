-- Which steps of a path may have written a byte, by its report and by what was inferred beyond it. A
-- store writes one, two or four bytes from its base and its immediate on (RISC-V unprivileged manual
-- 20191213, chapter 2.6). This project's own.
use Rattle.std.specs.Prelude.{◌≡◌, ℕ, zero, suc, ◌+◌, ◌-◌, ◌%◌, ◌^◌, ◌≤◌, ◌==◌, ◌||◌, ◌&&◌, Bool, true, false, not, min, nat_le, length, Option, None, Some, is_some, slice_get}
use Rattle.std.specs.Option.{option_and_then}
use Rattle.rept_isa.specs.declared.instr.Instr.{Instr}
use Rattle.rept_isa.specs.declared.instr.Instr.TheVariants.{Store}
use Rattle.rept_isa.specs.declared.row.StepRow.{StepRow}
use Rattle.rept_isa.specs.Numbers.{word}
use Rattle.rept_machine.specs.Arithmetic.{store_width}
use Rattle.rept_facts.specs.Sums.{count_true}
use Rattle.rept_known.specs.declared.both.Both.{Both}
use Rattle.rept_known.specs.Both.{both_has, both_sets}
use Rattle.rept_report.specs.declared.counts.Counts.{Counts}
use Rattle.rept_report.specs.declared.writer.Writer.{Writer}
use Rattle.rept_report.specs.declared.writer.Writer.TheVariants as writer
use Rattle.rept_infer.specs.Holding.{Holding}
use Rattle.rept_findings.specs.Shown.{Shown}

abbrev pub or_writer : Option Writer → Writer → Writer
or_writer None w = w
or_writer (Some v) w = v

-- what is told of the greatest step before a point of which something is told
abbrev pub greatest : (ℕ → Option Writer) → ℕ → Writer
greatest told zero = writer.None
greatest told (suc j) = or_writer (told j) (greatest told j)

-- step j is named
abbrev pub names_step : Writer → ℕ → Bool
names_step (writer.Writes i) j = i == j
names_step (writer.MayWrite i) j = i == j
names_step writer.Several j = false
names_step writer.None j = false

abbrev pub told_if : Bool → Writer → Option Writer
told_if true w = Some w
told_if false w = None

-- what the report tells of step j at the point after it, where it names it
abbrev pub told_step : Shown → ℕ → ℕ → Option Writer
told_step s a j = told_if (names_step (s.writer (suc j) a) j) (s.writer (suc j) a)

-- the base from which byte k of an access at this offset from it is at a
abbrev pub base_for : ℕ → ℕ → ℕ → ℕ
base_for offset a k = ((a + (2 ^ 32 - k)) % 2 ^ 32 + (2 ^ 32 - offset)) % 2 ^ 32

-- one of the first bytes of an access from a base of the set is at a
abbrev pub set_reaches : Both → ℕ → ℕ → ℕ → Bool
set_reaches base offset a zero = false
set_reaches base offset a (suc k) = both_has base (base_for offset a k) || set_reaches base offset a k

abbrev pub reaches : Option Both → ℕ → ℕ → ℕ → Bool
reaches None offset a width = true
reaches (Some base) offset a width = set_reaches base offset a width

-- a store may have the byte, by the set of its base; of other instructions the report tells
abbrev pub instr_reaches : Holding → ℕ → ℕ → Instr → Bool
instr_reaches h a j (Store op rs1 rs2 imm) = reaches (h.set j rs1) (word imm) a (store_width op)
instr_reaches h a j _ = true

abbrev pub is_exact : Option Both → Bool
is_exact None = false
is_exact (Some set) = is_some (both_sets.as_exact set)

-- a store whose address is known
abbrev pub is_exact_store : Holding → ℕ → Instr → Bool
is_exact_store h j (Store op rs1 rs2 imm) = is_exact (h.set j rs1)
is_exact_store h j _ = false

-- a step that reaches a byte, and of which this is told, is known to write it where it is known
abbrev pub sharpened : Bool → ℕ → Writer → Writer
sharpened true j w = writer.Writes j
sharpened false j w = w

-- what is left of what the report tells of step j
abbrev pub refined_row : Holding → ℕ → ℕ → Option StepRow → Writer → Option Writer
refined_row h a j None w = Some w
refined_row h a j (Some row) w = told_if (instr_reaches h a j row.instr) (sharpened (is_exact_store h j row.instr) j w)

abbrev pub refined_step : Holding → Shown → ℕ → ℕ → Option Writer
refined_step h s a j = option_and_then (refined_row h a j (slice_get (s.rows 0) j)) (told_step s a j)

-- what is told of the last writer of a byte at a point of a run that is one path: of the greatest
-- step before it that may write the byte by the report and by the holding
abbrev pub writer_by : Holding → Shown → ℕ → ℕ → Writer
writer_by h s p a = greatest (refined_step h s a) p

-- the base of a store is known at a point by the report or the holding
abbrev pub is_base_known : Holding → Shown → ℕ → ℕ → Bool
is_base_known h s p r = is_some (s.register p r) || is_exact (h.set p r)

-- a store whose address is known, or whose isn't
abbrev pub is_store_told : Bool → Holding → Shown → ℕ → Instr → Bool
is_store_told true h s p (Store op rs1 rs2 imm) = is_base_known h s p rs1
is_store_told false h s p (Store op rs1 rs2 imm) = not (is_base_known h s p rs1)
is_store_told known h s p _ = false

abbrev pub row_stores : Bool → Holding → Shown → ℕ → Option StepRow → Bool
row_stores known h s p None = false
row_stores known h s p (Some row) = is_store_told known h s p row.instr

-- how many steps are stores whose address is known, or whose isn't
abbrev pub stores_told : Bool → Holding → Shown → ℕ
stores_told known h s = count_true (λ j. row_stores known h s (s.first 0 + j) (slice_get (s.rows 0) j)) (length (s.rows 0))

abbrev pub counts_by : Holding → Shown → Counts
counts_by h s = record { steps = s.counts.steps; calls = s.counts.calls; registers = s.counts.registers; exact = stores_told true h s; inexact = stores_told false h s }

-- What is shown is shown of one line of points, which are the numbers from 0 on, and its moments too.
abbrev pub is_lined_at : Shown → ℕ → Bool
is_lined_at s p = (s.moment p == p) && (((s.point p).thread == 0) && ((s.point p).point == p))

abbrev pub all_below : (ℕ → Bool) → ℕ → Bool
all_below test zero = true
all_below test (suc n) = test n && all_below test n

abbrev pub is_line : Shown → Bool
is_line s = (s.threads == 1) && ((s.first 0 == 0) && all_below (is_lined_at s) (length (s.rows 0) + 1))

abbrev pub writer_if : Bool → Holding → Shown → ℕ → ℕ → Writer
writer_if true h s p a = writer_by h s p a
writer_if false h s p a = s.writer p a

-- what is told of the last writer of a byte: of one line of points by the report and the holding,
-- else by the report alone
abbrev pub writer_beyond : Holding → Shown → ℕ → ℕ → Writer
writer_beyond h s p a = writer_if (is_line s && nat_le p (length (s.rows 0))) h s p a

-- the step at which to look for what is told at a point: the one that is named, if it is before the
-- point; else the one before the point
abbrev pub step_below : Writer → ℕ → Option ℕ
step_below (writer.Writes i) p = Some (min i (p - 1))
step_below (writer.MayWrite i) p = Some (min i (p - 1))
step_below writer.Several p = Some (p - 1)
step_below writer.None p = None

-- the points of the only thread are the numbers from 0 on, and its moments too
pub record HasOneLine (s : Shown) : Type 0 where
  pub threads : s.threads ≡ 1
  pub first : s.first 0 ≡ 0
  pub moment : (p : ℕ) → p ≤ length (s.rows 0) → s.moment p ≡ p
  pub thread : (p : ℕ) → p ≤ length (s.rows 0) → (s.point p).thread ≡ 0
  pub point : (p : ℕ) → p ≤ length (s.rows 0) → (s.point p).point ≡ p
