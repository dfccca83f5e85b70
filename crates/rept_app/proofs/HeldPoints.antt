-- That all that is told at a point is what an execution has there.
use Rattle.std.proofs.Common.{◌≡◌, ℕ, ◌<◌, ◌≤◌, ◌^◌, List, Some, refl}
use Rattle.std.specs.Prelude.{bit_and}
use Rattle.rept_order.specs.Writers.{Writer}
use Rattle.rept_order.specs.Writers.Writer.{writes, may_write, several, none}
use Rattle.rept_report.specs.declared.writer.Writer as told
use Rattle.rept_steps.specs.Course.{Row, row_of}
use Rattle.rept_findings.specs.Shown.{Shown, moment_at, number}
use Rattle.rept_findings.specs.Texts.{memory_lines, register_lines, writer_text}
use Rattle.rept_findings.specs.declared.place.ThreadPoint.{ThreadPoint}
use Rattle.rept_app.specs.TrueValues.{AreBytesTrue, AreRegisterLinesTrue, PointHeld, last_writer_text}

-- the step of a number that is told
abbrev pub row_told : Shown → ℕ → Row
row_told s j = row_of (s.point j).thread (s.point j).point

abbrev pub writer_told : Shown → told.Writer → Writer
writer_told s (told.TheVariants.Writes j) = writes (row_told s j)
writer_told s (told.TheVariants.MayWrite j) = may_write (row_told s j)
writer_told s told.TheVariants.Several = several
writer_told s told.TheVariants.None = none

-- all that is told at a point is what an execution has there
pub record IsHeldAt (s : Shown) (c : ThreadPoint) (x : PointHeld) : Type 0 where
  pub registers : (r v : ℕ) → s.register (number s c) r ≡ Some v → x.register r ≡ v
  pub ranges : (r : ℕ) → ((s.range (number s c) r).lo ≤ x.register r) × (x.register r ≤ (s.range (number s c) r).hi)
  pub notes : (r : ℕ) (n : ℕ × ℕ) → s.note (number s c) r ≡ Some n → bit_and (x.register r) n.0 ≡ n.1
  pub bytes : (a v : ℕ) → s.byte (moment_at s c) a ≡ Some v → x.memory a ≡ v
  pub writers : (a : ℕ) → a < 2 ^ 32 → x.last_writer a (writer_told s (s.writer (moment_at s c) a))

pub writer_is : (s : Shown) (w : told.Writer) → writer_text s w ≡ last_writer_text s.threads (writer_told s w)
writer_is s (told.TheVariants.Writes j) = refl
writer_is s (told.TheVariants.MayWrite j) = refl
writer_is s told.TheVariants.Several = refl
writer_is s told.TheVariants.None = refl

pub registers_are : (s : Shown) (c : ThreadPoint) (x : PointHeld) (text : List ℕ) → IsHeldAt s c x → text ≡ register_lines s (number s c) → AreRegisterLinesTrue x text
unfolding register_lines
registers_are s c x text h e = (s.register (number s c), h.registers, e)

pub bytes_are : (s : Shown) (c : ThreadPoint) (x : PointHeld) (address count : ℕ) (text : List ℕ) → IsHeldAt s c x → text ≡ memory_lines s (moment_at s c) address count → AreBytesTrue x address count text
unfolding memory_lines
bytes_are s c x address count text h e = (s.byte (moment_at s c), h.bytes, e)
