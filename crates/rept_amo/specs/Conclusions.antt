-- What a row of an atomic instruction lets one conclude of the values before and after it, from
-- what is known of others. What the row's step does is told by the RISC-V unprivileged manual
-- (20191213, chapter 8); which conclusions are inferred, and their numbers, are this project's own.
use Rattle.std.specs.Prelude.{◌≡◌, ◌≢◌, ℕ, ◌+◌, ◌<◌, bit_xor, Option, Some, None}
use Rattle.rept_isa.specs.declared.instr.Instr.{Instr}
use Rattle.rept_isa.specs.declared.instr.Instr.TheVariants.{Amo}
use Rattle.rept_isa.specs.declared.instr.AmoOp.{AmoOp}
use Rattle.rept_isa.specs.declared.instr.AmoOp.TheVariants as atomic
use Rattle.rept_isa.specs.declared.row.StepRow.{StepRow}
use Rattle.rept_isa.specs.Numbers.{beside}
use Rattle.rept_partial.specs.declared.flat.Flat.{Flat}
use Rattle.rept_partial.specs.declared.flat.Flat.TheVariants.{Unknown, Known}
use Rattle.rept_machine.specs.Arithmetic.{byte_of, word_at, combined}
use Rattle.rept_reason.specs.declared.fact.Cell.TheVariants.{Byte}
use Rattle.rept_reason.specs.declared.view.inferred.When.TheVariants.{Before, After}
use Rattle.rept_reason.specs.declared.view.inferred.Conclusion.{Conclusion}
use Rattle.rept_reason.specs.View.Seen.{Seen}
use Rattle.rept_rules.specs.Operands.{less}
use Rattle.rept_amo.specs.declared.form.WordInferred.{WordInferred}
use Rattle.rept_amo.specs.declared.form.Form.{Form}
use Rattle.rept_amo.specs.declared.form.AtomicAccess.{AtomicAccess}
use Rattle.rept_rules.specs.Conclusions.{IsKnown, AreKnown, IsOnRegister}

-- an atomic instruction's operation and registers
abbrev pub form_of : Instr → Option Form
form_of (Amo op rd rs1 rs2) = Some (record { op = op; rd = rd; rs1 = rs1; rs2 = rs2 })
form_of _ = None

-- the row is of this form, and its address is known before it
pub record IsAtomicAccess (row : StepRow) (s : Seen) (x : AtomicAccess) : Type 0 where
  pub is_row : form_of row.instr ≡ Some x.form
  pub base : IsKnown s Before x.form.rs1 x.base

-- a byte of a word that a rule gives
abbrev pub byte_inferred : WordInferred → ℕ → Conclusion
byte_inferred w k = record { rule = w.rule; when = w.when; cell = Byte (beside w.base k); value = byte_of w.word k; slot = w.place + k }

-- Bytes before a row take the places 0 to 3, and bytes after it 4 to 7. An SC gives bytes after it
-- alone, in the places 0 to 3.
abbrev pub word_before : ℕ → ℕ → ℕ → WordInferred
word_before rule base word = record { rule = rule; when = Before; base = base; word = word; place = 0 }

abbrev pub word_after : ℕ → ℕ → WordInferred
word_after base word = record { rule = 20; when = After; base = base; word = word; place = 4 }

abbrev pub word_stored : ℕ → ℕ → WordInferred
word_stored base word = record { rule = 24; when = After; base = base; word = word; place = 0 }

-- it reads its word into its register: all but SC
abbrev pub ReadsWord : AmoOp → Type 0
ReadsWord atomic.Lr = Unit {0}
ReadsWord atomic.Sc = ⊥
ReadsWord atomic.Swap = Unit {0}
ReadsWord atomic.Add = Unit {0}
ReadsWord atomic.Xor = Unit {0}
ReadsWord atomic.And = Unit {0}
ReadsWord atomic.Or = Unit {0}
ReadsWord atomic.Min = Unit {0}
ReadsWord atomic.Max = Unit {0}
ReadsWord atomic.Minu = Unit {0}
ReadsWord atomic.Maxu = Unit {0}

-- it combines its word with its source: an atomic memory operation
abbrev pub IsOperation : AmoOp → Type 0
IsOperation atomic.Lr = ⊥
IsOperation atomic.Sc = ⊥
IsOperation atomic.Swap = Unit {0}
IsOperation atomic.Add = Unit {0}
IsOperation atomic.Xor = Unit {0}
IsOperation atomic.And = Unit {0}
IsOperation atomic.Or = Unit {0}
IsOperation atomic.Min = Unit {0}
IsOperation atomic.Max = Unit {0}
IsOperation atomic.Minu = Unit {0}
IsOperation atomic.Maxu = Unit {0}

-- The other of the two, the word and the source, from the word that was written and one of them:
-- for ADD and XOR alone, whose two operands are treated alike.
abbrev pub undone : AmoOp → ℕ → ℕ → Flat
undone atomic.Add written one = Known (less written one)
undone atomic.Xor written one = Known (bit_xor written one)
undone atomic.Lr written one = Unknown
undone atomic.Sc written one = Unknown
undone atomic.Swap written one = Unknown
undone atomic.And written one = Unknown
undone atomic.Or written one = Unknown
undone atomic.Min written one = Unknown
undone atomic.Max written one = Unknown
undone atomic.Minu written one = Unknown
undone atomic.Maxu written one = Unknown

pub data AtomicConcludes (row : StepRow) (s : Seen) (d : Conclusion) : Type 0 where
  -- 19: the register takes the word that was there
  read : (x : AtomicAccess) (m : ℕ → ℕ) → IsAtomicAccess row s x → ReadsWord x.form.op → AreKnown s Before x.base 4 m → IsOnRegister d 19 After x.form.rd (word_at m x.base) → AtomicConcludes row s d
  -- 20: an atomic memory operation on a known word and a known source gives each byte after it
  written : (x : AtomicAccess) (m : ℕ → ℕ) (v k : ℕ) → IsAtomicAccess row s x → IsOperation x.form.op → IsKnown s Before x.form.rs2 v → AreKnown s Before x.base 4 m → k < 4 → d ≡ byte_inferred (word_after x.base (combined x.form.op (word_at m x.base) v)) k → AtomicConcludes row s d
  -- 21: the bytes that were read are those of the value in the register
  read_back : (x : AtomicAccess) (v k : ℕ) → IsAtomicAccess row s x → ReadsWord x.form.op → x.form.rd ≢ 0 → IsKnown s After x.form.rd v → k < 4 → d ≡ byte_inferred (word_before 21 x.base v) k → AtomicConcludes row s d
  -- 22: the source of a swap is the word after it
  swapped : (x : AtomicAccess) (m : ℕ → ℕ) → IsAtomicAccess row s x → x.form.op ≡ atomic.Swap → AreKnown s After x.base 4 m → IsOnRegister d 22 Before x.form.rs2 (word_at m x.base) → AtomicConcludes row s d
  -- 22: the source of an ADD or XOR from the words before and after it
  source : (x : AtomicAccess) (m n : ℕ → ℕ) (v : ℕ) → IsAtomicAccess row s x → AreKnown s Before x.base 4 m → AreKnown s After x.base 4 n → undone x.form.op (word_at n x.base) (word_at m x.base) ≡ Known v → IsOnRegister d 22 Before x.form.rs2 v → AtomicConcludes row s d
  -- 23: each byte before an ADD or XOR from its source and the word after it
  word_back : (x : AtomicAccess) (n : ℕ → ℕ) (v w k : ℕ) → IsAtomicAccess row s x → IsKnown s Before x.form.rs2 v → AreKnown s After x.base 4 n → undone x.form.op (word_at n x.base) v ≡ Known w → k < 4 → d ≡ byte_inferred (word_before 23 x.base w) k → AtomicConcludes row s d
  -- 24: an SC that is known to have succeeded wrote each byte of its source
  stored : (x : AtomicAccess) (v k : ℕ) → IsAtomicAccess row s x → x.form.op ≡ atomic.Sc → x.form.rd ≢ 0 → IsKnown s Before x.form.rs2 v → IsKnown s After x.form.rd 0 → k < 4 → d ≡ byte_inferred (word_stored x.base v) k → AtomicConcludes row s d
