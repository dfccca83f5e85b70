-- What one instruction does to the state (RISC-V unprivileged manual 20191213, chapters 2.4 to 2.8,
-- 7, 8, 10 and 24). Memory is little-endian, and an access goes byte by byte, modulo 2 ^ 32. Only
-- what is written changes.
use Rattle.std.specs.Prelude.{◌≡◌, ◌≢◌, ◌⊎◌, ℕ, ◌*◌, ◌/◌, ◌<◌, ℤ, Bool, if◌then◌else◌}
use Rattle.rept_isa.specs.declared.instr.Instr.{Instr}
use Rattle.rept_isa.specs.declared.instr.Instr.TheVariants.{Lui, Auipc, Jal, Jalr, Branch, Load, Store, Imm, Op, Amo, Fence, Ecall, Ebreak, Counter}
use Rattle.rept_isa.specs.declared.instr.AmoOp.{AmoOp}
use Rattle.rept_isa.specs.declared.instr.AmoOp.TheVariants as atomic
use Rattle.rept_isa.specs.declared.instr.StoreOp.{StoreOp}
use Rattle.rept_isa.specs.declared.row.StepRow.{StepRow}
use Rattle.rept_isa.specs.Numbers.{plus, following, beside}
use Rattle.rept_isa.specs.Rows.{Addresses, addresses_of}
use Rattle.rept_machine.specs.State.{State}
use Rattle.rept_machine.specs.Arithmetic.{computed, computed_imm, branch_holds, word_at, combined, loaded, store_width, byte_of}
use Rattle.rept_machine.specs.Calls.{MayChange}

abbrev pub SameRegisters : State → State → Type 0
SameRegisters s t = (r : ℕ) → t.register r ≡ s.register r

abbrev pub SameMemory : State → State → Type 0
SameMemory s t = (a : ℕ) → t.memory a ≡ s.memory a

-- t has the value in register rd, and the other registers of s. A write to x0 is lost.
pub record SetsRegister (rd value : ℕ) (s t : State) : Type 0 where
  pub written : rd ≢ 0 → t.register rd ≡ value
  pub lost : rd ≡ 0 → t.register 0 ≡ s.register 0
  pub others : (r : ℕ) → r ≢ rd → t.register r ≡ s.register r

-- the instruction writes a value that it computed, and the next one follows
pub record Computes (rd value : ℕ) (a : Addresses) (s t : State) : Type 0 where
  pub result : SetsRegister rd value s t
  pub memory : SameMemory s t
  pub onward : a.next ≡ following a.from

-- a jump writes the address of the instruction that follows it
pub record Jumps (rd target : ℕ) (a : Addresses) (s t : State) : Type 0 where
  pub link : SetsRegister rd (following a.from) s t
  pub memory : SameMemory s t
  pub onward : a.next ≡ target

-- a branch only chooses the next address
pub record Branches (taken : Bool) (imm : ℤ) (a : Addresses) (s t : State) : Type 0 where
  pub registers : SameRegisters s t
  pub memory : SameMemory s t
  pub onward : a.next ≡ (if taken then plus a.at imm else following a.from)

-- the low bytes of the value stand from base on, and no other byte changes
pub record Stores (op : StoreOp) (value base : ℕ) (a : Addresses) (s t : State) : Type 0 where
  pub registers : SameRegisters s t
  pub written : (k : ℕ) → k < store_width op → t.memory (beside base k) ≡ byte_of value k
  pub others : (b : ℕ) → ((k : ℕ) → k < store_width op → b ≢ beside base k) → t.memory b ≡ s.memory b
  pub onward : a.next ≡ following a.from

-- the word stands from base on, and no other byte changes
pub record PutsWord (value base : ℕ) (s t : State) : Type 0 where
  pub written : (k : ℕ) → k < 4 → t.memory (beside base k) ≡ byte_of value k
  pub others : (b : ℕ) → ((k : ℕ) → k < 4 → b ≢ beside base k) → t.memory b ≡ s.memory b

-- in one step a register takes an answer and the memory at base a word; both are made of what was
-- there before
pub record Exchanges (rd answer : ℕ) (value base : ℕ) (a : Addresses) (s t : State) : Type 0 where
  pub result : SetsRegister rd answer s t
  pub memory : PutsWord value base s t
  pub onward : a.next ≡ following a.from

-- an SC that fails writes no byte, and answers by another value than 0
pub record FailsToStore (rd : ℕ) (a : Addresses) (s t : State) : Type 0 where
  pub code : rd ≢ 0 → t.register rd ≢ 0
  pub lost : rd ≡ 0 → t.register 0 ≡ s.register 0
  pub others : (r : ℕ) → r ≢ rd → t.register r ≡ s.register r
  pub memory : SameMemory s t
  pub onward : a.next ≡ following a.from

-- Reservations aren't modelled: an SC may succeed, with 0, or fail, whatever was before. Chapter
-- 8.2 lets it fail at any time, and chapter 8.3 promises of some loops only that one of their tries
-- succeeds in the end.
abbrev pub Tries : ℕ → ℕ → ℕ → Addresses → State → State → Type 0
Tries rd value base a s t = Exchanges rd 0 value base a s t ⊎ FailsToStore rd a s t

-- an atomic memory operation answers by the word that was there
abbrev pub Combines : AmoOp → ℕ → ℕ → ℕ → Addresses → State → State → Type 0
Combines op rd value base a s t = Exchanges rd (word_at s.memory base) (combined op (word_at s.memory base) value) base a s t

-- What an atomic instruction with this destination, value of its source, and address does. One
-- whose address isn't a multiple of 4 has a step here, too: chapters 8.2 and 8.4 have it raise an
-- exception, which an environment may answer by doing what the instruction says.
abbrev pub Acts : AmoOp → ℕ → ℕ → ℕ → Addresses → State → State → Type 0
Acts atomic.Lr rd value base a s t = Computes rd (word_at s.memory base) a s t
Acts atomic.Sc rd value base a s t = Tries rd value base a s t
Acts atomic.Swap rd value base a s t = Combines atomic.Swap rd value base a s t
Acts atomic.Add rd value base a s t = Combines atomic.Add rd value base a s t
Acts atomic.Xor rd value base a s t = Combines atomic.Xor rd value base a s t
Acts atomic.And rd value base a s t = Combines atomic.And rd value base a s t
Acts atomic.Or rd value base a s t = Combines atomic.Or rd value base a s t
Acts atomic.Min rd value base a s t = Combines atomic.Min rd value base a s t
Acts atomic.Max rd value base a s t = Combines atomic.Max rd value base a s t
Acts atomic.Minu rd value base a s t = Combines atomic.Minu rd value base a s t
Acts atomic.Maxu rd value base a s t = Combines atomic.Maxu rd value base a s t

-- nothing changes
pub record Orders (a : Addresses) (s t : State) : Type 0 where
  pub registers : SameRegisters s t
  pub memory : SameMemory s t
  pub onward : a.next ≡ following a.from

-- a counter may have any value
pub record ReadsCounter (rd : ℕ) (a : Addresses) (s t : State) : Type 0 where
  pub lost : rd ≡ 0 → t.register 0 ≡ s.register 0
  pub others : (r : ℕ) → r ≢ rd → t.register r ≡ s.register r
  pub memory : SameMemory s t
  pub onward : a.next ≡ following a.from

-- a call may answer any value in x10 (a0), and change the bytes that its number lets it change
pub record Calls (image_end : ℕ) (a : Addresses) (s t : State) : Type 0 where
  pub others : (r : ℕ) → r ≢ 10 → t.register r ≡ s.register r
  pub memory : (b : ℕ) → (MayChange image_end s.register (t.register 10) b → ⊥) → t.memory b ≡ s.memory b
  pub onward : a.next ≡ following a.from

-- JALR adds its immediate to the base that it reads before it writes, and clears bit 0.
abbrev pub far_target : ℕ → ℤ → ℕ
far_target base imm = plus base imm / 2 * 2

-- The effect of the instruction at `a.at`, which leads to `a.next`. Its pc is `a.at`: the targets
-- of JAL and of branches are reckoned from it. What follows it in memory is four bytes after
-- `a.from`, which is `a.at` for a word and two bytes less for a compressed instruction (chapter
-- 16.1). AUIPC adds to its pc (chapter 2.4). It is written with `a.from`, which is the same: no
-- compressed instruction expands to AUIPC, so `a.from` is `a.at` in each AUIPC of a path. EBREAK
-- has no step: no two states are those before and after one.
abbrev pub HasEffect : Instr → ℕ → Addresses → State → State → Type 0
HasEffect (Lui rd imm) image_end a s t = Computes rd imm a s t
HasEffect (Auipc rd imm) image_end a s t = Computes rd (beside a.from imm) a s t
HasEffect (Jal rd imm) image_end a s t = Jumps rd (plus a.at imm) a s t
HasEffect (Jalr rd rs1 imm) image_end a s t = Jumps rd (far_target (s.register rs1) imm) a s t
HasEffect (Branch op rs1 rs2 imm) image_end a s t = Branches (branch_holds op (s.register rs1) (s.register rs2)) imm a s t
HasEffect (Load op rd rs1 imm) image_end a s t = Computes rd (loaded op s.memory (plus (s.register rs1) imm)) a s t
HasEffect (Store op rs1 rs2 imm) image_end a s t = Stores op (s.register rs2) (plus (s.register rs1) imm) a s t
HasEffect (Imm op rd rs1 imm) image_end a s t = Computes rd (computed_imm op (s.register rs1) imm) a s t
HasEffect (Op op rd rs1 rs2) image_end a s t = Computes rd (computed op (s.register rs1) (s.register rs2)) a s t
HasEffect (Amo op rd rs1 rs2) image_end a s t = Acts op rd (s.register rs2) (s.register rs1) a s t
HasEffect Fence image_end a s t = Orders a s t
HasEffect Ecall image_end a s t = Calls image_end a s t
HasEffect Ebreak image_end a s t = ⊥
HasEffect (Counter rd csr) image_end a s t = ReadsCounter rd a s t

-- t is s after the row's instruction at the row's address, and the row's next address is that of
-- the effect
abbrev pub IsStep : ℕ → StepRow → State → State → Type 0
IsStep image_end row s t = HasEffect row.instr image_end (addresses_of row) s t
