-- What a machine shows: its state, its pc, and the words of code that it runs.
use Rattle.std.specs.Prelude.{◌≡◌, ℕ, ◌-◌, ◌/◌, ◌%◌, ◌==◌, nat_le, ◌&&◌, List, Option, None, slice_get, MatchOption, if◌then◌else◌}
use Rattle.rept_isa.specs.declared.instr.Instr.{Instr}
use Rattle.rept_isa.specs.declared.instr.Instr.TheVariants.{Ebreak}
use Rattle.rept_isa.specs.Words.{IsWord}
use Rattle.rept_machine.specs.declared.machine.Machine.{Machine}
use Rattle.rept_machine.specs.declared.machine.Halt.{Halt}
use Rattle.rept_machine.specs.declared.machine.Halt.TheVariants.{NotCode, NotRunnable, OutOfMemory}
use Rattle.rept_machine.specs.State.{State}
use Rattle.rept_machine.specs.Step.{SameRegisters, SameMemory}
use Rattle.rept_machine.specs.Choices.{WritesMemory}
use Rattle.rept_machine.specs.Bytes.{shown_by}

abbrev pub state_of : Machine → State
state_of machine = shown_by machine.registers machine.memory

abbrev pub pc_of : Machine → ℕ
pc_of machine = machine.pc

-- the words, and the address of the first one
abbrev pub code_of : Machine → List ℕ
code_of machine = machine.code.now

abbrev pub base_of : Machine → ℕ
base_of machine = machine.base

-- the word at an address: word i stands at base + 4 * i, and there is none elsewhere
abbrev pub word_of_code : List ℕ → ℕ → ℕ → Option ℕ
word_of_code code base address = if nat_le base address && (address - base) % 4 == 0 then slice_get code ((address - base) / 4) else None

-- the word that the machine runs next
abbrev pub next_word : Machine → Option ℕ
next_word machine = word_of_code (code_of machine) (base_of machine) (pc_of machine)

-- the machine as before
pub record IsUnchanged (old new : Machine) : Type 0 where
  pub registers : SameRegisters (state_of old) (state_of new)
  pub memory : SameMemory (state_of old) (state_of new)
  pub pc : pc_of new ≡ pc_of old
  pub code : code_of new ≡ code_of old
  pub base : base_of new ≡ base_of old

-- a word that can't be run: it spells no instruction, or EBREAK
abbrev pub IsNotRunnable : ℕ → Type 0
IsNotRunnable word = (i : Instr) → IsWord word i → i ≡ Ebreak

-- the instruction that is next
abbrev pub IsNextInstr : Machine → Instr → Type 0
IsNextInstr machine instr = MatchOption (next_word machine) ⊥ (λ word. IsWord word instr)

-- Why the machine halts. Memory can only be wanting for a store.
abbrev pub Halts : Machine → Halt → Type 0
Halts machine (NotCode address) = (address ≡ pc_of machine) × (next_word machine ≡ None)
Halts machine (NotRunnable address) = (address ≡ pc_of machine) × MatchOption (next_word machine) ⊥ IsNotRunnable
Halts machine OutOfMemory = (instr : Instr) × IsNextInstr machine instr × WritesMemory instr
