-- What is kept of the registers and the memory: a list of words, and a map in which an address
-- without an entry reads 0.
use Rattle.std.specs.Prelude.{◌≡◌, ◌≢◌, ℕ, ◌<◌, ◌==◌, List, slice_index, slice_set, is_some, Bool, true, if◌then◌else◌}
use Rattle.std.specs.Ordering.{nat_cmp}
use Rattle.std.specs.BTreeMap.{get}
use Rattle.rept_machine.specs.Entries.{byte_in}
use Rattle.rept_machine.specs.declared.memory.Memory.{Memory}
use Rattle.rept_isa.specs.Numbers.{beside}
use Rattle.rept_machine.specs.Arithmetic.{byte_of}
use Rattle.rept_machine.specs.State.{State}

abbrev pub byte_at : Memory → ℕ → ℕ
byte_at memory a = byte_in memory.bytes a

-- an entry of its own
abbrev pub has_entry : Memory → ℕ → Bool
has_entry memory a = is_some (get nat_cmp memory.bytes a)

-- every byte as before
abbrev pub SameBytes : Memory → Memory → Type 0
SameBytes old new = (a : ℕ) → byte_at new a ≡ byte_at old a

-- every entry is there still
abbrev pub KeepsEntries : Memory → Memory → Type 0
KeepsEntries old new = (a : ℕ) → has_entry old a ≡ true → has_entry new a ≡ true

-- one byte is written
pub record ByteWritten (old new : Memory) (address value : ℕ) : Type 0 where
  pub here : byte_at new address ≡ value
  pub others : (a : ℕ) → a ≢ address → byte_at new a ≡ byte_at old a

-- the registers after a write: x0 keeps its value
abbrev pub written : List ℕ → ℕ → ℕ → List ℕ
written registers rd value = if rd == 0 then registers else slice_set registers rd value

-- the state that both show
abbrev pub shown_by : List ℕ → Memory → State
shown_by registers memory = record { register = λ r. slice_index registers r; memory = byte_at memory }

-- the low bytes of the value stand from base on, and every other byte is as before
pub record BytesWritten (old new : Memory) (base value width : ℕ) : Type 0 where
  pub here : (k : ℕ) → k < width → byte_at new (beside base k) ≡ byte_of value k
  pub others : (a : ℕ) → ((k : ℕ) → k < width → a ≢ beside base k) → byte_at new a ≡ byte_at old a

-- so many addresses from base on have entries
abbrev pub HaveEntries : Memory → ℕ → ℕ → Type 0
HaveEntries memory base width = (k : ℕ) → k < width → has_entry memory (beside base k) ≡ true
