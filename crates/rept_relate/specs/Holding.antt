-- Words, halves and bytes of memory that nodes stand for, as loads have them. Their addresses are
-- terms, known or not.
use Rattle.std.specs.Prelude.{◌≡◌, ℕ, ◌+◌, ◌<◌, ◌≤◌, Bool, true, false, List, Some, slice_get}
use Rattle.rept_isa.specs.declared.instr.Instr.{Instr}
use Rattle.rept_isa.specs.declared.instr.Instr.TheVariants.{Store, Amo, Ecall}
use Rattle.rept_isa.specs.declared.row.StepRow.{StepRow}
use Rattle.rept_isa.specs.Numbers.{beside}
use Rattle.rept_alias.specs.declared.addresses.CallAccess.{CallAccess}
use Rattle.rept_alias.specs.Accesses.{call_hits}
use Rattle.rept_machine.specs.Arithmetic.{loaded}
use Rattle.rept_machine.specs.State.{State}
use Rattle.rept_machine.specs.Writes.{WritesBy}
use Rattle.rept_relate.specs.Classes.Valuations.{word_of}
use Rattle.rept_relate.specs.declared.words.WordPlace.{WordPlace}
use Rattle.rept_relate.specs.declared.words.WordSlot.{WordSlot}

-- the place is at this address
pub record IsPlaceOf (value : ℕ → ℕ) (place : WordPlace) (a : ℕ) : Type 0 where
  pub stands : word_of value place.address ≡ a
  pub low : place.lo ≤ a
  pub high : a ≤ place.hi

-- no byte of the word at the one place is one of so many bytes at the other
abbrev pub IsApart : WordPlace → WordPlace → ℕ → Type 0
IsApart held other width = (value : ℕ → ℕ) (a b : ℕ) → IsPlaceOf value held a → IsPlaceOf value other b → (k j : ℕ) → k < 4 → j < width → beside a k ≡ beside b j → ⊥

-- a load of the slot's kind at its place has the word of its node
pub record IsWordHeld (value : ℕ → ℕ) (s : State) (slot : WordSlot) : Type 0 where
  pub place : IsPlaceOf value slot.place (word_of value slot.place.address)
  pub word : loaded slot.op s.memory (word_of value slot.place.address) ≡ value slot.node

abbrev pub AreHeld : List WordSlot → (ℕ → ℕ) → State → Type 0
AreHeld slots value s = (k : ℕ) (slot : WordSlot) → slice_get slots k ≡ Some slot → slot.live ≡ true → IsWordHeld value s slot

abbrev pub AreNodesBelow : List WordSlot → ℕ → Type 0
AreNodesBelow slots limit = (k : ℕ) (slot : WordSlot) → slice_get slots k ≡ Some slot → slot.node < limit

-- each live slot of the new list is one of the old list, apart from the bytes at a place
pub record IsCleared (old : List WordSlot) (k : ℕ) (slot : WordSlot) (place : WordPlace) (width : ℕ) : Type 0 where
  pub kept : slice_get old k ≡ Some slot
  pub apart : IsApart slot.place place width

abbrev pub AreCleared : List WordSlot → List WordSlot → WordPlace → ℕ → Type 0
AreCleared old new place width = (k : ℕ) (slot : WordSlot) → slice_get new k ≡ Some slot → slot.live ≡ true → IsCleared old k slot place width

-- memory but for so many bytes
abbrev pub KeepsOthers : State → State → ℕ → ℕ → Type 0
KeepsOthers s t base width = (a : ℕ) → ((j : ℕ) → j < width → a ≡ beside base j → ⊥) → t.memory a ≡ s.memory a

-- an instruction that writes no memory
abbrev pub is_quiet : Instr → Bool
is_quiet (Store op rs1 rs2 imm) = false
is_quiet (Amo op rd rs1 rs2) = false
is_quiet Ecall = false
is_quiet _ = true

-- no byte of the word at the place is one of an access
abbrev pub IsOutside : WordPlace → CallAccess → Type 0
IsOutside place access = (value : ℕ → ℕ) (a k : ℕ) → IsPlaceOf value place a → k < 4 → call_hits access (beside a k) ≡ false

-- a live slot of the new list is one of the old list, outside of an access
pub record IsSlotLeft (old : List WordSlot) (k : ℕ) (slot : WordSlot) (access : CallAccess) : Type 0 where
  pub kept : slice_get old k ≡ Some slot
  pub outside : IsOutside slot.place access

abbrev pub AreLeft : List WordSlot → List WordSlot → CallAccess → Type 0
AreLeft old new access = (k : ℕ) (slot : WordSlot) → slice_get new k ≡ Some slot → slot.live ≡ true → IsSlotLeft old k slot access

-- a call writes bytes of an access alone
abbrev pub IsCallWithin : StepRow → CallAccess → ℕ → State → State → Type 0
IsCallWithin row access image_end s t = row.instr ≡ Ecall → (a : ℕ) → WritesBy row.instr image_end s t a → call_hits access a ≡ true

-- so does each call of the rows, by a list with an access for each row
abbrev pub AreCallsWithin : ℕ → List StepRow → List CallAccess → (ℕ → State) → Type 0
AreCallsWithin image_end rows calls run = (i : ℕ) (row : StepRow) (access : CallAccess) → slice_get rows i ≡ Some row → slice_get calls i ≡ Some access → IsCallWithin row access image_end (run i) (run (i + 1))
