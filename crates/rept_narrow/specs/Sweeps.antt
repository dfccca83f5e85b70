-- What is told while bytes are held from point to point: what is held at the point, spans that were
-- found before, and what was known before all. This project's own.
use Rattle.std.specs.Prelude.{◌≡◌, ◌⊎◌, ℕ, ◌+◌, ◌*◌, ◌≤◌, ◌<◌, List, length, Option, Some}
use Rattle.rept_isa.specs.declared.instr.LoadOp.{LoadOp}
use Rattle.rept_isa.specs.declared.instr.LoadOp.TheVariants.{Lb, Lh, Lw, Lbu, Lhu}
use Rattle.rept_machine.specs.State.{State}
use Rattle.rept_narrow.specs.declared.lanes.held.Held.{Held}
use Rattle.rept_narrow.specs.declared.lanes.span.ByteSpan.{ByteSpan}
use Rattle.rept_narrow.specs.Lanes.{held_at, lane_byte, AreTrueSpans, IsListed, IsTrueSweep, SweepView}
use Rattle.rept_known.specs.declared.both.Both.{Both}
use Rattle.rept_span.specs.Filled.{View}
use Rattle.rept_narrow.specs.Admitted.{Story}
use Rattle.rept_narrow.specs.Rules.{HasSets, WritesNot}

abbrev pub memory_of : (ℕ → State) → ℕ → ℕ → ℕ
memory_of run p a = (run p).memory a

abbrev pub IsHeldByte : SweepView → ℕ → ℕ → ℕ → Type 0
IsHeldByte sweep p a v = (p ≡ sweep.point) × ((h : Held) × (held_at sweep.held a ≡ Some h) × (h.value ≡ v))

abbrev pub tells_in : (ℕ → ℕ → Option ℕ) → List ByteSpan → SweepView → ℕ → ℕ → ℕ → Type 0
tells_in known lanes sweep p a v = IsHeldByte sweep p a v ⊎ ((lane_byte lanes p a ≡ Some v) ⊎ (known p a ≡ Some v))

-- what was known before all, and the spans that were found before, are true of an execution
pub record IsAround (story : Story) (run : ℕ → State) (known : ℕ → ℕ → Option ℕ) (lanes : List ByteSpan) (image_end : ℕ) : Type 0 where
  pub known_true : (p a v : ℕ) → p ≤ length story.rows → known p a ≡ Some v → (run p).memory a ≡ v
  pub image_end_is : story.image_end ≡ image_end
  pub lanes_true : AreTrueSpans (memory_of run) lanes

-- how many bytes a load reads
abbrev pub load_width : LoadOp → ℕ
load_width Lb = 1
load_width Lh = 2
load_width Lw = 4
load_width Lbu = 1
load_width Lhu = 2

-- each byte that is held, but those of a list, isn't written by a row
abbrev pub ListsWritten : Story → (ℕ → State) → ℕ → List (ℕ × Held) → List ℕ → Type 0
ListsWritten story run i held list = (a : ℕ) (h : Held) → held_at held a ≡ Some h → (IsListed list a → ⊥) → WritesNot story run i a

-- each byte that is held isn't written by a row
abbrev pub AreKept : Story → (ℕ → State) → ℕ → List (ℕ × Held) → Type 0
AreKept story run i held = (a : ℕ) (h : Held) → held_at held a ≡ Some h → WritesNot story run i a

-- the sets and the bytes of a sweep are those of an admitted execution
pub record IsFollowed (story : Story) (run : ℕ → State) (table : View Both) (sweep : SweepView) : Type 0 where
  pub sets : HasSets story table run
  pub bytes : IsTrueSweep (memory_of run) sweep

-- what was known before all is true of an execution
abbrev pub AreKnown : Story → (ℕ → State) → (ℕ → ℕ → Option ℕ) → Type 0
AreKnown story run known = (p a v : ℕ) → p ≤ length story.rows → known p a ≡ Some v → (run p).memory a ≡ v

-- sets and spans are those of an admitted execution
pub record IsFound (story : Story) (run : ℕ → State) (table : View Both) (on back : List ByteSpan) : Type 0 where
  pub sets : HasSets story table run
  pub on_true : AreTrueSpans (memory_of run) on
  pub back_true : AreTrueSpans (memory_of run) back
